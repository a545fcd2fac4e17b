-- What an entry puts into the journal of its actor, and what a journal has with one item more.
use Rattle.std.proofs.Common.{◌≡◌, ℕ, ◌+◌, true, false, cond, List, [], ◌∷◌, ◌++◌, Some, refl, ◌∙◌, ap}
use Rattle.std.proofs.lemmas.List.{append-nil}
use Rattle.acc_stamp.specs.declared.actors.Actor.{Actor}
use Rattle.acc_stamp.specs.declared.stamps.TxnId.{TxnId}
use Rattle.acc_txn.specs.declared.parts.BodyParts.{BodyParts}
use Rattle.acc_message.specs.declared.message.Message.{Message}
use Rattle.acc_message.specs.declared.note.Note.{Note}
use Rattle.acc_message.specs.declared.entry.Entry.{Entry}
use Rattle.acc_message.specs.declared.entry.Event.TheVariants.{Begin as BeginEvent, Recover as RecoverEvent, Message as MessageEvent}
use Rattle.acc_message.specs.declared.item.Item.{Item}
use Rattle.acc_message.specs.declared.item.Item.TheVariants.{Step, Skipped, Down}
use Rattle.acc_message.specs.Items.{same_actor, message_at}
use Rattle.acc_message.specs.NodeRules.{Begins, Recovers}
use Rattle.acc_message.specs.Run.{Cluster, deeds_of, is_node, emits_by, emits}
use Rattle.acc_message_code.specs.MessageSpelling.{message_bytes}
use Rattle.acc_run_laws.specs.Heights.{clock_at}
use Rattle.acc_payloads.specs.declared.draw.Purpose.TheVariants.{Begin, Recover}
use Rattle.acc_payloads.specs.Spelling.{draw_bytes}
use Rattle.acc_payloads.specs.Acts.{next_draw_of}
use Rattle.acc_payloads.specs.Items.{drawn_by, draw_payload, message_payload, payload_by, payload_in, payloads_in, is_item_of, is_down_of, downs_in, ends_down}

-- ---- one entry

module _ (cluster : Cluster) (items : List Item) (a : Actor) where
  -- a node notes what it draws
  pub begin_payload : (txn number : ℕ) (body : BodyParts) → is_node a ≡ true
      → payload_by items a (BeginEvent txn) (emits cluster items a (Begins number body)).notes
      ≡ draw_bytes (next_draw_of (clock_at cluster a items) Begin txn) ∷ []
  begin_payload txn number body node =
      ap (λ b. draw_payload Begin txn (drawn_by (emits_by b cluster a (deeds_of cluster a items) (Begins number body)).notes)) node

  pub recover_payload : (txn : ℕ) (x : TxnId) (body : BodyParts) → is_node a ≡ true
      → payload_by items a (RecoverEvent txn) (emits cluster items a (Recovers x body)).notes
      ≡ draw_bytes (next_draw_of (clock_at cluster a items) Recover txn) ∷ []
  recover_payload txn x body node =
      ap (λ b. draw_payload Recover txn (drawn_by (emits_by b cluster a (deeds_of cluster a items) (Recovers x body)).notes)) node

pub store_payload : (items : List Item) (a : Actor) (number : ℕ) (m : Message) (notes : List Note) → is_node a ≡ false → message_at items number ≡ Some m
    → payload_by items a (MessageEvent number) notes ≡ message_bytes m ∷ []
store_payload items a number m notes store is =
    ap (λ b. cond b [] (message_payload (message_at items number))) store ∙ ap message_payload is

pub node_payload : (items : List Item) (a : Actor) (number : ℕ) (notes : List Note) → is_node a ≡ true
    → payload_by items a (MessageEvent number) notes ≡ []
node_payload items a number notes node = ap (λ b. cond b [] (message_payload (message_at items number))) node

-- ---- a journal with one item more

module _ (earlier : List Item) (e : Entry) (a : Actor) where
  pub payloads_more : same_actor e.actor a ≡ true
      → payloads_in a (Step e ∷ earlier) ≡ payloads_in a earlier ++ payload_by earlier a e.event e.emitted.notes
  payloads_more here = ap (λ b. payloads_in a earlier ++ cond b (payload_by earlier a e.event e.emitted.notes) []) here

  pub ends_own : same_actor e.actor a ≡ true → ends_down a (Step e ∷ earlier) ≡ false
  ends_own here = ap (λ b. cond b false (ends_down a earlier)) here

module _ (earlier : List Item) (item : Item) (a : Actor) (other : is_item_of a item ≡ false) where
  pub payloads_same : payloads_in a (item ∷ earlier) ≡ payloads_in a earlier
  payloads_same = ap (λ ps. payloads_in a earlier ++ ps) (none item other) ∙ append-nil (payloads_in a earlier)
    where
      none : (item : Item) → is_item_of a item ≡ false → payload_in a earlier item ≡ []
      none (Step e) apart = ap (λ b. cond b (payload_by earlier a e.event e.emitted.notes) []) apart
      none (Skipped step cause) apart = refl
      none (Down actor) apart = refl

  pub downs_same : downs_in a (item ∷ earlier) ≡ downs_in a earlier
  downs_same = ap (λ b. cond b (1 + downs_in a earlier) (downs_in a earlier)) (none item other)
    where
      none : (item : Item) → is_item_of a item ≡ false → is_down_of a item ≡ false
      none (Step e) apart = refl
      none (Skipped step cause) apart = refl
      none (Down actor) apart = apart

  pub ends_same : ends_down a (item ∷ earlier) ≡ ends_down a earlier
  ends_same = ap (λ b. cond b (is_down_of a item) (ends_down a earlier)) other
