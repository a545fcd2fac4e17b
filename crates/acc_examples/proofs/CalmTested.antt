-- Calm, and that each begun transaction has a reply, are decided by tests.
use Rattle.std.proofs.Common.{◌≡◌, ℕ, zero, suc, ◌<◌, Bool, true, ◌&&◌, List, [], ◌∷◌, length, refl, sym, subst, ⊎_elim}
use Rattle.std.specs.Bool.{Decides}
use Rattle.std.specs.List.{list_any, list_all}
use Rattle.std.proofs.lemmas.Bool.{true≢false, or_left, or_right, or_cases, and_parts, and_from}
use Rattle.std.proofs.lemmas.Bool.Decides.{Decides-below_and}
use Rattle.acc_stamp.specs.declared.stamps.TxnId.{TxnId}
use Rattle.acc_stamp.proofs.Order.{id_order}
use Rattle.acc_message.specs.declared.note.Note.{Note}
use Rattle.acc_message.specs.declared.note.Note.TheVariants.{Begin as BeginNote, Recover as RecoverNote, Blocked, Ended, Decide, Outcome as OutcomeNote, Reply as ReplyNote}
use Rattle.acc_message.specs.declared.item.Item.{Item}
use Rattle.acc_message.specs.Items.{sent_of, notes_of, begins, replies}
use Rattle.acc_safety.specs.Calm.{item_takes}
use Rattle.acc_safety.specs.Calm.{is_calm_item, IsCalm, EachBegunIsAnswered}
use Rattle.acc_examples.specs.Refusals.{HoldsOfEach, HoldsOfNone}
use Rattle.acc_examples.specs.CalmOnes.{calm_ones, not_calm_ones, answered_ones, unanswered_ones}
use Rattle.acc_examples.proofs.Tested.{each_by, none_by}

-- ---- calm

abbrev is_taken : List Item → ℕ → Bool
is_taken items number = list_any (item_takes number) items

abbrev all_below : (ℕ → Bool) → ℕ → Bool
all_below test zero = true
all_below test (suc n) = test n && all_below test n

taken-Decides : (items : List Item) (n : ℕ) → Decides (all_below (is_taken items) n) ((number : ℕ) → number < n → is_taken items number ≡ true)
taken-Decides items =
    Decides-below_and (is_taken items) (λ number. is_taken items number ≡ true) (all_below (is_taken items)) (λ number. (λ h. h, λ h. h)) refl (λ n. refl)

abbrev pub calm_test : List Item → Bool
calm_test items = list_all is_calm_item items && all_below (is_taken items) (length (sent_of items))

calm-sound : (items : List Item) → calm_test items ≡ true → IsCalm items
calm-sound items h =
    let parts = and_parts (list_all is_calm_item items) (all_below (is_taken items) (length (sent_of items))) h in
    record { events = parts.0; taken = (taken-Decides items (length (sent_of items))).0 parts.1 }

calm-complete : (items : List Item) → IsCalm items → calm_test items ≡ true
calm-complete items h =
    and_from (list_all is_calm_item items) (all_below (is_taken items) (length (sent_of items))) h.events
    ((taken-Decides items (length (sent_of items))).1 h.taken)

pub calm_ones-hold : HoldsOfEach IsCalm calm_ones
calm_ones-hold = each_by calm_test IsCalm calm-sound calm_ones refl

pub not_calm_ones-refused : HoldsOfNone IsCalm not_calm_ones
not_calm_ones-refused = none_by calm_test IsCalm calm-complete not_calm_ones refl

-- ---- replies

abbrev has_reply : List Note → Note → Bool
has_reply all (BeginNote id) = list_any (replies id) all
has_reply all (RecoverNote id ballot) = true
has_reply all (Blocked id ballot by) = true
has_reply all (Ended id ballot by) = true
has_reply all (Decide id t path deps) = true
has_reply all (OutcomeNote id reply) = true
has_reply all (ReplyNote id reply) = true

abbrev pub answered_test : List Item → Bool
answered_test items = list_all (has_reply (notes_of items)) (notes_of items)

reply_found : (all : List Note) (x : TxnId) (note : Note) → begins x note ≡ true → has_reply all note ≡ true → list_any (replies x) all ≡ true
reply_found all x (BeginNote id) h k = subst (λ y. list_any (replies y) all ≡ true) ((id_order.decides id x).0 h) k
reply_found all x (RecoverNote id ballot) h k = absurd (true≢false (sym h))
reply_found all x (Blocked id ballot by) h k = absurd (true≢false (sym h))
reply_found all x (Ended id ballot by) h k = absurd (true≢false (sym h))
reply_found all x (Decide id t path deps) h k = absurd (true≢false (sym h))
reply_found all x (OutcomeNote id reply) h k = absurd (true≢false (sym h))
reply_found all x (ReplyNote id reply) h k = absurd (true≢false (sym h))

answered-in : (all : List Note) (x : TxnId) (notes : List Note) → list_all (has_reply all) notes ≡ true → list_any (begins x) notes ≡ true
    → list_any (replies x) all ≡ true
answered-in all x [] h k = absurd (true≢false (sym k))
answered-in all x (note ∷ notes) h k =
    let parts = and_parts (has_reply all note) (list_all (has_reply all) notes) h in
    ⊎_elim (λ here. reply_found all x note here parts.0) (answered-in all x notes parts.1) (or_cases (begins x note) (list_any (begins x) notes) k)

answered-sound : (items : List Item) → answered_test items ≡ true → EachBegunIsAnswered items
answered-sound items h x begun = answered-in (notes_of items) x (notes_of items) h begun

answered-all : (all : List Note) (notes : List Note) → ((x : TxnId) → list_any (begins x) notes ≡ true → list_any (replies x) all ≡ true)
    → list_all (has_reply all) notes ≡ true
answered-all all [] h = refl
answered-all all (note ∷ notes) h =
    and_from (has_reply all note) (list_all (has_reply all) notes) (here note (λ x k. h x (or_left (begins x note) (list_any (begins x) notes) k)))
    (answered-all all notes (λ x k. h x (or_right (begins x note) (list_any (begins x) notes) k)))
  where
    here : (note : Note) → ((x : TxnId) → begins x note ≡ true → list_any (replies x) all ≡ true) → has_reply all note ≡ true
    here (BeginNote id) k = k id ((id_order.decides id id).1 refl)
    here (RecoverNote id ballot) k = refl
    here (Blocked id ballot by) k = refl
    here (Ended id ballot by) k = refl
    here (Decide id t path deps) k = refl
    here (OutcomeNote id reply) k = refl
    here (ReplyNote id reply) k = refl

answered-complete : (items : List Item) → EachBegunIsAnswered items → answered_test items ≡ true
answered-complete items h = answered-all (notes_of items) (notes_of items) h

pub answered_ones-hold : HoldsOfEach EachBegunIsAnswered answered_ones
answered_ones-hold = each_by answered_test EachBegunIsAnswered answered-sound answered_ones refl

pub unanswered_ones-refused : HoldsOfNone EachBegunIsAnswered unanswered_ones
unanswered_ones-refused = none_by answered_test EachBegunIsAnswered answered-complete unanswered_ones refl
