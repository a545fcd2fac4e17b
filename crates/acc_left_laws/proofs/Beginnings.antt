-- The entries that draw: which event notes a begin or takes a recover, and the draw that its actor's journal has of it.
use Rattle.std.proofs.Common.{◌≡◌, ℕ, List, [], ◌∷◌, Option, None, Some, refl, sym, ap, subst, ⊎_elim}
use Rattle.std.specs.List.{flat_map, slice_get}
use Rattle.std.specs.Option.{option_map}
use Rattle.acc_stamp.specs.declared.stamps.TxnId.{TxnId}
use Rattle.acc_topology.specs.Layout.{Layout}
use Rattle.acc_txn.specs.declared.parts.BodyParts.{BodyParts}
use Rattle.acc_message.specs.declared.message.Message.{Message}
use Rattle.acc_message.specs.declared.note.Note.{Note}
use Rattle.acc_message.specs.declared.note.Note.TheVariants.{Begin as BeginNote, Recover as RecoverNote, Blocked, Ended, Decide as DecideNote, Outcome as OutcomeNote, Reply as ReplyNote}
use Rattle.acc_message.specs.declared.entry.Event.{Event}
use Rattle.acc_message.specs.declared.entry.Event.TheVariants.{Begin as BeginEvent, Recover as RecoverEvent, Slow as SlowEvent, Message as MessageEvent, Restart as RestartEvent}
use Rattle.acc_message.specs.declared.item.Item.{Item}
use Rattle.acc_message.specs.declared.item.Item.TheVariants.{Step, Skipped, Down}
use Rattle.acc_message.specs.Items.{id_of_txn, message_at, noted_in}
use Rattle.acc_message.specs.NodeRules.{Act, Begins, Recovers, Restarts, Slows, Takes, Deed, next_id}
use Rattle.acc_message.specs.Run.{Cluster, act_of, recovers}
use Rattle.acc_actor_laws.proofs.Standing.{not_none}
use Rattle.acc_actor_laws.proofs.OpeningFacts.{some_is}
use Rattle.acc_safety.specs.Histories.{Noting}
use Rattle.acc_safety.specs.NodeMoves.{NodeNotes, NotesBegin, NotesRecover, NotesDecision, NotesOutcome, NotesReply, NotesTold, NotesBlocked, NotesEnded}
use Rattle.acc_safety.specs.Places.{IsIn, Here, Behind, Whole}
use Rattle.acc_safety.proofs.Bridge.{Noting-past}
use Rattle.acc_safety.proofs.PlaceOrder.{none_is_in, only, IsIn-append_cases, IsIn-flat_map}
use Rattle.acc_run_laws.proofs.Begun.{begun_in, begun_of}

-- ---- what was begun was noted

pub note_begins : (x : TxnId) (note : Note) → IsIn x (begun_in note) → note ≡ BeginNote x
note_begins x (BeginNote id) there = ap BeginNote (sym (only x id there))
note_begins x (RecoverNote id ballot) there = absurd (none_is_in x there)
note_begins x (Blocked id ballot by) there = absurd (none_is_in x there)
note_begins x (Ended id ballot by) there = absurd (none_is_in x there)
note_begins x (DecideNote id t path deps) there = absurd (none_is_in x there)
note_begins x (OutcomeNote id reply) there = absurd (none_is_in x there)
note_begins x (ReplyNote id reply) there = absurd (none_is_in x there)

noting_here : (item : Item) (earlier : List Item) (note : Note) → IsIn note (noted_in item) → Noting (item ∷ earlier) note
noting_here (Step e) earlier note there = record { entry = e; earlier = earlier; at = Here (Step e) earlier; noted = there }
noting_here (Skipped step cause) earlier note there = absurd (none_is_in note there)
noting_here (Down actor) earlier note there = absurd (none_is_in note there)

pub begun_noted : (items : List Item) (x : TxnId) → IsIn x (begun_of items) → Noting items (BeginNote x)
begun_noted [] x there = absurd (none_is_in x there)
begun_noted (item ∷ earlier) x there =
    ⊎_elim
    (λ here.
    let from = IsIn-flat_map begun_in x (noted_in item) here in
    noting_here item earlier (BeginNote x) (subst (λ (note : Note). IsIn note (noted_in item)) (note_begins x from.source from.within) from.there))
    (λ rest. Noting-past earlier (item ∷ earlier) (BeginNote x) (Behind item earlier earlier (Whole earlier)) (begun_noted earlier x rest))
    (IsIn-append_cases x (flat_map begun_in (noted_in item)) (begun_of earlier) there)

-- ---- which act notes a begin

-- the node begins this transaction, and draws this id for it
pub record BeginsHere (node start : ℕ) (past : List Deed) (act : Act) (x : TxnId) : Type 0 where
  pub txn : ℕ
  pub body : BodyParts
  pub act_is : act ≡ Begins txn body
  pub drawn : next_id node start past ≡ x

pub begins_here : (layout : Layout) (node start : ℕ) (past : List Deed) (act : Act) (note : Note) (x : TxnId) → NodeNotes layout node start past act note → note ≡ BeginNote x
    → BeginsHere node start past act x
begins_here layout node start past act note x (NotesBegin txn body) is = record { txn = txn; body = body; act_is = refl; drawn = cc }
begins_here layout node start past act note x (NotesRecover y body) is = absurd cc
begins_here layout node start past act note x (NotesDecision on y a path s reacts) is = absurd cc
begins_here layout node start past act note x (NotesOutcome on y a s outcome reacts) is = absurd cc
begins_here layout node start past act note x (NotesReply on y a s outcome reacts open_now) is = absurd cc
begins_here layout node start past act note x (NotesTold from to y b outcome open_now) is = absurd cc
begins_here layout node start past act note x (NotesBlocked on y a by reacts) is = absurd cc
begins_here layout node start past act note x (NotesEnded on y a by reacts) is = absurd cc

-- ---- which events begin and recover

module _ (cluster : Cluster) (earlier : List Item) where
  module _ (txn : ℕ) (body : BodyParts) where
    begin_number : (number : ℕ) (o : Option BodyParts) → option_map (Begins number) o ≡ Some (Begins txn body) → number ≡ txn
    begin_number number None e = absurd (not_none (Begins txn body) e)
    begin_number number (Some other) e = let one : Begins number other ≡ Begins txn body = some_is (Begins number other) (Begins txn body) e in cc

    no_recover : (x : Option TxnId) (o : Option BodyParts) → recovers x o ≡ Some (Begins txn body) → ⊥
    no_recover None o e = not_none (Begins txn body) e
    no_recover (Some x) None e = not_none (Begins txn body) e
    no_recover (Some x) (Some b) e = cc

    no_slow : (x : Option TxnId) → option_map Slows x ≡ Some (Begins txn body) → ⊥
    no_slow None e = not_none (Begins txn body) e
    no_slow (Some x) e = cc

    no_message : (m : Option Message) → option_map Takes m ≡ Some (Begins txn body) → ⊥
    no_message None e = not_none (Begins txn body) e
    no_message (Some m) e = cc

    no_restart : Some Restarts ≡ Some (Begins txn body) → ⊥
    no_restart e = cc

    pub begin_event : (event : Event) → act_of cluster earlier event ≡ Some (Begins txn body) → event ≡ BeginEvent txn
    begin_event (BeginEvent number) is = ap BeginEvent (begin_number number (slice_get cluster.bodies number) is)
    begin_event (RecoverEvent number) is = absurd (no_recover (id_of_txn earlier number) (slice_get cluster.bodies number) is)
    begin_event (SlowEvent number) is = absurd (no_slow (id_of_txn earlier number) is)
    begin_event (MessageEvent number) is = absurd (no_message (message_at earlier number) is)
    begin_event (RestartEvent kept) is = absurd (no_restart is)

  -- a recover of the transaction with this number, which has this id
  pub record RecoversNumber (x : TxnId) (event : Event) : Type 0 where
    pub txn : ℕ
    pub event_is : event ≡ RecoverEvent txn
    pub id_is : id_of_txn earlier txn ≡ Some x

  module _ (x : TxnId) (body : BodyParts) where
    recover_id : (o : Option TxnId) (b : Option BodyParts) → recovers o b ≡ Some (Recovers x body) → o ≡ Some x
    recover_id None b e = absurd (not_none (Recovers x body) e)
    recover_id (Some y) None e = absurd (not_none (Recovers x body) e)
    recover_id (Some y) (Some other) e =
        let one : Recovers y other ≡ Recovers x body = some_is (Recovers y other) (Recovers x body) e in
        let same : y ≡ x = cc in
        ap Some same

    begins_none : (number : ℕ) (o : Option BodyParts) → option_map (Begins number) o ≡ Some (Recovers x body) → ⊥
    begins_none number None e = not_none (Recovers x body) e
    begins_none number (Some b) e = cc

    slows_none : (y : Option TxnId) → option_map Slows y ≡ Some (Recovers x body) → ⊥
    slows_none None e = not_none (Recovers x body) e
    slows_none (Some y) e = cc

    takes_none : (m : Option Message) → option_map Takes m ≡ Some (Recovers x body) → ⊥
    takes_none None e = not_none (Recovers x body) e
    takes_none (Some m) e = cc

    restarts_none : Some Restarts ≡ Some (Recovers x body) → ⊥
    restarts_none e = cc

    pub recover_event : (event : Event) → act_of cluster earlier event ≡ Some (Recovers x body) → RecoversNumber x event
    recover_event (BeginEvent number) is = absurd (begins_none number (slice_get cluster.bodies number) is)
    recover_event (RecoverEvent number) is = record { txn = number; event_is = refl; id_is = recover_id (id_of_txn earlier number) (slice_get cluster.bodies number) is }
    recover_event (SlowEvent number) is = absurd (slows_none (id_of_txn earlier number) is)
    recover_event (MessageEvent number) is = absurd (takes_none (message_at earlier number) is)
    recover_event (RestartEvent kept) is = absurd (restarts_none is)
