-- The attempt at a transaction is that of its last begin or recover, with no restart and no note of its end since.
use Rattle.std.proofs.Common.{◌≡◌, ℕ, Bool, true, false, not, ◌&&◌, ◌||◌, cond, List, [], ◌∷◌, ◌++◌, Option, None, Some, refl, sym, ◌∙◌, ap, subst, ⊎_elim}
use Rattle.std.specs.List.{list_any, flat_map}
use Rattle.std.specs.Option.{option_map}
use Rattle.std.proofs.lemmas.Bool.{true≢false, and_parts, false_from_ne_true, cond_both}
use Rattle.acc_base.specs.Faults.{or_else}
use Rattle.acc_stamp.specs.declared.stamps.TxnId.{TxnId}
use Rattle.acc_stamp.specs.declared.stamps.Ballot.{Ballot}
use Rattle.acc_stamp.specs.declared.actors.Actor.{Actor}
use Rattle.acc_stamp.specs.Actor.{actor_of}
use Rattle.acc_stamp.specs.Stamp.{id_eq, zero_ballot}
use Rattle.acc_stamp.proofs.Order.{id_order, eq_itself}
use Rattle.acc_topology.specs.Layout.{Layout}
use Rattle.acc_txn.specs.declared.parts.BodyParts.{BodyParts}
use Rattle.acc_txn.specs.declared.outcome.Outcome.{Outcome}
use Rattle.acc_message.specs.declared.message.Message.{Message}
use Rattle.acc_message.specs.declared.message.Message.TheVariants.{PreAccept, PreAcceptOk, Accept, AcceptOk, Commit, CommitOk, Stable, ReadOk, Apply, Recover, RecoverOk, Nack, Decided, Inform}
use Rattle.acc_message.specs.declared.note.Note.{Note}
use Rattle.acc_message.specs.declared.note.Note.TheVariants.{Begin as BeginNote, Recover as RecoverNote, Blocked, Ended, Decide as DecideNote, Outcome as OutcomeNote, Reply as ReplyNote}
use Rattle.acc_message.specs.declared.entry.Emitted.{Emitted}
use Rattle.acc_message.specs.Fields.{from_of, id_of, ballot_of}
use Rattle.acc_message.specs.Shares.{is_store_of}
use Rattle.acc_message.specs.Attempts.{Attempt, Phase, Voting, Recovering, Accepting, Committing, Executing, fits, same_seat, counts}
use Rattle.acc_message.specs.Coordinator.{Reaction, begun, recovering, reaction, slow_reaction, with_answer}
use Rattle.acc_message.specs.NodeRules.{Act, Begins, Recovers, Slows, Takes, Restarts, Deed, is_restart, is_open, next_id, next_ballot, next_by, where_about, attempt_after, attempt_of, emitted_by, replied, with_reply, on_taking, node_emits}
use Rattle.acc_safety.specs.Places.{IsIn}
use Rattle.acc_safety.specs.Histories.{EachEmits}
use Rattle.acc_safety.specs.NodeMoves.{Move, Wait, Propose, CommitTo, DecideBy, FinishWith, BlockBy, EndBy, made, Hears, Ignores, Counts, IsEnded, TakesOver, Reacts, ToSlow, ToMessage, NodeNotes, NotesBegin, NotesRecover, NotesDecision, NotesOutcome, NotesReply, NotesTold, NotesBlocked, NotesEnded}
use Rattle.acc_safety.specs.Underway.{Start, starts_with, ends_it, underway, start_of, start_if}
use Rattle.acc_safety.proofs.PlaceOrder.{passing}
use Rattle.acc_safety.proofs.NodeMoved.{hears_all, slow_moved}
use Rattle.acc_safety.proofs.NodeSent.{node_notes}

-- ---- what a move leaves

over_itself : (x : TxnId) (rest : Bool) (s : Start) → cond (id_eq x x || rest) None (Some s) ≡ None
over_itself x rest s = ap (λ b. cond (b || rest) None (Some s)) (eq_itself id_order x)

module _ (layout : Layout) (own : Actor) (x : TxnId) where
  move_leaves : (a : Attempt) (move : Move)
      → cond (list_any (ends_it x) (made layout own x a move).emitted.notes) None (Some (start_of a)) ≡ start_if (made layout own x a move).next
  move_leaves a Wait = refl
  move_leaves a (Propose s) = refl
  move_leaves a (CommitTo s) = refl
  move_leaves a (DecideBy path s) = refl
  move_leaves a (FinishWith s outcome) = over_itself x false (start_of a)
  move_leaves a (BlockBy by) = over_itself x false (start_of a)
  move_leaves a (EndBy by) = over_itself x false (start_of a)

  replies_leave : (is_open : Bool) (a : Attempt) (move : Move)
      → cond (list_any (ends_it x) (flat_map (replied is_open) (made layout own x a move).emitted.notes)) None (Some (start_of a))
      ≡ start_if (made layout own x a move).next
  replies_leave is_open a Wait = refl
  replies_leave is_open a (Propose s) = refl
  replies_leave is_open a (CommitTo s) = refl
  replies_leave is_open a (DecideBy path s) = refl
  replies_leave is_open a (FinishWith s outcome) =
      over_itself x (list_any (ends_it x) (cond is_open (ReplyNote x outcome.reply ∷ []) [] ++ [])) (start_of a)
  replies_leave is_open a (BlockBy by) = over_itself x false (start_of a)
  replies_leave is_open a (EndBy by) = over_itself x false (start_of a)

  -- the attempt that moves has the start of the one before
  hears_start : (before : Attempt) (m : Message) (a : Attempt) (move : Move) → Hears layout x before m a move → start_of a ≡ start_of before
  hears_start before m a move (Ignores n) = refl
  hears_start before m a move (Counts n moved same counting moves) = refl
  hears_start before m a move (IsEnded from to id ballot promised same above) = refl
  hears_start before m a move (TakesOver from to id ballot t deps same undecided ready) = refl

-- ---- notes of a step that end the attempt at x

no_end : (notes : List Note) (x : TxnId) → ((note : Note) → IsIn note notes → ends_it x note ≡ true → ⊥) → list_any (ends_it x) notes ≡ false
no_end notes x h = false_from_ne_true (list_any (ends_it x) notes) (λ is. let p = passing (ends_it x) notes is in h p.element p.there p.passes)

module _ (layout : Layout) (node start : ℕ) (past : List Deed) (x : TxnId) where
  -- a step that isn't about x ends no attempt at it
  other_notes : (act : Act) (note : Note) → ((a : Attempt) (move : Move) → Reacts layout node start past x act a move → ⊥)
      → NodeNotes layout node start past act note → ends_it x note ≡ true → ⊥
  other_notes act note none (NotesBegin txn body) is = true≢false (sym is)
  other_notes act note none (NotesRecover y body) is = true≢false (sym is)
  other_notes act note none (NotesDecision on y a path s reacts) is = true≢false (sym is)
  other_notes act note none (NotesOutcome on y a s outcome reacts) is =
      none a (FinishWith s outcome) (subst (λ z. Reacts layout node start past z on a (FinishWith s outcome)) ((id_order.decides y x).0 is) reacts)
  other_notes act note none (NotesReply on y a s outcome reacts open_now) is = true≢false (sym is)
  other_notes act note none (NotesTold from to y b outcome open_now) is = true≢false (sym is)
  other_notes act note none (NotesBlocked on y a by reacts) is =
      none a (BlockBy by) (subst (λ z. Reacts layout node start past z on a (BlockBy by)) ((id_order.decides y x).0 is) reacts)
  other_notes act note none (NotesEnded on y a by reacts) is =
      none a (EndBy by) (subst (λ z. Reacts layout node start past z on a (EndBy by)) ((id_order.decides y x).0 is) reacts)

  quiet : (act : Act) → ((a : Attempt) (move : Move) → Reacts layout node start past x act a move → ⊥)
      → list_any (ends_it x) (node_emits layout node start past act).notes ≡ false
  quiet act none =
      no_end (node_emits layout node start past act).notes x
      (λ note there is. other_notes act note none (node_notes layout node start past act note there) is)

-- ---- a step more

inform_fits : (phase : Phase) (from to : Actor) (id : TxnId) (b : Ballot) (outcome : Outcome) → fits phase (Inform from to id b outcome) ≡ false
inform_fits Voting from to id b outcome = refl
inform_fits Recovering from to id b outcome = refl
inform_fits (Accepting s) from to id b outcome = refl
inform_fits (Committing s) from to id b outcome = refl
inform_fits (Executing s) from to id b outcome = refl

module _ (layout : Layout) (node start : ℕ) (past : List Deed) where
  -- an Inform changes no attempt
  inform_hears : (x : TxnId) (from to : Actor) (id : TxnId) (b : Ballot) (outcome : Outcome) (a moving : Attempt) (move : Move)
      → Hears layout x a (Inform from to id b outcome) moving move → start_if (made layout (actor_of node 0) x moving move).next ≡ Some (start_of a)
  inform_hears x from to id b outcome a moving move (Ignores n) = refl
  inform_hears x from to id b outcome a moving move (Counts n moved same counting moves) =
      absurd (true≢false (sym (and_parts (fits a.phase (Inform from to id b outcome)) (is_store_of layout a.body from) (and_parts (fits a.phase (Inform from to id b outcome) && is_store_of layout a.body from) (not (list_any (λ earlier. same_seat a.phase (from_of earlier) from) a.answers)) counting).0).0
      ∙ inform_fits a.phase from to id b outcome))

  inform_leaves : (x : TxnId) (from to : Actor) (id : TxnId) (b : Ballot) (outcome : Outcome) (before : Option Start) (o : Option Attempt) → before ≡ start_if o
      → before ≡ start_if (next_by (λ a. reaction layout (actor_of node 0) x a (Inform from to id b outcome)) o)
  inform_leaves x from to id b outcome before None is = is
  inform_leaves x from to id b outcome before (Some a) is =
      let r = hears_all layout (actor_of node 0) x a (Inform from to id b outcome) in
      is ∙ sym (ap (λ (r : Reaction). start_if r.next) r.is ∙ inform_hears x from to id b outcome a r.moving r.move r.hears)

  taking_leaves : (x : TxnId) (is_open_now : Bool) (m : Message) (before : Option Start) (o : Option Attempt) → before ≡ start_if o
      → cond (list_any (ends_it x) (with_reply is_open_now (emitted_by (λ a. reaction layout (actor_of node 0) x a m) o)).notes) None before
      ≡ start_if (next_by (λ a. reaction layout (actor_of node 0) x a m) o)
  taking_leaves x is_open_now m before None is = is
  taking_leaves x is_open_now m before (Some a) is =
      let r = hears_all layout (actor_of node 0) x a m in
      ap (cond (list_any (ends_it x) (flat_map (replied is_open_now) (reaction layout (actor_of node 0) x a m).emitted.notes)) None)
      (is ∙ ap Some (sym (hears_start layout (actor_of node 0) x a m r.moving r.move r.hears)))
      ∙ ap (λ (k : Reaction). cond (list_any (ends_it x) (flat_map (replied is_open_now) k.emitted.notes)) None (Some (start_of r.moving))) r.is
      ∙ replies_leave layout (actor_of node 0) x is_open_now r.moving r.move
      ∙ sym (ap (λ (k : Reaction). start_if k.next) r.is)

  slow_leaves : (x : TxnId) (before : Option Start) (o : Option Attempt) → before ≡ start_if o
      → cond (list_any (ends_it x) (emitted_by (slow_reaction layout (actor_of node 0) x) o).notes) None before
      ≡ start_if (next_by (slow_reaction layout (actor_of node 0) x) o)
  slow_leaves x before None is = is
  slow_leaves x before (Some a) is =
      let r = slow_moved layout (actor_of node 0) x a in
      ap (cond (list_any (ends_it x) (slow_reaction layout (actor_of node 0) x a).emitted.notes) None) is
      ∙ ap (λ (k : Reaction). cond (list_any (ends_it x) k.emitted.notes) None (Some (start_of a))) r.is
      ∙ move_leaves layout (actor_of node 0) x a r.move
      ∙ sym (ap (λ (k : Reaction). start_if k.next) r.is)

  -- a message about x
  about_leaves : (m : Message) (before : Option Start) → before ≡ start_if (attempt_of layout node start (id_of m) past)
      → cond (list_any (ends_it (id_of m)) (on_taking layout node start past m).notes) None before
      ≡ start_if (next_by (λ a. reaction layout (actor_of node 0) (id_of m) a m) (attempt_of layout node start (id_of m) past))
  about_leaves (Inform from to id b outcome) before is =
      cond_both (is_open id past) (ReplyNote id outcome.reply ∷ []) []
      (λ notes. cond (list_any (ends_it id) notes) None before ≡ before) (λ _. refl) (λ _. refl)
      ∙ inform_leaves id from to id b outcome before (attempt_of layout node start id past) is
  about_leaves (PreAccept from to id b body) before is = taking_leaves id (is_open id past) (PreAccept from to id b body) before (attempt_of layout node start id past) is
  about_leaves (PreAcceptOk from to id b vote deps) before is = taking_leaves id (is_open id past) (PreAcceptOk from to id b vote deps) before (attempt_of layout node start id past) is
  about_leaves (Accept from to id b body t deps) before is = taking_leaves id (is_open id past) (Accept from to id b body t deps) before (attempt_of layout node start id past) is
  about_leaves (AcceptOk from to id b deps) before is = taking_leaves id (is_open id past) (AcceptOk from to id b deps) before (attempt_of layout node start id past) is
  about_leaves (Commit from to id b body t deps) before is = taking_leaves id (is_open id past) (Commit from to id b body t deps) before (attempt_of layout node start id past) is
  about_leaves (CommitOk from to id b) before is = taking_leaves id (is_open id past) (CommitOk from to id b) before (attempt_of layout node start id past) is
  about_leaves (Stable from to id b body t deps) before is = taking_leaves id (is_open id past) (Stable from to id b body t deps) before (attempt_of layout node start id past) is
  about_leaves (ReadOk from to id b answer) before is = taking_leaves id (is_open id past) (ReadOk from to id b answer) before (attempt_of layout node start id past) is
  about_leaves (Apply from to id b body t deps outcome) before is = taking_leaves id (is_open id past) (Apply from to id b body t deps outcome) before (attempt_of layout node start id past) is
  about_leaves (Recover from to id b body) before is = taking_leaves id (is_open id past) (Recover from to id b body) before (attempt_of layout node start id past) is
  about_leaves (RecoverOk from to id b view) before is = taking_leaves id (is_open id past) (RecoverOk from to id b view) before (attempt_of layout node start id past) is
  about_leaves (Nack from to id b promised) before is = taking_leaves id (is_open id past) (Nack from to id b promised) before (attempt_of layout node start id past) is
  about_leaves (Decided from to id b t deps) before is = taking_leaves id (is_open id past) (Decided from to id b t deps) before (attempt_of layout node start id past) is

  -- what a step leaves of the attempt at x
  Leaves : TxnId → Option Start → Act → Type 0
  Leaves x before act =
      or_else (starts_with node start x past act) (cond (is_restart act || list_any (ends_it x) (node_emits layout node start past act).notes) None before)
      ≡ start_if (attempt_after layout node start x past (attempt_of layout node start x past) act)

  no_reaction : (x y : TxnId) → id_eq y x ≡ false → (a : Attempt) (move : Move) → Reacts layout node start past x (Slows y) a move → ⊥
  no_reaction x y apart a move (ToSlow b moved is moves) = true≢false (sym (eq_itself id_order y) ∙ apart)

  no_hearing : (x : TxnId) (m : Message) → id_eq (id_of m) x ≡ false → (a : Attempt) (move : Move) → Reacts layout node start past x (Takes m) a move → ⊥
  no_hearing x m apart a move (ToMessage before b n moved is about hears) = true≢false (sym ((id_order.decides (id_of n) x).1 about) ∙ apart)

  step_leaves : (x : TxnId) (before : Option Start) → before ≡ start_if (attempt_of layout node start x past) → (act : Act) → Leaves x before act
  unfolding Leaves
  step_leaves x before is (Begins txn body) = by (id_eq (next_id node start past) x)
    where
      by : (b : Bool) → or_else (cond b (Some (record { ballot = zero_ballot; body = body })) None) before
          ≡ start_if (cond b (Some (begun body)) (attempt_of layout node start x past))
      by true = refl
      by false = is
  step_leaves x before is (Recovers y body) = by (id_eq y x)
    where
      by : (b : Bool) → or_else (cond b (Some (record { ballot = next_ballot node start past; body = body })) None) before
          ≡ start_if (cond b (Some (recovering (next_ballot node start past) body)) (attempt_of layout node start x past))
      by true = refl
      by false = is
  step_leaves x before is (Slows y) = by (id_eq y x) refl
    where
      by : (b : Bool) → id_eq y x ≡ b
          → cond (list_any (ends_it x) (emitted_by (slow_reaction layout (actor_of node 0) y) (attempt_of layout node start y past)).notes) None before
          ≡ start_if (where_about b (next_by (slow_reaction layout (actor_of node 0) x)) (attempt_of layout node start x past))
      by true same =
          subst (λ z. cond (list_any (ends_it x) (emitted_by (slow_reaction layout (actor_of node 0) z) (attempt_of layout node start z past)).notes) None before
          ≡ start_if (next_by (slow_reaction layout (actor_of node 0) x) (attempt_of layout node start x past)))
          (sym ((id_order.decides y x).0 same)) (slow_leaves x before (attempt_of layout node start x past) is)
      by false apart = ap (λ b. cond b None before) (quiet layout node start past x (Slows y) (no_reaction x y apart)) ∙ is
  step_leaves x before is (Takes m) = by (id_eq (id_of m) x) refl
    where
      by : (b : Bool) → id_eq (id_of m) x ≡ b
          → cond (list_any (ends_it x) (on_taking layout node start past m).notes) None before
          ≡ start_if (where_about b (next_by (λ a. reaction layout (actor_of node 0) x a m)) (attempt_of layout node start x past))
      by true same = about x ((id_order.decides (id_of m) x).0 same) is
        where
          about : (z : TxnId) → id_of m ≡ z → before ≡ start_if (attempt_of layout node start z past)
              → cond (list_any (ends_it z) (on_taking layout node start past m).notes) None before
              ≡ start_if (next_by (λ a. reaction layout (actor_of node 0) z a m) (attempt_of layout node start z past))
          about z here was =
              subst (λ w. before ≡ start_if (attempt_of layout node start w past)
              → cond (list_any (ends_it w) (on_taking layout node start past m).notes) None before
              ≡ start_if (next_by (λ a. reaction layout (actor_of node 0) w a m) (attempt_of layout node start w past)))
              here (about_leaves m before) was
      by false apart = ap (λ b. cond b None before) (quiet layout node start past x (Takes m) (no_hearing x m apart)) ∙ is
  step_leaves x before is Restarts = refl

-- the attempt at a transaction is the one that is underway
pub underway_is : (layout : Layout) (node start : ℕ) (x : TxnId) (deeds : List Deed) → EachEmits layout node start deeds
    → underway node start x deeds ≡ start_if (attempt_of layout node start x deeds)
unfolding Leaves
underway_is layout node start x [] h = refl
underway_is layout node start x (deed ∷ past) h =
    ap (λ (e : Emitted). or_else (starts_with node start x past deed.act) (cond (is_restart deed.act || list_any (ends_it x) e.notes) None (underway node start x past))) h.0
    ∙ step_leaves layout node start past x (underway node start x past) (underway_is layout node start x past h.1) deed.act
