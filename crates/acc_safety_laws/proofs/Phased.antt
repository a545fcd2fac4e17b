-- An attempt that has proposed, committed or decided sent so to each store of its body.
use Rattle.std.proofs.Common.{◌≡◌, ℕ, Bool, true, false, not, ◌&&◌, cond, List, [], ◌∷◌, Option, None, Some, map, refl, sym, ◌∙◌, ap, subst}
use Rattle.std.specs.List.{list_any}
use Rattle.acc_stamp.specs.declared.stamps.TxnId.{TxnId}
use Rattle.acc_stamp.specs.declared.stamps.Ballot.{Ballot}
use Rattle.acc_stamp.specs.declared.actors.Actor.{Actor}
use Rattle.acc_stamp.specs.Actor.{actor_of}
use Rattle.acc_stamp.specs.Stamp.{id_eq, ballot_eq}
use Rattle.acc_stamp.proofs.Order.{id_order}
use Rattle.acc_topology.specs.Layout.{Layout}
use Rattle.acc_txn.specs.declared.parts.BodyParts.{BodyParts}
use Rattle.acc_txn.specs.declared.outcome.Outcome.{Outcome}
use Rattle.acc_message.specs.declared.message.Message.{Message}
use Rattle.acc_message.specs.declared.message.Message.TheVariants.{PreAccept, PreAcceptOk, Accept, AcceptOk, Commit, CommitOk, Stable, ReadOk, Apply, Recover, RecoverOk, Nack, Decided, Inform}
use Rattle.acc_message.specs.declared.entry.Emitted.{Emitted}
use Rattle.acc_message.specs.Fields.{from_of, id_of}
use Rattle.acc_message.specs.Shares.{stores_used, is_store_of}
use Rattle.acc_message.specs.Attempts.{Attempt, Phase, Voting, Recovering, Accepting, Committing, Executing, fits, same_seat, counts}
use Rattle.acc_message.specs.Coordinator.{Reaction, when, begun, recovering, with_answer, after_answer, on_message, reaction, slow_reaction}
use Rattle.acc_message.specs.NodeRules.{Act, Begins, Recovers, Slows, Takes, Restarts, Deed, next_id, next_ballot, next_by, where_about, attempt_after, attempt_of, emitted_by, on_taking, node_emits}
use Rattle.acc_safety.specs.Places.{IsIn, StandsAt, Here, Back}
use Rattle.acc_safety.specs.Attempted.{OnAttempt}
use Rattle.acc_safety.specs.NodeMoves.{Move, Wait, Propose, CommitTo, DecideBy, FinishWith, BlockBy, EndBy, made, Hears, Ignores, Counts, IsEnded, TakesOver, Reacts, ToSlow, ToMessage}
use Rattle.acc_safety.proofs.PlaceOrder.{map-IsIn}
use Rattle.acc_safety.proofs.NodeMoved.{hears_all, slow_moved}
use Rattle.acc_safety.proofs.Attempted.{doing, on_attempt}

-- ---- an Inform is no answer

inform_fits : (phase : Phase) (from to : Actor) (id : TxnId) (b : Ballot) (outcome : Outcome) → fits phase (Inform from to id b outcome) ≡ false
inform_fits Voting from to id b outcome = refl
inform_fits Recovering from to id b outcome = refl
inform_fits (Accepting s) from to id b outcome = refl
inform_fits (Committing s) from to id b outcome = refl
inform_fits (Executing s) from to id b outcome = refl

inform_out : (layout : Layout) (own : Actor) (from to : Actor) (id : TxnId) (b : Ballot) (outcome : Outcome) (a : Attempt)
    → (reaction layout own id a (Inform from to id b outcome)).emitted.out ≡ []
inform_out layout own from to id b outcome a = by (ballot_eq b a.ballot)
  where
    uncounted : counts layout a (Inform from to id b outcome) ≡ false
    uncounted =
        ap (λ f. f && is_store_of layout a.body from && not (list_any (λ earlier. same_seat a.phase (from_of earlier) from) a.answers))
        (inform_fits a.phase from to id b outcome)

    by : (c : Bool) → (when c (λ k. on_message layout own id k (Inform from to id b outcome)) a).emitted.out ≡ []
    by true = ap (λ d. (when d (λ k. after_answer layout own id (with_answer k (Inform from to id b outcome)) k.phase) a).emitted.out) uncounted
    by false = refl

module _ (layout : Layout) (node start : ℕ) where
  -- a step sent a message to each store of the body
  pub record SentToAll (deeds : List Deed) (body : BodyParts) (message_to : Actor → Message) : Type 0 where
    pub deed : Deed
    pub past : List Deed
    pub at : StandsAt deed past deeds
    pub sends : (store : Actor) → IsIn store (stores_used layout body) → IsIn (message_to store) (node_emits layout node start past deed.act).out

  sent_back : (deed : Deed) (past : List Deed) (body : BodyParts) (message_to : Actor → Message) → SentToAll past body message_to
      → SentToAll (deed ∷ past) body message_to
  sent_back deed past body message_to s = record { deed = s.deed; past = s.past; at = Back s.deed deed s.past past s.at; sends = s.sends }

  -- what an attempt in this phase sent
  abbrev pub Entered : TxnId → List Deed → Ballot → BodyParts → Phase → Type 0
  Entered x deeds b body Voting = Unit {0}
  Entered x deeds b body Recovering = Unit {0}
  Entered x deeds b body (Accepting s) = SentToAll deeds body (λ store. Accept (actor_of node 0) store x b body s.t s.deps)
  Entered x deeds b body (Committing s) = SentToAll deeds body (λ store. Commit (actor_of node 0) store x b body s.t s.deps)
  Entered x deeds b body (Executing s) = SentToAll deeds body (λ store. Stable (actor_of node 0) store x b body s.t s.deps)

  abbrev pub HasEntered : TxnId → List Deed → Attempt → Type 0
  HasEntered x deeds a = Entered x deeds a.ballot a.body a.phase

  entered_back : (x : TxnId) (deed : Deed) (past : List Deed) (b : Ballot) (body : BodyParts) (phase : Phase) → Entered x past b body phase
      → Entered x (deed ∷ past) b body phase
  entered_back x deed past b body Voting h = tt
  entered_back x deed past b body Recovering h = tt
  entered_back x deed past b body (Accepting s) h = sent_back deed past body (λ store. Accept (actor_of node 0) store x b body s.t s.deps) h
  entered_back x deed past b body (Committing s) h = sent_back deed past body (λ store. Commit (actor_of node 0) store x b body s.t s.deps) h
  entered_back x deed past b body (Executing s) h = sent_back deed past body (λ store. Stable (actor_of node 0) store x b body s.t s.deps) h

  stays : (x : TxnId) (deed : Deed) (past : List Deed) (o : Option Attempt) → OnAttempt (HasEntered x past) o → OnAttempt (HasEntered x (deed ∷ past)) o
  stays x deed past None h = tt
  stays x deed past (Some a) h = entered_back x deed past a.ballot a.body a.phase h

  -- the attempt that moves has the phase of the one before
  moving_entered : (x : TxnId) (deeds : List Deed) (before : Attempt) (m : Message) (a : Attempt) (move : Move) → Hears layout x before m a move
      → HasEntered x deeds before → HasEntered x deeds a
  moving_entered x deeds before m a move (Ignores n) h = h
  moving_entered x deeds before m a move (Counts n moved same counting moves) h = h
  moving_entered x deeds before m a move (IsEnded from to id ballot promised same above) h = h
  moving_entered x deeds before m a move (TakesOver from to id ballot t deps same undecided ready) h = h

  -- ---- a step more

  sent_here : (act : Act) (emitted : Emitted) (past : List Deed) (body : BodyParts) (message_to : Actor → Message)
      → (node_emits layout node start past act).out ≡ map message_to (stores_used layout body) → SentToAll (doing act emitted ∷ past) body message_to
  sent_here act emitted past body message_to out =
      record {
        deed = doing act emitted;
        past = past;
        at = Here (doing act emitted) past;
        sends = λ store there. subst (IsIn (message_to store)) (sym out) (map-IsIn message_to store (stores_used layout body) there);
      }

  made_entered : (x : TxnId) (act : Act) (emitted : Emitted) (past : List Deed) (a : Attempt) (move : Move)
      → (node_emits layout node start past act).out ≡ (made layout (actor_of node 0) x a move).emitted.out
      → HasEntered x (doing act emitted ∷ past) a
      → OnAttempt (HasEntered x (doing act emitted ∷ past)) (made layout (actor_of node 0) x a move).next
  made_entered x act emitted past a Wait out h = h
  made_entered x act emitted past a (Propose s) out h =
      sent_here act emitted past a.body (λ store. Accept (actor_of node 0) store x a.ballot a.body s.t s.deps) out
  made_entered x act emitted past a (CommitTo s) out h =
      sent_here act emitted past a.body (λ store. Commit (actor_of node 0) store x a.ballot a.body s.t s.deps) out
  made_entered x act emitted past a (DecideBy path s) out h =
      sent_here act emitted past a.body (λ store. Stable (actor_of node 0) store x a.ballot a.body s.t s.deps) out
  made_entered x act emitted past a (FinishWith s outcome) out h = tt
  made_entered x act emitted past a (BlockBy by) out h = tt
  made_entered x act emitted past a (EndBy by) out h = tt

  slow_entered : (x : TxnId) (emitted : Emitted) (past : List Deed) (o : Option Attempt) → attempt_of layout node start x past ≡ o
      → OnAttempt (HasEntered x past) o
      → OnAttempt (HasEntered x (doing (Slows x) emitted ∷ past)) (next_by (slow_reaction layout (actor_of node 0) x) o)
  slow_entered x emitted past None is h = tt
  slow_entered x emitted past (Some a) is h =
      let r = slow_moved layout (actor_of node 0) x a in
      subst (λ (k : Reaction). OnAttempt (HasEntered x (doing (Slows x) emitted ∷ past)) k.next) (sym r.is)
      (made_entered x (Slows x) emitted past a r.move
      (ap (λ o. (emitted_by (slow_reaction layout (actor_of node 0) x) o).out) is ∙ ap (λ (k : Reaction). k.emitted.out) r.is)
      (entered_back x (doing (Slows x) emitted) past a.ballot a.body a.phase h))

  -- what is sent is what the attempt sends
  taking_out : (m : Message) (past : List Deed) (a : Attempt) → attempt_of layout node start (id_of m) past ≡ Some a
      → (on_taking layout node start past m).out ≡ (reaction layout (actor_of node 0) (id_of m) a m).emitted.out
  taking_out (Inform from to id b outcome) past a is = sym (inform_out layout (actor_of node 0) from to id b outcome a)
  taking_out (PreAccept from to id b body) past a is = ap (λ o. (emitted_by (λ k. reaction layout (actor_of node 0) id k (PreAccept from to id b body)) o).out) is
  taking_out (PreAcceptOk from to id b vote deps) past a is = ap (λ o. (emitted_by (λ k. reaction layout (actor_of node 0) id k (PreAcceptOk from to id b vote deps)) o).out) is
  taking_out (Accept from to id b body t deps) past a is = ap (λ o. (emitted_by (λ k. reaction layout (actor_of node 0) id k (Accept from to id b body t deps)) o).out) is
  taking_out (AcceptOk from to id b deps) past a is = ap (λ o. (emitted_by (λ k. reaction layout (actor_of node 0) id k (AcceptOk from to id b deps)) o).out) is
  taking_out (Commit from to id b body t deps) past a is = ap (λ o. (emitted_by (λ k. reaction layout (actor_of node 0) id k (Commit from to id b body t deps)) o).out) is
  taking_out (CommitOk from to id b) past a is = ap (λ o. (emitted_by (λ k. reaction layout (actor_of node 0) id k (CommitOk from to id b)) o).out) is
  taking_out (Stable from to id b body t deps) past a is = ap (λ o. (emitted_by (λ k. reaction layout (actor_of node 0) id k (Stable from to id b body t deps)) o).out) is
  taking_out (ReadOk from to id b answer) past a is = ap (λ o. (emitted_by (λ k. reaction layout (actor_of node 0) id k (ReadOk from to id b answer)) o).out) is
  taking_out (Apply from to id b body t deps outcome) past a is = ap (λ o. (emitted_by (λ k. reaction layout (actor_of node 0) id k (Apply from to id b body t deps outcome)) o).out) is
  taking_out (Recover from to id b body) past a is = ap (λ o. (emitted_by (λ k. reaction layout (actor_of node 0) id k (Recover from to id b body)) o).out) is
  taking_out (RecoverOk from to id b view) past a is = ap (λ o. (emitted_by (λ k. reaction layout (actor_of node 0) id k (RecoverOk from to id b view)) o).out) is
  taking_out (Nack from to id b promised) past a is = ap (λ o. (emitted_by (λ k. reaction layout (actor_of node 0) id k (Nack from to id b promised)) o).out) is
  taking_out (Decided from to id b t deps) past a is = ap (λ o. (emitted_by (λ k. reaction layout (actor_of node 0) id k (Decided from to id b t deps)) o).out) is

  taken_entered : (m : Message) (emitted : Emitted) (past : List Deed) (o : Option Attempt) → attempt_of layout node start (id_of m) past ≡ o
      → OnAttempt (HasEntered (id_of m) past) o
      → OnAttempt (HasEntered (id_of m) (doing (Takes m) emitted ∷ past)) (next_by (λ a. reaction layout (actor_of node 0) (id_of m) a m) o)
  taken_entered m emitted past None is h = tt
  taken_entered m emitted past (Some a) is h =
      let r = hears_all layout (actor_of node 0) (id_of m) a m in
      subst (λ (k : Reaction). OnAttempt (HasEntered (id_of m) (doing (Takes m) emitted ∷ past)) k.next) (sym r.is)
      (made_entered (id_of m) (Takes m) emitted past r.moving r.move (taking_out m past a is ∙ ap (λ (k : Reaction). k.emitted.out) r.is)
      (moving_entered (id_of m) (doing (Takes m) emitted ∷ past) a m r.moving r.move r.hears
      (entered_back (id_of m) (doing (Takes m) emitted) past a.ballot a.body a.phase h)))

  after_entered : (x : TxnId) (act : Act) (emitted : Emitted) (past : List Deed) → OnAttempt (HasEntered x past) (attempt_of layout node start x past)
      → OnAttempt (HasEntered x (doing act emitted ∷ past)) (attempt_after layout node start x past (attempt_of layout node start x past) act)
  after_entered x (Begins txn body) emitted past h = by (id_eq (next_id node start past) x)
    where
      by : (b : Bool) → OnAttempt (HasEntered x (doing (Begins txn body) emitted ∷ past)) (cond b (Some (begun body)) (attempt_of layout node start x past))
      by true = tt
      by false = stays x (doing (Begins txn body) emitted) past (attempt_of layout node start x past) h
  after_entered x (Recovers y body) emitted past h = by (id_eq y x)
    where
      by : (b : Bool) → OnAttempt (HasEntered x (doing (Recovers y body) emitted ∷ past)) (cond b (Some (recovering (next_ballot node start past) body)) (attempt_of layout node start x past))
      by true = tt
      by false = stays x (doing (Recovers y body) emitted) past (attempt_of layout node start x past) h
  after_entered x (Slows y) emitted past h = by (id_eq y x) refl
    where
      by : (b : Bool) → id_eq y x ≡ b
          → OnAttempt (HasEntered x (doing (Slows y) emitted ∷ past)) (where_about b (next_by (slow_reaction layout (actor_of node 0) x)) (attempt_of layout node start x past))
      by true is =
          subst (λ z. OnAttempt (HasEntered x (doing (Slows z) emitted ∷ past)) (next_by (slow_reaction layout (actor_of node 0) x) (attempt_of layout node start x past)))
          (sym ((id_order.decides y x).0 is)) (slow_entered x emitted past (attempt_of layout node start x past) refl h)
      by false is = stays x (doing (Slows y) emitted) past (attempt_of layout node start x past) h
  after_entered x (Takes m) emitted past h = by (id_eq (id_of m) x) refl
    where
      by : (b : Bool) → id_eq (id_of m) x ≡ b
          → OnAttempt (HasEntered x (doing (Takes m) emitted ∷ past)) (where_about b (next_by (λ a. reaction layout (actor_of node 0) x a m)) (attempt_of layout node start x past))
      by true is =
          subst
          (λ z. OnAttempt (HasEntered z past) (attempt_of layout node start z past)
          → OnAttempt (HasEntered z (doing (Takes m) emitted ∷ past)) (next_by (λ a. reaction layout (actor_of node 0) z a m) (attempt_of layout node start z past)))
          ((id_order.decides (id_of m) x).0 is) (taken_entered m emitted past (attempt_of layout node start (id_of m) past) refl) h
      by false is = stays x (doing (Takes m) emitted) past (attempt_of layout node start x past) h
  after_entered x Restarts emitted past h = tt

  each_entered : (x : TxnId) (deeds : List Deed) → OnAttempt (HasEntered x deeds) (attempt_of layout node start x deeds)
  each_entered x [] = tt
  each_entered x (deed ∷ past) = after_entered x deed.act deed.emitted past (each_entered x past)

  -- the attempt that moves sent before what brought it to its phase
  pub has_entered : (x : TxnId) (past : List Deed) (act : Act) (a : Attempt) (move : Move) → Reacts layout node start past x act a move
      → HasEntered x past a
  has_entered x past act a move (ToSlow b moved is moves) = on_attempt (HasEntered x past) (attempt_of layout node start x past) b is (each_entered x past)
  has_entered x past act a move (ToMessage before b m moved is about hears) =
      moving_entered x past before m b moved hears (on_attempt (HasEntered x past) (attempt_of layout node start x past) before is (each_entered x past))
