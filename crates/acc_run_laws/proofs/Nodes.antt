-- What a node sends goes to stores of the transaction, or to the node that began it.
use Rattle.std.proofs.Common.{◌≡◌, ℕ, List, [], ◌∷◌, Option, None, Some, refl, sym, subst, ◌⊎◌, inl, inr, ⊎_elim}
use Rattle.acc_stamp.specs.declared.stamps.TxnId.{TxnId}
use Rattle.acc_stamp.specs.declared.stamps.Ballot.{Ballot}
use Rattle.acc_stamp.specs.declared.actors.Actor.{Actor}
use Rattle.acc_stamp.specs.Actor.{actor_of}
use Rattle.acc_stamp.specs.Stamp.{zero_ballot}
use Rattle.acc_topology.specs.Layout.{Layout, IsLayout}
use Rattle.acc_txn.specs.declared.parts.BodyParts.{BodyParts}
use Rattle.acc_txn.specs.declared.outcome.Outcome.{Outcome}
use Rattle.acc_message.specs.declared.message.Message.{Message}
use Rattle.acc_message.specs.declared.message.Message.TheVariants.{PreAccept, PreAcceptOk, Accept, AcceptOk, Commit, CommitOk, Stable, ReadOk, Apply, Recover, RecoverOk, Nack, Decided, Inform}
use Rattle.acc_message.specs.Fields.{to_of, id_of}
use Rattle.acc_message.specs.Items.{same_actor}
use Rattle.acc_message.specs.Shares.{stores_used}
use Rattle.acc_message.specs.Attempts.{Attempt}
use Rattle.acc_message.specs.Coordinator.{Reaction, to_all, home_node, inform, reaction, slow_reaction}
use Rattle.acc_message.specs.NodeRules.{Act, Begins, Recovers, Slows, Takes, Restarts, Deed, next_id, next_ballot, attempt_of, emitted_by, on_taking, node_emits}
use Rattle.acc_safety.specs.Places.{IsIn}
use Rattle.acc_safety.specs.NodeMoves.{Move, Wait, Propose, CommitTo, DecideBy, FinishWith, BlockBy, EndBy, made}
use Rattle.acc_safety.proofs.PlaceOrder.{IsIn-append_cases, IsIn-cond_cases, IsIn-map, none_is_in, only}
use Rattle.acc_safety.proofs.NodeMoved.{hears_all, slow_moved}
use Rattle.acc_schedule.specs.Actors.{actors}
use Rattle.acc_run_laws.proofs.Layouts.{used_is}

module _ (layout : Layout) (valid : IsLayout layout) where
  -- it goes to an actor of the layout, or to the node that began its transaction
  abbrev pub IsDirected : Message → Type 0
  IsDirected m = IsIn (to_of m) (actors layout) ⊎ (to_of m ≡ home_node (id_of m))

  abbrev AreDirected : List Message → Type 0
  AreDirected out = (m : Message) → IsIn m out → IsDirected m

  none_sent : AreDirected []
  none_sent m there = absurd (none_is_in m there)

  to_stores : (body : BodyParts) (message_to : Actor → Message) → ((store : Actor) → to_of (message_to store) ≡ store) → AreDirected (to_all layout body message_to)
  to_stores body message_to to m there =
      let from = IsIn-map message_to m (stores_used layout body) there in
      inl (subst (λ (k : Message). IsIn (to_of k) (actors layout)) (sym from.is)
      (subst (λ a. IsIn a (actors layout)) (sym (to from.source)) (used_is layout valid body from.source from.there)))

  informed : (own : Actor) (x : TxnId) (b : Ballot) (outcome : Outcome) → AreDirected (inform own x b outcome)
  informed own x b outcome m there =
      ⊎_elim (λ none. absurd (none_is_in m none.1))
      (λ told. subst IsDirected (sym (only m (Inform own (home_node x) x b outcome) told.1)) (inr refl))
      (IsIn-cond_cases m (same_actor own (home_node x)) [] (Inform own (home_node x) x b outcome ∷ []) there)

  made_directed : (own : Actor) (x : TxnId) (a : Attempt) (move : Move) → AreDirected (made layout own x a move).emitted.out
  made_directed own x a Wait = none_sent
  made_directed own x a (Propose s) = to_stores a.body (λ store. Accept own store x a.ballot a.body s.t s.deps) (λ store. refl)
  made_directed own x a (CommitTo s) = to_stores a.body (λ store. Commit own store x a.ballot a.body s.t s.deps) (λ store. refl)
  made_directed own x a (DecideBy path s) = to_stores a.body (λ store. Stable own store x a.ballot a.body s.t s.deps) (λ store. refl)
  made_directed own x a (FinishWith s outcome) =
      λ m there.
      let message_to : Actor → Message = λ store. Apply own store x a.ballot a.body s.t s.deps outcome in
      ⊎_elim (to_stores a.body message_to (λ store. refl) m) (informed own x a.ballot outcome m)
      (IsIn-append_cases m (to_all layout a.body message_to) (inform own x a.ballot outcome) there)
  made_directed own x a (BlockBy by) = none_sent
  made_directed own x a (EndBy by) = none_sent

  module _ (node start : ℕ) (past : List Deed) where
    slow_directed : (x : TxnId) (o : Option Attempt) → AreDirected (emitted_by (slow_reaction layout (actor_of node 0) x) o).out
    slow_directed x None = none_sent
    slow_directed x (Some a) =
        let m = slow_moved layout (actor_of node 0) x a in
        subst (λ (r : Reaction). AreDirected r.emitted.out) (sym m.is) (made_directed (actor_of node 0) x a m.move)

    message_directed : (m : Message) (o : Option Attempt) → AreDirected (emitted_by (λ a. reaction layout (actor_of node 0) (id_of m) a m) o).out
    message_directed m None = none_sent
    message_directed m (Some a) =
        let r = hears_all layout (actor_of node 0) (id_of m) a m in
        subst (λ (q : Reaction). AreDirected q.emitted.out) (sym r.is) (made_directed (actor_of node 0) (id_of m) r.moving r.move)

    taking_directed : (m : Message) → AreDirected (on_taking layout node start past m).out
    taking_directed (Inform from to id ballot outcome) = none_sent
    taking_directed (PreAccept from to id ballot body) = message_directed (PreAccept from to id ballot body) (attempt_of layout node start id past)
    taking_directed (PreAcceptOk from to id ballot vote deps) = message_directed (PreAcceptOk from to id ballot vote deps) (attempt_of layout node start id past)
    taking_directed (Accept from to id ballot body t deps) = message_directed (Accept from to id ballot body t deps) (attempt_of layout node start id past)
    taking_directed (AcceptOk from to id ballot deps) = message_directed (AcceptOk from to id ballot deps) (attempt_of layout node start id past)
    taking_directed (Commit from to id ballot body t deps) = message_directed (Commit from to id ballot body t deps) (attempt_of layout node start id past)
    taking_directed (CommitOk from to id ballot) = message_directed (CommitOk from to id ballot) (attempt_of layout node start id past)
    taking_directed (Stable from to id ballot body t deps) = message_directed (Stable from to id ballot body t deps) (attempt_of layout node start id past)
    taking_directed (ReadOk from to id ballot answer) = message_directed (ReadOk from to id ballot answer) (attempt_of layout node start id past)
    taking_directed (Apply from to id ballot body t deps outcome) = message_directed (Apply from to id ballot body t deps outcome) (attempt_of layout node start id past)
    taking_directed (Recover from to id ballot body) = message_directed (Recover from to id ballot body) (attempt_of layout node start id past)
    taking_directed (RecoverOk from to id ballot view) = message_directed (RecoverOk from to id ballot view) (attempt_of layout node start id past)
    taking_directed (Nack from to id ballot promised) = message_directed (Nack from to id ballot promised) (attempt_of layout node start id past)
    taking_directed (Decided from to id ballot t deps) = message_directed (Decided from to id ballot t deps) (attempt_of layout node start id past)

    pub node_directed : (act : Act) (m : Message) → IsIn m (node_emits layout node start past act).out → IsDirected m
    node_directed (Begins txn body) = to_stores body (λ store. PreAccept (actor_of node 0) store (next_id node start past) zero_ballot body) (λ store. refl)
    node_directed (Recovers x body) = to_stores body (λ store. Recover (actor_of node 0) store x (next_ballot node start past) body) (λ store. refl)
    node_directed (Slows x) = slow_directed x (attempt_of layout node start x past)
    node_directed (Takes m) = taking_directed m
    node_directed Restarts = none_sent
