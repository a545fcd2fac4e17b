-- A message of a node that brings a body goes to a store of this body.
use Rattle.std.proofs.Common.{◌≡◌, ℕ, Bool, List, [], ◌∷◌, Option, None, Some, map, refl, sym, ◌∙◌, ap, subst, ⊎_elim}
use Rattle.acc_stamp.specs.declared.stamps.TxnId.{TxnId}
use Rattle.acc_stamp.specs.declared.actors.Actor.{Actor}
use Rattle.acc_stamp.specs.Actor.{actor_of}
use Rattle.acc_stamp.specs.Stamp.{zero_ballot}
use Rattle.acc_topology.specs.Layout.{Layout}
use Rattle.acc_txn.specs.declared.parts.BodyParts.{BodyParts}
use Rattle.acc_txn.specs.declared.outcome.Outcome.{Outcome}
use Rattle.acc_message.specs.declared.message.Message.{Message}
use Rattle.acc_message.specs.declared.message.Message.TheVariants.{PreAccept, Accept, Commit, Stable, Apply, Recover, Inform}
use Rattle.acc_message.specs.Fields.{to_of, id_of}
use Rattle.acc_message.specs.Items.{same_actor}
use Rattle.acc_message.specs.Shares.{stores_used}
use Rattle.acc_message.specs.Taken.{body_in}
use Rattle.acc_message.specs.Attempts.{Attempt}
use Rattle.acc_message.specs.Coordinator.{Reaction, home_node, inform, reaction, slow_reaction}
use Rattle.acc_message.specs.NodeRules.{Act, Begins, Recovers, Slows, Takes, Restarts, Deed, next_id, next_ballot, attempt_of, emitted_by, on_taking, node_emits}
use Rattle.acc_actor_laws.proofs.Standing.{not_none}
use Rattle.acc_actor_laws.proofs.OpeningFacts.{some_is}
use Rattle.acc_safety.specs.Places.{IsIn}
use Rattle.acc_safety.specs.NodeMoves.{Move, Wait, Propose, CommitTo, DecideBy, FinishWith, BlockBy, EndBy, made}
use Rattle.acc_safety.proofs.PlaceOrder.{none_is_in, only, IsIn-map, IsIn-append_cases, IsIn-cond_cases}
use Rattle.acc_safety.proofs.NodeMoved.{hears_all, slow_moved}
use Rattle.acc_delivered.proofs.Courses.{is_inform}

module _ (layout : Layout) where
  abbrev pub GoesRight : Message → Type 0
  GoesRight m = (body : BodyParts) → body_in m ≡ Some body → IsIn (to_of m) (stores_used layout body)

  mapped_right : (f : Actor → Message) (brought : BodyParts) → ((store : Actor) → to_of (f store) ≡ store) → ((store : Actor) → body_in (f store) ≡ Some brought)
      → (m : Message) → IsIn m (map f (stores_used layout brought)) → GoesRight m
  mapped_right f brought to_is body_is m there body is =
      let k = IsIn-map f m (stores_used layout brought) there in
      let same : brought ≡ body = some_is brought body (sym (ap body_in k.is ∙ body_is k.source) ∙ is) in
      subst (λ c. IsIn c (stores_used layout body)) (sym (ap to_of k.is ∙ to_is k.source)) (subst (λ c. IsIn k.source (stores_used layout c)) same k.there)

  informs_right : (own : Actor) (x : TxnId) (a : Attempt) (m : Message) (outcome : Outcome) → IsIn m (inform own x a.ballot outcome) → GoesRight m
  informs_right own x a m outcome there body is =
      ⊎_elim (λ none. absurd (none_is_in m none.1))
      (λ one. absurd (not_none body (sym (ap body_in (only m (Inform own (home_node x) x a.ballot outcome) one.1)) ∙ is)))
      (IsIn-cond_cases m (same_actor own (home_node x)) [] (Inform own (home_node x) x a.ballot outcome ∷ []) there)

  made_right : (own : Actor) (x : TxnId) (a : Attempt) (move : Move) (m : Message) → IsIn m (made layout own x a move).emitted.out → GoesRight m
  made_right own x a Wait m there = absurd (none_is_in m there)
  made_right own x a (Propose s) m there = mapped_right (λ store. Accept own store x a.ballot a.body s.t s.deps) a.body (λ store. refl) (λ store. refl) m there
  made_right own x a (CommitTo s) m there = mapped_right (λ store. Commit own store x a.ballot a.body s.t s.deps) a.body (λ store. refl) (λ store. refl) m there
  made_right own x a (DecideBy path s) m there = mapped_right (λ store. Stable own store x a.ballot a.body s.t s.deps) a.body (λ store. refl) (λ store. refl) m there
  made_right own x a (FinishWith s outcome) m there =
      ⊎_elim (mapped_right (λ store. Apply own store x a.ballot a.body s.t s.deps outcome) a.body (λ store. refl) (λ store. refl) m) (informs_right own x a m outcome)
      (IsIn-append_cases m (map (λ store. Apply own store x a.ballot a.body s.t s.deps outcome) (stores_used layout a.body)) (inform own x a.ballot outcome) there)
  made_right own x a (BlockBy by) m there = absurd (none_is_in m there)
  made_right own x a (EndBy by) m there = absurd (none_is_in m there)

  module _ (node start : ℕ) (past : List Deed) where
    abbrev own_actor : Actor
    own_actor = actor_of node 0

    slow_right : (y : TxnId) (o : Option Attempt) (m : Message) → IsIn m (emitted_by (slow_reaction layout own_actor y) o).out → GoesRight m
    slow_right y None m there = absurd (none_is_in m there)
    slow_right y (Some a) m there =
        let r = slow_moved layout own_actor y a in made_right own_actor y a r.move m (subst (λ (w : Reaction). IsIn m w.emitted.out) r.is there)

    heard_right : (n : Message) (o : Option Attempt) (m : Message) → IsIn m (emitted_by (λ k. reaction layout own_actor (id_of n) k n) o).out → GoesRight m
    heard_right n None m there = absurd (none_is_in m there)
    heard_right n (Some a) m there =
        let r = hears_all layout own_actor (id_of n) a n in made_right own_actor (id_of n) r.moving r.move m (subst (λ (w : Reaction). IsIn m w.emitted.out) r.is there)

    taking_right : (n m : Message) (o : Bool) → is_inform n ≡ o → IsIn m (on_taking layout node start past n).out → GoesRight m
    taking_right (Inform from to id ballot outcome) m o is there = absurd (none_is_in m there)
    taking_right n m o is there = heard_right n (attempt_of layout node start (id_of n) past) m there

    pub node_right : (act : Act) (m : Message) → IsIn m (node_emits layout node start past act).out → GoesRight m
    node_right (Begins txn brought) m there =
        mapped_right (λ store. PreAccept own_actor store (next_id node start past) zero_ballot brought) brought (λ store. refl) (λ store. refl) m there
    node_right (Recovers x brought) m there =
        mapped_right (λ store. Recover own_actor store x (next_ballot node start past) brought) brought (λ store. refl) (λ store. refl) m there
    node_right (Slows y) m there = slow_right y (attempt_of layout node start y past) m there
    node_right (Takes n) m there = taking_right n m (is_inform n) refl there
    node_right Restarts m there = absurd (none_is_in m there)

  pub to_store : (node start : ℕ) (past : List Deed) (act : Act) (m : Message) (body : BodyParts) → IsIn m (node_emits layout node start past act).out → body_in m ≡ Some body
      → IsIn (to_of m) (stores_used layout body)
  to_store node start past act m body there is = node_right node start past act m there body is
