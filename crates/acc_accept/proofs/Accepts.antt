-- What is planned for an Accept answers it by the rules.
use Rattle.std.proofs.Common.{◌≡◌, ℕ, Bool, cond, List, [], ◌∷◌, Some, Result, Ok, Err, IfOk, refl, sym, ap, subst, ◌∙◌}
use Rattle.acc_stamp.specs.declared.stamps.Stamp.{Stamp}
use Rattle.acc_stamp.specs.declared.stamps.TxnId.{TxnId}
use Rattle.acc_stamp.specs.declared.stamps.Ballot.{Ballot}
use Rattle.acc_stamp.specs.declared.actors.Actor.{Actor}
use Rattle.acc_stamp.specs.Actor.{shard_of, home_of}
use Rattle.acc_stamp.proofs.Order.{id_order, eq_itself}
use Rattle.acc_topology.specs.Layout.{Layout}
use Rattle.acc_value.specs.declared.key.Key.{Key}
use Rattle.acc_deps.specs.declared.shards.ShardDeps.{ShardDeps}
use Rattle.acc_deps.specs.declared.records.Accepted.{Accepted}
use Rattle.acc_txn.specs.declared.parts.BodyParts.{BodyParts}
use Rattle.acc_message.specs.declared.message.Message.{Message}
use Rattle.acc_message.specs.declared.message.Message.TheVariants.{Accept, AcceptOk}
use Rattle.acc_message.specs.Fields.{top_of}
use Rattle.acc_message.specs.Taken.{Taken, taking}
use Rattle.acc_message.specs.VoteRule.{known_below}
use Rattle.acc_message.specs.BallotRules.{stable_of, promise_of}
use Rattle.acc_message.specs.StoreRules.{replay, store_answer, unless_stable, unless_promised}
use Rattle.acc_record.specs.declared.change.Change.{Change}
use Rattle.acc_record.specs.declared.change.Change.TheVariants.{Accepts}
use Rattle.acc_record.specs.declared.plan.QuietParts.{QuietParts}
use Rattle.acc_record.specs.declared.record.Record.{Record}
use Rattle.acc_record.specs.declared.shelf.Shelf.{Shelf}
use Rattle.acc_record.specs.Shelf.{record_at}
use Rattle.acc_record.specs.Stands.{StandsFor}
use Rattle.acc_record.specs.Steps.{QuietStep}
use Rattle.acc_record.specs.Changes.{changed}
use Rattle.acc_record.specs.LearntAs.{IsLearntAs}
use Rattle.acc_record.specs.Planned.{IsPlannedAs, IsPlanned}
use Rattle.acc_record.specs.Learning.{deps_below, body_of, known_or_fresh}
use Rattle.acc_record.proofs.After.{after_accept}
use Rattle.acc_record.proofs.Planned.{planned}
use Rattle.acc_record.specs.Refusal.{refusal_or}
use Rattle.acc_record.proofs.Rivals.{share_in}
use Rattle.acc_record.proofs.VoteLaw.{counts, refused, dependencies}
use Rattle.acc_accept.specs.Accepting.{refusal_at, accept_ok, unless_refused, record_then}
use Rattle.acc_accept.proofs.Granting.{IsGrant, quiet}

abbrev pub accept_answer : Shelf → TxnId → Ballot → List (Key × Bool) → Stamp → Message
accept_answer shelf x b share t = refusal_or (refusal_at shelf x b) (accept_ok shelf x b share t)

module _ (layout : Layout) (shelf : Shelf) (from to : Actor) (x : TxnId) (b : Ballot) (body : BodyParts) (t : Stamp) (deps : List ShardDeps) where
  abbrev m : Message
  m = Accept from to x b body t deps

  abbrev pub here : List (Key × Bool)
  here = share_in layout (shard_of shelf.actor) (body_of (record_at shelf.records x) body)

  abbrev proposed : Accepted
  proposed = record { ballot = b; t = t; deps = deps }

  answers_here : (messages : List Message) → StandsFor layout shelf (replay layout shelf.actor messages)
      → accept_answer shelf x b here t ∷ [] ≡ store_answer layout shelf.actor (replay layout shelf.actor messages) m
  answers_here messages stands =
      let past : List Taken = replay layout shelf.actor messages in
      let now : List Taken = taking m past in
      let own : Actor = shelf.actor in
      let counted : BodyParts = body_of (record_at shelf.records x) body in
      let answer : List ShardDeps → Message = λ named. AcceptOk own (home_of x b) x b named in
      sym
      (ap (λ bd. unless_stable own x b (stable_of past x) (unless_promised own x b (promise_of past x) b (answer (known_below layout own now x bd t) ∷ []))) (sym (counts layout shelf messages stands m body refl))
      ∙ refused layout shelf messages stands m body refl b b (answer (known_below layout own now x counted t))
      ∙ ap (λ named. refusal_or (refusal_at shelf x b) (answer named) ∷ []) (dependencies layout shelf messages stands m body refl t))

  pub answers : (share : List (Key × Bool)) → share ≡ here → (messages : List Message) → StandsFor layout shelf (replay layout shelf.actor messages)
      → accept_answer shelf x b share t ∷ [] ≡ store_answer layout shelf.actor (replay layout shelf.actor messages) m
  answers share shared messages stands = (λ i. accept_answer shelf x b (shared i) t ∷ []) ∙ answers_here messages stands

  -- the step, which keeps the proposal
  pub steps : (new : Shelf) (share : List (Key × Bool)) (top : ℕ) → share ≡ here → top ≡ top_of m
      → IsLearntAs shelf new x share (Some t) top (record_then (refusal_at shelf x b) (Accepts proposed) shelf x body)
      → QuietStep layout shelf new m (accept_answer shelf x b share t ∷ [])
  steps new share top shared raises granting =
      let r : Record = known_or_fresh (record_at shelf.records x) x body in
      let own : Actor = shelf.actor in
      let named : List ShardDeps = deps_below shelf x share t in
      let grant : IsGrant layout shelf new m b body t (accept_ok shelf x b share t) (Accepts proposed) share = record {
        brings = refl;
        shared = shared;
        times = ap (λ c. cond c (t ∷ []) []) (eq_itself id_order x);
        drawn = refl;
        after = after_accept r from to own (home_of x b) x b body t deps named;
        vote = refl;
      } in
      quiet layout shelf new m b body t (accept_ok shelf x b share t) (Accepts proposed) share grant
      (subst (λ n. IsLearntAs shelf new x share (Some t) n (record_then (refusal_at shelf x b) (Accepts proposed) shelf x body)) raises granting)

module _ (layout : Layout) (shelf : Shelf) (m : Message) (from to : Actor) (x : TxnId) (b : Ballot) (body : BodyParts) (t : Stamp) (deps : List ShardDeps)
    (share : List (Key × Bool)) (top : ℕ) (is : m ≡ Accept from to x b body t deps) (shared : share ≡ here layout shelf from to x b body t deps) (raises : top ≡ top_of m) where
  abbrev own : Message
  own = Accept from to x b body t deps

  pub prepared : {E : Type 0} (copied : List ShardDeps) (result : Result QuietParts E) → copied ≡ deps
      → IfOk result (IsPlannedAs shelf x body share (Some t) top)
      → IfOk result (λ plan. plan.change ≡ unless_refused (refusal_at shelf x b) (Accepts (record { ballot = b; t = t; deps = copied })))
      → IfOk result (λ plan. plan.sent ≡ accept_answer shelf x b share t ∷ []) → IfOk result (IsPlanned layout shelf m)
  prepared copied (Ok plan) same p changes sends =
      let change : plan.change ≡ unless_refused (refusal_at shelf x b) (Accepts (proposed layout shelf from to x b body t deps)) =
      changes ∙ ap (λ (list : List ShardDeps). unless_refused (refusal_at shelf x b) (Accepts (record { ballot = b; t = t; deps = list }))) same in
      subst (λ z. IsPlanned layout shelf z plan) (sym is)
      (planned shelf x body share (Some t) top plan p layout own (accept_answer shelf x b share t) refl sends (answers layout shelf from to x b body t deps share shared)
      (λ new l. steps layout shelf from to x b body t deps new share top shared (raises ∙ ap top_of is)
      (subst (λ (c : Change). IsLearntAs shelf new x share (Some t) top (changed c (known_or_fresh (record_at shelf.records x) x body))) change l)))
  prepared copied (Err e) same p changes sends = tt
