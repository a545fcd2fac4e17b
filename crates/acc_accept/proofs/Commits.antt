-- What is planned for a Commit answers it by the rules.
use Rattle.std.proofs.Common.{◌≡◌, ℕ, Bool, cond, List, [], ◌∷◌, Some, Result, Ok, Err, IfOk, refl, sym, ap, subst, ◌∙◌}
use Rattle.acc_stamp.specs.declared.stamps.Stamp.{Stamp}
use Rattle.acc_stamp.specs.declared.stamps.TxnId.{TxnId}
use Rattle.acc_stamp.specs.declared.stamps.Ballot.{Ballot}
use Rattle.acc_stamp.specs.declared.actors.Actor.{Actor}
use Rattle.acc_stamp.specs.Actor.{shard_of, home_of}
use Rattle.acc_stamp.proofs.Order.{id_order, eq_itself}
use Rattle.acc_topology.specs.Layout.{Layout}
use Rattle.acc_value.specs.declared.key.Key.{Key}
use Rattle.acc_deps.specs.declared.shards.ShardDeps.{ShardDeps}
use Rattle.acc_deps.specs.declared.records.Accepted.{Accepted}
use Rattle.acc_txn.specs.declared.parts.BodyParts.{BodyParts}
use Rattle.acc_message.specs.declared.message.Message.{Message}
use Rattle.acc_message.specs.declared.message.Message.TheVariants.{Commit}
use Rattle.acc_message.specs.Fields.{top_of}
use Rattle.acc_message.specs.StoreRules.{replay, store_answer}
use Rattle.acc_record.specs.declared.change.Change.{Change}
use Rattle.acc_record.specs.declared.change.Change.TheVariants.{Commits}
use Rattle.acc_record.specs.declared.plan.QuietParts.{QuietParts}
use Rattle.acc_record.specs.declared.record.Record.{Record}
use Rattle.acc_record.specs.declared.shelf.Shelf.{Shelf}
use Rattle.acc_record.specs.Shelf.{record_at}
use Rattle.acc_record.specs.Stands.{StandsFor}
use Rattle.acc_record.specs.Steps.{QuietStep}
use Rattle.acc_record.specs.Changes.{changed}
use Rattle.acc_record.specs.LearntAs.{IsLearntAs}
use Rattle.acc_record.specs.Planned.{IsPlannedAs, IsPlanned}
use Rattle.acc_record.specs.Learning.{body_of, known_or_fresh}
use Rattle.acc_record.proofs.After.{after_commit}
use Rattle.acc_record.proofs.Planned.{planned}
use Rattle.acc_record.specs.Refusal.{refusal_or}
use Rattle.acc_record.proofs.Rivals.{share_in}
use Rattle.acc_record.proofs.VoteLaw.{refused}
use Rattle.acc_accept.specs.Accepting.{refusal_at, commit_ok, unless_refused, record_then}
use Rattle.acc_accept.proofs.Granting.{IsGrant, quiet}

abbrev pub commit_answer : Shelf → TxnId → Ballot → Message
commit_answer shelf x b = refusal_or (refusal_at shelf x b) (commit_ok shelf x b)

module _ (shelf : Shelf) (from to : Actor) (x : TxnId) (b : Ballot) (body : BodyParts) (t : Stamp) (deps : List ShardDeps) where
  abbrev m : Message
  m = Commit from to x b body t deps

  abbrev fixed : Accepted
  fixed = record { ballot = b; t = t; deps = deps }

  pub answers : (layout : Layout) (messages : List Message) → StandsFor layout shelf (replay layout shelf.actor messages)
      → commit_answer shelf x b ∷ [] ≡ store_answer layout shelf.actor (replay layout shelf.actor messages) m
  answers layout messages stands = sym (refused layout shelf messages stands m body refl b b (commit_ok shelf x b))

  -- the step, which keeps what is fixed
  pub steps : (layout : Layout) (new : Shelf) (share : List (Key × Bool)) (top : ℕ) → share ≡ share_in layout (shard_of shelf.actor) (body_of (record_at shelf.records x) body)
      → top ≡ top_of m → IsLearntAs shelf new x share (Some t) top (record_then (refusal_at shelf x b) (Commits fixed) shelf x body)
      → QuietStep layout shelf new m (commit_answer shelf x b ∷ [])
  steps layout new share top shared raises granting =
      let r : Record = known_or_fresh (record_at shelf.records x) x body in
      let own : Actor = shelf.actor in
      let grant : IsGrant layout shelf new m b body t (commit_ok shelf x b) (Commits fixed) share = record {
        brings = refl;
        shared = shared;
        times = ap (λ c. cond c (t ∷ []) []) (eq_itself id_order x);
        drawn = refl;
        after = after_commit r from to own (home_of x b) x b body t deps;
        vote = refl;
      } in
      quiet layout shelf new m b body t (commit_ok shelf x b) (Commits fixed) share grant
      (subst (λ n. IsLearntAs shelf new x share (Some t) n (record_then (refusal_at shelf x b) (Commits fixed) shelf x body)) raises granting)

module _ (layout : Layout) (shelf : Shelf) (m : Message) (from to : Actor) (x : TxnId) (b : Ballot) (body : BodyParts) (t : Stamp) (deps : List ShardDeps)
    (share : List (Key × Bool)) (top : ℕ) (is : m ≡ Commit from to x b body t deps)
    (shared : share ≡ share_in layout (shard_of shelf.actor) (body_of (record_at shelf.records x) body)) (raises : top ≡ top_of m) where
  pub prepared : {E : Type 0} (copied : List ShardDeps) (result : Result QuietParts E) → copied ≡ deps
      → IfOk result (IsPlannedAs shelf x body share (Some t) top)
      → IfOk result (λ plan. plan.change ≡ unless_refused (refusal_at shelf x b) (Commits (record { ballot = b; t = t; deps = copied })))
      → IfOk result (λ plan. plan.sent ≡ commit_answer shelf x b ∷ []) → IfOk result (IsPlanned layout shelf m)
  prepared copied (Ok plan) same p changes sends =
      let change : plan.change ≡ unless_refused (refusal_at shelf x b) (Commits (fixed shelf from to x b body t deps)) =
      changes ∙ ap (λ (list : List ShardDeps). unless_refused (refusal_at shelf x b) (Commits (record { ballot = b; t = t; deps = list }))) same in
      subst (λ z. IsPlanned layout shelf z plan) (sym is)
      (planned shelf x body share (Some t) top plan p layout (Commit from to x b body t deps) (commit_answer shelf x b) refl sends (answers shelf from to x b body t deps layout)
      (λ new l. steps shelf from to x b body t deps layout new share top shared (raises ∙ ap top_of is)
      (subst (λ (c : Change). IsLearntAs shelf new x share (Some t) top (changed c (known_or_fresh (record_at shelf.records x) x body))) change l)))
  prepared copied (Err e) same p changes sends = tt
