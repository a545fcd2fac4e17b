-- The answer is the rules', and the step is a quiet one.
use Rattle.std.proofs.Common.{◌≡◌, ℕ, Bool, max, List, [], ◌∷◌, Option, None, Some, refl, sym, ap, subst, ◌∙◌, arith}
use Rattle.acc_stamp.specs.declared.stamps.Stamp.{Stamp}
use Rattle.acc_stamp.specs.declared.stamps.TxnId.{TxnId}
use Rattle.acc_stamp.specs.declared.stamps.Ballot.{Ballot}
use Rattle.acc_stamp.specs.declared.actors.Actor.{Actor}
use Rattle.acc_stamp.specs.Actor.{shard_of, home_of}
use Rattle.acc_stamp.specs.Stamp.{zero_ballot}
use Rattle.acc_topology.specs.Layout.{Layout}
use Rattle.acc_value.specs.declared.key.Key.{Key}
use Rattle.acc_deps.specs.declared.shards.ShardDeps.{ShardDeps}
use Rattle.acc_txn.specs.declared.parts.BodyParts.{BodyParts}
use Rattle.acc_message.specs.declared.message.Message.{Message}
use Rattle.acc_message.specs.declared.message.Message.TheVariants.{PreAccept, Nack, Decided}
use Rattle.acc_message.specs.Fields.{top_of}
use Rattle.acc_message.specs.Taken.{Taken, taking}
use Rattle.acc_message.specs.VoteRule.{vote_for, drawn_as}
use Rattle.acc_message.specs.BallotRules.{stable_of, promise_of}
use Rattle.acc_message.specs.StoreRules.{replay, store_answer, unless_stable, unless_promised, voted}
use Rattle.acc_record.specs.declared.record.Record.{Record}
use Rattle.acc_record.specs.declared.shelf.Shelf.{Shelf}
use Rattle.acc_record.specs.declared.vote.Vote.{Vote}
use Rattle.acc_record.specs.Shelf.{record_at}
use Rattle.acc_record.specs.Stands.{StandsFor}
use Rattle.acc_record.specs.Steps.{record_after, stamps_told, QuietStep}
use Rattle.acc_record.specs.Learning.{vote_at, new_vote_at, body_of, known_or_fresh}
use Rattle.acc_record.specs.LearntAs.{IsLearntAs}
use Rattle.acc_record.proofs.After.{after_preaccept, after_nack, after_decided}
use Rattle.acc_record.proofs.Learnt.{Tells, quiet_from_learnt}
use Rattle.acc_record.specs.Refusal.{refusal_or}
use Rattle.acc_record.proofs.Rivals.{share_in}
use Rattle.acc_record.proofs.VoteLaw.{given_as, counts, refused, votes}
use Rattle.acc_record.proofs.Telling.{refusal_cases, tells_nothing, tells_vote}
use Rattle.acc_record.specs.Changes.{with_vote}
use Rattle.acc_preaccept.specs.PreAccepting.{refusal_at, voted_as, answer_at, IsPreAcceptingBy, IsPreAccepting}

raised_by_vote : (g t d : ℕ) → max g (max t d) ≡ max (max t (max d 0)) g
raised_by_vote g t d = omega arith

raised : (g t : ℕ) → max g t ≡ max (max t 0) g
raised g t = omega arith

module _ (layout : Layout) (shelf : Shelf) (from to : Actor) (x : TxnId) (b : Ballot) (body : BodyParts) where
  abbrev m : Message
  m = PreAccept from to x b body

  abbrev pub here : List (Key × Bool)
  here = share_in layout (shard_of shelf.actor) (body_of (record_at shelf.records x) body)

  answers_here : (messages : List Message) → StandsFor layout shelf (replay layout shelf.actor messages)
      → answer_at shelf x b here (top_of m) ∷ [] ≡ store_answer layout shelf.actor (replay layout shelf.actor messages) m
  answers_here messages stands =
      let past : List Taken = replay layout shelf.actor messages in
      let now : List Taken = taking m past in
      let own : Actor = shelf.actor in
      let counted : BodyParts = body_of (record_at shelf.records x) body in
      sym
      (ap (λ bd. unless_stable own x b (stable_of past x) (unless_promised own x b (promise_of past x) zero_ballot (voted own x b (vote_for layout own past now x bd)))) (sym (counts layout shelf messages stands m body refl))
      ∙ refused layout shelf messages stands m body refl b zero_ballot (voted_as own x b (given_as (vote_for layout own past now x counted)))
      ∙ ap (λ v. refusal_or (refusal_at shelf x b) (voted_as own x b v) ∷ []) (votes layout shelf messages stands m body refl))

  pub answers : (share : List (Key × Bool)) (top : ℕ) → share ≡ here → top ≡ top_of m → (messages : List Message) → StandsFor layout shelf (replay layout shelf.actor messages)
      → answer_at shelf x b share top ∷ [] ≡ store_answer layout shelf.actor (replay layout shelf.actor messages) m
  answers share top shared raises messages stands = (λ i. answer_at shelf x b (shared i) (raises i) ∷ []) ∙ answers_here messages stands

  module _ (new : Shelf) (share : List (Key × Bool)) (shared : share ≡ here) where
    abbrev r : Record
    r = known_or_fresh (record_at shelf.records x) x body

    abbrev v : Vote
    v = vote_at shelf x share (top_of m)

    abbrev QuietBy : Option Message → Type 0
    QuietBy refusal = IsPreAcceptingBy refusal shelf new x body share (top_of m) → QuietStep layout shelf new m (refusal_or refusal (voted_as shelf.actor x b v) ∷ [])

    by_vote : QuietBy None
    by_vote l =
        let sent : List Message = voted_as shelf.actor x b v ∷ [] in
        let after : record_after r m sent ≡ with_vote v r = after_preaccept r from to shelf.actor (home_of x b) x b body (record { vote = v.stamp; deps = v.deps }) in
        quiet_from_learnt layout shelf new m sent body share (Some v.stamp) (max (top_of m) (drawn_as shelf.actor.0 v.stamp)) refl shared
        (raised_by_vote shelf.greatest (top_of m) (drawn_as shelf.actor.0 v.stamp))
        (subst (λ (a : Record). Tells x (record_at shelf.records x) (stamps_told a m) (Some v.stamp)) (sym after) (tells_vote x body (record_at shelf.records x) (new_vote_at shelf x share (top_of m))))
        (subst (λ (a : Record). IsLearntAs shelf new x share (Some v.stamp) (max (top_of m) (drawn_as shelf.actor.0 v.stamp)) a) (sym after) l)

    by_decided : (t : Stamp) (deps : List ShardDeps) → QuietBy (Some (Decided shelf.actor (home_of x b) x b t deps))
    by_decided t deps l =
        let sent : List Message = Decided shelf.actor (home_of x b) x b t deps ∷ [] in
        let after : record_after r m sent ≡ r = after_decided r m shelf.actor (home_of x b) x b t deps in
        quiet_from_learnt layout shelf new m sent body share None (top_of m) refl shared (raised shelf.greatest (top_of m))
        (subst (λ (a : Record). Tells x (record_at shelf.records x) (stamps_told a m) None) (sym after) (tells_nothing x body (record_at shelf.records x)))
        (subst (λ (a : Record). IsLearntAs shelf new x share None (top_of m) a) (sym after) l)

    by_nack : (promised : Ballot) → QuietBy (Some (Nack shelf.actor (home_of x b) x b promised))
    by_nack promised l =
        let sent : List Message = Nack shelf.actor (home_of x b) x b promised ∷ [] in
        let after : record_after r m sent ≡ r = after_nack r m shelf.actor (home_of x b) x b promised in
        quiet_from_learnt layout shelf new m sent body share None (top_of m) refl shared (raised shelf.greatest (top_of m))
        (subst (λ (a : Record). Tells x (record_at shelf.records x) (stamps_told a m) None) (sym after) (tells_nothing x body (record_at shelf.records x)))
        (subst (λ (a : Record). IsLearntAs shelf new x share None (top_of m) a) (sym after) l)

    quiet_here : IsPreAccepting shelf new x b body share (top_of m) → QuietStep layout shelf new m (answer_at shelf x b share (top_of m) ∷ [])
    quiet_here = refusal_cases shelf.actor x b zero_ballot QuietBy by_vote by_decided by_nack (record_at shelf.records x)

  pub quiet : (new : Shelf) (share : List (Key × Bool)) (top : ℕ) → share ≡ here → top ≡ top_of m → IsPreAccepting shelf new x b body share top → QuietStep layout shelf new m (answer_at shelf x b share top ∷ [])
  quiet new share top shared raises =
      subst (λ (n : ℕ). IsPreAccepting shelf new x b body share n → QuietStep layout shelf new m (answer_at shelf x b share n ∷ [])) (sym raises) (quiet_here new share shared)
