-- Where a transaction is decided fast, every proposal and every decision of it has its own timestamp.
use Rattle.std.proofs.Common.{◌≡◌, ℕ, Bool, true, false, not, ◌&&◌, List, Option, None, Some, refl, sym, ◌∙◌, ap, inl, inr, ⊎_elim}
use Rattle.std.proofs.lemmas.Bool.{true≢false, or_cases, and_parts}
use Rattle.acc_stamp.specs.declared.stamps.Stamp.{Stamp}
use Rattle.acc_stamp.specs.declared.stamps.TxnId.{TxnId}
use Rattle.acc_stamp.specs.declared.stamps.Ballot.{Ballot}
use Rattle.acc_stamp.specs.declared.actors.Actor.{Actor}
use Rattle.acc_stamp.specs.Actor.{shard_of}
use Rattle.acc_stamp.specs.Stamp.{id_eq, id_lt, stamp_lt, zero_ballot}
use Rattle.acc_stamp.proofs.Order.{id_order, eq_itself}
use Rattle.acc_deps.specs.declared.shards.ShardDeps.{ShardDeps}
use Rattle.acc_deps.specs.declared.records.Accepted.{Accepted}
use Rattle.acc_deps.specs.declared.records.Settled.{Settled}
use Rattle.acc_deps.specs.declared.records.View.{View}
use Rattle.acc_deps.specs.Deps.{deps_has}
use Rattle.acc_txn.specs.declared.parts.BodyParts.{BodyParts}
use Rattle.acc_message.specs.declared.message.Message.{Message}
use Rattle.acc_message.specs.declared.message.Message.TheVariants.{Accept}
use Rattle.acc_message.specs.declared.item.Item.{Item}
use Rattle.acc_message.specs.Fields.{from_of}
use Rattle.acc_message.specs.Shares.{conflict_in}
use Rattle.acc_message.specs.Taken.{Taken, taking, Heard, rivals, known}
use Rattle.acc_message.specs.VoteRule.{Vote, vote_of}
use Rattle.acc_message.specs.Attempts.{is_preaccept_ok, union_of}
use Rattle.acc_message.specs.BallotRules.{is_recover_ok, accepted_of, stable_of}
use Rattle.acc_message.specs.Evidence.{accepted_without, stable_without, supersedes}
use Rattle.acc_message.specs.RecoveryDecision.{views_in}
use Rattle.acc_message.specs.Run.{Cluster, taken_of, is_node}
use Rattle.acc_actor_laws.proofs.OpeningFacts.{some_is}
use Rattle.acc_safety.specs.Places.{IsIn, StandsAt}
use Rattle.acc_safety.specs.NodeMoves.{IsRuledOut}
use Rattle.acc_safety.specs.Polls.{IsBody, AreAnswers, AreRivals, IsAny, Kept}
use Rattle.acc_safety.specs.Roots.{Proposed, Root, GreatestOfVotes, GreatestOfViews, Own, FastBy, DecisionRoot, ByFastVotes, ByCommits}
use Rattle.acc_safety.specs.Statements.{FastIsFound}
use Rattle.acc_safety.specs.Valid.{IsStanding}
use Rattle.acc_safety.proofs.PlaceOrder.{Passing, passing, IsIn-filter}
use Rattle.acc_safety.proofs.Frame.{bodies_are_begun, past_of}
use Rattle.acc_safety.proofs.Meetings.{fast_meets_majority, fast_meets_fast, impossible_meets_fast, are_rivals, rivals_back}
use Rattle.acc_safety_laws.proofs.Knowing.{known_itself}
use Rattle.acc_safety_laws.proofs.Shown.{stable_of-past}
use Rattle.acc_safety_laws.proofs.Polled.{vote_said, preaccept_oks_vote, recover_oks_vote, answer_votes}
use Rattle.acc_safety_laws.proofs.Unheard.{known_there, proposed_there}
use Rattle.acc_safety_laws.proofs.Decided.{met_kept}
use Rattle.acc_safety_laws.proofs.Lacking.{turned, votes_unheard, accepts_unheard, root_lacks}
use Rattle.acc_safety_laws.proofs.Revealed.{view_from, ViewThere, view_there}
use Rattle.acc_safety_laws.specs.AgreementPremises.{Premises}

-- ---- a rival that isn't named

-- r: y is the rival of x, which is decided fast
module _ (cluster : Cluster) (items : List Item) (s : IsStanding cluster items) (p : Premises cluster items) (shard : ℕ) (x y : TxnId) (body theirs : BodyParts) (answers : List Message) (f : FastBy cluster items x body answers) (r : AreRivals cluster items shard x y body theirs) where
  -- y isn't proposed without x by votes or views if it is the younger one
  root_without : (t : Stamp) (deps : List ShardDeps) → Root cluster items y theirs t deps → deps_has deps shard x ≡ false → stamp_lt x.0 y.0 ≡ true → ⊥
  root_without t deps (GreatestOfVotes more are majority proposed) lacks below =
      met_kept cluster items s.stands shard y x theirs body r y.0 IsAny more answers zero_ballot is_preaccept_ok preaccept_oks_vote
      (votes_unheard cluster items s.stands shard y x theirs body r zero_ballot is_preaccept_ok more preaccept_oks_vote are lacks below) f.are below
      (turned shard (Kept x) IsAny answers more
      (fast_meets_majority cluster.layout x y body theirs answers more shard s.valid.layout r.first_uses r.second_uses f.fast majority))
  root_without t deps (GreatestOfViews b more are majority ruled_out) lacks below =
      met_kept cluster items s.stands shard y x theirs body r y.0 IsAny more answers zero_ballot is_preaccept_ok preaccept_oks_vote
      (votes_unheard cluster items s.stands shard y x theirs body r b is_recover_ok more recover_oks_vote are lacks below) f.are below
      (turned shard (Kept x) IsAny answers more
      (fast_meets_majority cluster.layout x y body theirs answers more shard s.valid.layout r.first_uses r.second_uses f.fast majority))
  root_without t deps (Own b more are majority free) lacks below =
      met_kept cluster items s.stands shard y x theirs body r y.0 IsAny more answers zero_ballot is_preaccept_ok preaccept_oks_vote
      (votes_unheard cluster items s.stands shard y x theirs body r b is_recover_ok more recover_oks_vote are lacks below) f.are below
      (turned shard (Kept x) IsAny answers more
      (fast_meets_majority cluster.layout x y body theirs answers more shard s.valid.layout r.first_uses r.second_uses f.fast majority))

  -- nor decided without x above it
  decision_without : (t : Stamp) (deps : List ShardDeps) → DecisionRoot cluster items y theirs t deps → deps_has deps shard x ≡ false → stamp_lt x.0 t ≡ true → ⊥
  decision_without t deps (ByFastVotes more fast) lacks below =
      met_kept cluster items s.stands shard y x theirs body r y.0 (Kept y) more answers zero_ballot is_preaccept_ok preaccept_oks_vote
      (votes_unheard cluster items s.stands shard y x theirs body r zero_ballot is_preaccept_ok more preaccept_oks_vote fast.are lacks below) f.are below
      (turned shard (Kept x) (Kept y) answers more
      (fast_meets_fast cluster.layout x y body theirs answers more shard s.valid.layout r.first_uses r.second_uses f.fast fast.fast))
  decision_without t deps (ByCommits b u ds more c) lacks below =
      let root = p.commits y theirs b u ds c.commit in
      met_kept cluster items s.stands shard y x theirs body r u IsAny root.answers answers zero_ballot is_preaccept_ok preaccept_oks_vote
      (accepts_unheard cluster items s.stands shard y x theirs body r p.one_proposal root.ballot u root.proposed root.answers root.accepted
      (root_lacks cluster items s.stands shard y x theirs body r u ds root lacks).1 below) f.are below
      (turned shard (Kept x) IsAny answers root.answers
      (fast_meets_majority cluster.layout x y body theirs answers root.answers shard s.valid.layout r.first_uses r.second_uses f.fast root.accepted.majority))

  -- so y doesn't supersede x in the history of a store
  doesnt_supersede : (a : Actor) (step : Taken) (past : List Taken) → is_node a ≡ false → StandsAt step past (taken_of cluster a items)
      → supersedes shard past x y ≡ true → ⊥
  doesnt_supersede a step past store at h =
      ⊎_elim (accepted (accepted_of past y) refl) (stable (stable_of past y) refl)
      (or_cases (accepted_without shard x y (accepted_of past y)) (stable_without shard x (stable_of past y)) h)
    where
      isnt : (b : Bool) → not b ≡ true → b ≡ false
      isnt true k = absurd (true≢false (sym k))
      isnt false k = refl

      accepted : (o : Option Accepted) → accepted_of past y ≡ o → accepted_without shard x y (accepted_of past y) ≡ true → ⊥
      accepted None is k = true≢false (sym k ∙ ap (accepted_without shard x y) is)
      accepted (Some found) is k =
          let both = and_parts (id_lt x y) (not (deps_has found.deps shard x)) (sym (ap (accepted_without shard x y) is) ∙ k) in
          root_without found.t found.deps
          (p.proposals y theirs found.ballot found.t found.deps
          (proposed_there cluster items s.stands a y theirs past found r.second_is (past_of step past (taken_of cluster a items) at) is))
          (isnt (deps_has found.deps shard x) both.1) both.0

      stable : (o : Option Settled) → stable_of past y ≡ o → stable_without shard x (stable_of past y) ≡ true → ⊥
      stable None is k = true≢false (sym k ∙ ap (stable_without shard x) is)
      stable (Some d) is k =
          let both = and_parts (stamp_lt x.0 d.t) (not (deps_has d.deps shard x)) (sym (ap (stable_without shard x) is) ∙ k) in
          decision_without d.t d.deps
          (p.records a y theirs d store r.second_is (stable_of-past y d past (taken_of cluster a items) is (past_of step past (taken_of cluster a items) at)))
          (isnt (deps_has d.deps shard x) both.1) both.0

-- ---- no view says that x is superseded

module _ (cluster : Cluster) (items : List Item) (s : IsStanding cluster items) (p : Premises cluster items) (x : TxnId) (body : BodyParts) (answers : List Message) (f : FastBy cluster items x body answers) (is : IsBody cluster items x body) where
  not_superseded : (a : Actor) (b : Ballot) (view : View) → is_node a ≡ false → ViewThere cluster items s.stands a x body b view → view.superseded ≡ true → ⊥
  not_superseded a b view store v h =
      doesnt_supersede cluster items s p (shard_of a) x k.id body k.body answers f
      (rivals_back cluster items (shard_of a) k.id x k.body body
      (are_rivals cluster items (shard_of a) k.id x k.body body s.valid.layout
      (known_there cluster items s.stands a v.step v.past k.id k.body v.at (known_itself k (taking v.step.message v.past) there.0))
      is different (sym (ap (conflict_in cluster.layout (shard_of a) k.body) v.counting_is) ∙ apart.1)))
      a v.step v.past store v.at found.passes
    where
      found : Passing (λ (k : Heard). supersedes (shard_of a) v.past x k.id) (rivals cluster.layout (shard_of a) (taking v.step.message v.past) x v.answer.counting)
      found =
          passing (λ (k : Heard). supersedes (shard_of a) v.past x k.id) (rivals cluster.layout (shard_of a) (taking v.step.message v.past) x v.answer.counting)
          (sym (ap (λ (w : View). w.superseded) v.answer.view_is) ∙ h)

      k : Heard
      k = found.element

      there : IsIn k (known (taking v.step.message v.past)) × ((not (id_eq k.id x) && conflict_in cluster.layout (shard_of a) k.body v.answer.counting) ≡ true)
      there =
          IsIn-filter (λ (j : Heard). not (id_eq j.id x) && conflict_in cluster.layout (shard_of a) j.body v.answer.counting) k (known (taking v.step.message v.past)) found.there

      apart : (not (id_eq k.id x) ≡ true) × (conflict_in cluster.layout (shard_of a) k.body v.answer.counting ≡ true)
      apart = and_parts (not (id_eq k.id x)) (conflict_in cluster.layout (shard_of a) k.body v.answer.counting) there.1

      different : k.id ≡ x → ⊥
      different e = true≢false (sym apart.0 ∙ ap not (ap (λ z. id_eq z x) e ∙ eq_itself id_order x))

  -- a recovery doesn't rule out that x was decided fast
  not_ruled_out : (b : Ballot) (more : List Message) → AreAnswers cluster items x body b is_recover_ok more → IsRuledOut cluster.layout x body more → ⊥
  not_ruled_out b more are (inl impossible) =
      let m = (impossible_meets_fast cluster.layout x body more answers s.valid.layout impossible f.fast).1 in
      m.first_is
      (ap (λ (v : Vote). v.vote)
      (some_is (vote_said m.first) (vote_said m.second)
      (sym (answer_votes cluster items s.stands x body b is_recover_ok m.first recover_oks_vote (are m.first m.first_in))
      ∙ ap (λ c. vote_of (taken_of cluster c items) x) (m.first_from ∙ sym m.second_from)
      ∙ answer_votes cluster items s.stands x body zero_ballot is_preaccept_ok m.second preaccept_oks_vote (f.are m.second m.second_in)))
      ∙ m.second_is)
  not_ruled_out b more are (inr found) =
      let view = passing (λ (v : View). v.superseded) (views_in more) found in
      let m = view_from more view.element view.there in
      not_superseded (from_of m.message) b view.element (are m.message m.there).place.is_store
      (view_there cluster items s.stands x body b m.message view.element is (are m.message m.there) m.is) view.passes

  -- ---- the roots

  own_root : (b : Ballot) (t : Stamp) (deps : List ShardDeps) → Root cluster items x body t deps → t ≡ x.0
  own_root b t deps (GreatestOfVotes more are majority proposed) = absurd (p.never_both x body _ x.0 _ (union_of x answers) proposed f.noted)
  own_root b t deps (GreatestOfViews c more are majority ruled_out) = absurd (not_ruled_out c more are ruled_out)
  own_root b t deps (Own c more are majority free) = refl

pub fast_is_found : (cluster : Cluster) (items : List Item) → IsStanding cluster items → Premises cluster items → FastIsFound cluster items
fast_is_found cluster items s p = record { proposals = proposals; decisions = decisions }
  where
    proposals : (x : TxnId) (body : BodyParts) (answers : List Message) (b : Ballot) (t : Stamp) (deps : List ShardDeps)
        → FastBy cluster items x body answers → Proposed items x body b t deps → t ≡ x.0
    proposals x body answers b t deps f proposed =
        own_root cluster items s p x body answers f (bodies_are_begun cluster items s.stands (Accept proposed.from proposed.to x b body t deps) body proposed.sending refl)
        b t deps (p.proposals x body b t deps proposed)

    decisions : (x : TxnId) (body : BodyParts) (answers : List Message) (t : Stamp) (deps : List ShardDeps)
        → FastBy cluster items x body answers → DecisionRoot cluster items x body t deps → t ≡ x.0
    decisions x body answers t deps f (ByFastVotes more fast) = refl
    decisions x body answers t deps f (ByCommits b u ds more c) =
        let root = p.commits x body b u ds c.commit in
        proposals x body answers root.ballot u root.proposed f root.accepted.proposal
