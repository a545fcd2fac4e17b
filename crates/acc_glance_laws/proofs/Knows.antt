-- A transaction with an outcome is known, by the body that was begun, to a store of each majority of each of its shards: it is decided,
-- so a quorum voted for it or committed it.
use Rattle.std.proofs.Common.{◌≡◌, ℕ, Bool, true, ◌&&◌, List, ◌∷◌, Some, refl, ◌∙◌, ap, subst}
use Rattle.std.proofs.lemmas.Bool.{false≢true, and_parts}
use Rattle.acc_stamp.specs.declared.stamps.Stamp.{Stamp}
use Rattle.acc_stamp.specs.declared.stamps.TxnId.{TxnId}
use Rattle.acc_stamp.specs.declared.stamps.Ballot.{Ballot}
use Rattle.acc_stamp.specs.declared.actors.Actor.{Actor}
use Rattle.acc_stamp.specs.Actor.{actor_of}
use Rattle.acc_stamp.specs.Stamp.{zero_ballot}
use Rattle.acc_topology.specs.Layout.{Layout, IsShard, shard_at}
use Rattle.acc_topology.specs.Sets.{is_among}
use Rattle.acc_topology.specs.Quorums.{is_majority, is_fast}
use Rattle.acc_topology.proofs.Counts.{shard_of_layout}
use Rattle.acc_topology.proofs.Counts as counts
use Rattle.acc_deps.specs.declared.shards.ShardDeps.{ShardDeps}
use Rattle.acc_quorum.specs.Answers.{Answer, is_from, has_answered, has_kept}
use Rattle.acc_quorum.proofs.Counted.{number_at}
use Rattle.acc_txn.specs.declared.parts.BodyParts.{BodyParts}
use Rattle.acc_message.specs.declared.message.Message.{Message}
use Rattle.acc_message.specs.declared.message.Message.TheVariants.{Commit}
use Rattle.acc_message.specs.declared.item.Item.{Item}
use Rattle.acc_message.specs.Fields.{from_of, id_of}
use Rattle.acc_message.specs.Items.{notes_of}
use Rattle.acc_message.specs.Taken.{Taken, taking, body_known}
use Rattle.acc_message.specs.StoreRules.{body_counting}
use Rattle.acc_message.specs.Shares.{shards_used}
use Rattle.acc_message.specs.Attempts.{plain, plainly, is_preaccept_ok}
use Rattle.acc_message.specs.BallotRules.{is_commit_ok}
use Rattle.acc_message.specs.Run.{Cluster, taken_of}
use Rattle.acc_safety.specs.Decisions.{Decision}
use Rattle.acc_safety.specs.Places.{IsIn, Whole}
use Rattle.acc_safety.specs.Polls.{IsBody, IsAnswer, AreAnswers}
use Rattle.acc_safety.specs.Roots.{DecisionRoot, ByFastVotes, ByCommits}
use Rattle.acc_safety.specs.StoreSends.{StoreSends, Votes, Accepts, Commits, Reveals, ReadsAtOnce, ReadsOnOpening, Refuses, Tells}
use Rattle.acc_safety.specs.Valid.{IsStanding}
use Rattle.acc_safety.proofs.PlaceOrder.{StandsAt-IsPast, passing, IsIn-map}
use Rattle.acc_safety.proofs.Bridge.{same, each_answers}
use Rattle.acc_safety.proofs.Frame.{bodies_are_begun}
use Rattle.acc_safety.proofs.Meetings.{used-HasShard}
use Rattle.acc_safety.proofs.StoreSent.{counting}
use Rattle.acc_safety_laws.proofs.Notions.{time_of, Answered}
use Rattle.acc_safety_laws.proofs.Facts.{Premises}
use Rattle.acc_safety_laws.proofs.Decisions.{decisions_have_roots}
use Rattle.acc_safety_laws.proofs.Knowing.{body_known-past, step_answers, step_sends}
use Rattle.acc_safety_laws.proofs.Noted.{decision_noted}
use Rattle.acc_safety_laws.proofs.Polled.{known_is_begun}
use Rattle.acc_glance_laws.proofs.Finished.{finished_in}

-- ---- what an answer tells of its store

-- a store that answers in this way knows the transaction by then
abbrev pub TellsKnown : (Message → Bool) → Type 0
TellsKnown kind =
    (layout : Layout) (own : Actor) (past : List Taken) (m answer : Message) → StoreSends layout own past m answer → kind answer ≡ true
    → (body : BodyParts) × (body_known (taking m past) (id_of answer) ≡ Some body)

votes_tell : TellsKnown is_preaccept_ok
votes_tell layout own past m answer (Votes from to x b body first v none zero heard given) is = (first, heard)
votes_tell layout own past m answer (Accepts from to x b body first t proposed deps none promised heard given) is = absurd (false≢true is)
votes_tell layout own past m answer (Commits from to x b body t deps none promised) is = absurd (false≢true is)
votes_tell layout own past m answer (Reveals from to x b body first view above heard given) is = absurd (false≢true is)
votes_tell layout own past m answer (ReadsAtOnce from to x b body t deps read opened given) is = absurd (false≢true is)
votes_tell layout own past m answer (ReadsOnOpening n c b read before among opens waits given) is = absurd (false≢true is)
votes_tell layout own past m answer (Refuses n promised given) is = absurd (false≢true is)
votes_tell layout own past m answer (Tells n s given) is = absurd (false≢true is)

commits_tell : TellsKnown is_commit_ok
commits_tell layout own past m answer (Votes from to x b body first v none zero heard given) is = absurd (false≢true is)
commits_tell layout own past m answer (Accepts from to x b body first t proposed deps none promised heard given) is = absurd (false≢true is)
commits_tell layout own past m answer (Commits from to x b body t deps none promised) is =
    (body_counting (taking (Commit from to x b body t deps) past) x body, counting (Commit from to x b body t deps) past body refl)
commits_tell layout own past m answer (Reveals from to x b body first view above heard given) is = absurd (false≢true is)
commits_tell layout own past m answer (ReadsAtOnce from to x b body t deps read opened given) is = absurd (false≢true is)
commits_tell layout own past m answer (ReadsOnOpening n c b read before among opens waits given) is = absurd (false≢true is)
commits_tell layout own past m answer (Refuses n promised given) is = absurd (false≢true is)
commits_tell layout own past m answer (Tells n s given) is = absurd (false≢true is)

-- a store of the shard whose node passes knows x by this body
pub record KnownThere (cluster : Cluster) (items : List Item) (x : TxnId) (body : BodyParts) (shard : ℕ) (test : ℕ → Bool) : Type 0 where
  pub node : ℕ
  pub passes : test node ≡ true
  pub known : body_known (taken_of cluster (actor_of node shard) items) x ≡ Some body

module _ (cluster : Cluster) (items : List Item) (standing : IsStanding cluster items) where
  answer_known : (kind : Message → Bool) → TellsKnown kind → (x : TxnId) (body : BodyParts) (b : Ballot) (m : Message)
      → IsAnswer cluster items x body b kind m → (first : BodyParts) × (body_known (taken_of cluster (from_of m) items) x ≡ Some first)
  answer_known kind tells x body b m a =
      let p = a.place in
      let each = each_answers cluster (from_of m) items standing.stands p.is_store in
      let sends = step_sends cluster.layout (from_of m) p.step p.past m
      (step_answers cluster.layout (from_of m) p.step p.past (taken_of cluster (from_of m) items) each p.at) p.sent in
      let known = tells cluster.layout (from_of m) p.past p.step.message m sends a.is in (
        known.0,
        subst (λ z. body_known (taken_of cluster (from_of m) items) z ≡ Some known.0) a.about
            (body_known-past (id_of m) known.0 (p.step ∷ p.past) (taken_of cluster (from_of m) items) known.1
            (StandsAt-IsPast p.step p.past (taken_of cluster (from_of m) items) p.at)),
      )

  module _ (x : TxnId) (body : BodyParts) (is : IsBody cluster items x body) (shard : ℕ) (test : ℕ → Bool) where
    -- the store of an answer
    known_from : (kind : Message → Bool) → TellsKnown kind → (b : Ballot) (answers : List Message) → AreAnswers cluster items x body b kind answers
        → (node : ℕ) → test node ≡ true → (e : Answer) → IsIn e (plainly x answers) → is_from shard node e ≡ true → KnownThere cluster items x body shard test
    known_from kind tells b answers are node passes e there from =
        let f = IsIn-map (plain x) e answers there in
        let at : from_of f.source ≡ actor_of node shard = same (from_of f.source) (actor_of node shard) (subst (λ (a : Answer). is_from shard node a ≡ true) f.is from) in
        let known = answer_known kind tells x body b f.source (are f.source f.there) in
        let here = subst (λ a. body_known (taken_of cluster a items) x ≡ Some known.0) at known.1 in
        record {
          node = node;
          passes = passes;
          known =
              here
              ∙ ap (λ c. Some c)
              (known_is_begun cluster items standing.stands (bodies_are_begun cluster items standing.stands) (actor_of node shard) x known.0 body here is);
        }

    known_by_root : (t : Stamp) (deps : List ShardDeps) → DecisionRoot cluster items x body t deps → is_among (shards_used cluster.layout body) shard ≡ true
        → is_majority (shard_at cluster.layout shard) test ≡ true → KnownThere cluster items x body shard test
    known_by_root t deps (ByFastVotes answers fast) used majority =
        let met = counts.fast_meets_majority cluster.layout.nodes (shard_at cluster.layout shard) right (has_kept (plainly x answers) shard) test
        (number_at (λ s. is_fast (shard_at cluster.layout s) (has_kept (plainly x answers) s)) (shards_used cluster.layout body) shard fast.fast used) majority in
        let p = passing (λ a. is_from shard met.0 a && a.unchanged) (plainly x answers) met.2 in
        known_from is_preaccept_ok votes_tell zero_ballot answers fast.are met.0 met.3 p.element p.there
        (and_parts (is_from shard met.0 p.element) p.element.unchanged p.passes).0
      where
        right : IsShard cluster.layout.nodes (shard_at cluster.layout shard)
        right = shard_of_layout cluster.layout shard standing.valid.layout (used-HasShard cluster.layout body shard standing.valid.layout used)
    known_by_root t deps (ByCommits b u more answers committed) used majority =
        let met = counts.majorities_meet cluster.layout.nodes (shard_at cluster.layout shard) right (has_answered (plainly x answers) shard) test
        (number_at (λ s. is_majority (shard_at cluster.layout s) (has_answered (plainly x answers) s)) (shards_used cluster.layout body) shard committed.majority used) majority in
        let p = passing (is_from shard met.0) (plainly x answers) met.2 in
        known_from is_commit_ok commits_tell b answers committed.are met.0 met.3 p.element p.there p.passes
      where
        right : IsShard cluster.layout.nodes (shard_at cluster.layout shard)
        right = shard_of_layout cluster.layout shard standing.valid.layout (used-HasShard cluster.layout body shard standing.valid.layout used)

  pub outcomes_are_known : Premises cluster items → (x : TxnId) (body : BodyParts) (shard : ℕ) (test : ℕ → Bool) → Answered (notes_of items) x
      → IsBody cluster items x body → is_among (shards_used cluster.layout body) shard ≡ true → is_majority (shard_at cluster.layout shard) test ≡ true
      → KnownThere cluster items x body shard test
  outcomes_are_known given x body shard test answered is used majority =
      let decided = (finished_in cluster items given standing.stands items (Whole items) x answered).finished.decided in
      let d : Decision = record { id = x; t = time_of cluster items x; deps = decided.0 } in
      let n = decision_noted items d decided.1 in
      known_by_root x body is shard test d.t d.deps
      (decisions_have_roots cluster items standing x body n.path d.t d.deps is n.noted) used majority
