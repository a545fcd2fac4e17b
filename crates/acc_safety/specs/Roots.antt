-- Where proposals, commits and decisions go back to, however often they were adopted since.
use Rattle.std.specs.Prelude.{◌≡◌, true, List}
use Rattle.acc_stamp.specs.declared.stamps.Stamp.{Stamp}
use Rattle.acc_stamp.specs.declared.stamps.TxnId.{TxnId}
use Rattle.acc_stamp.specs.declared.stamps.Ballot.{Ballot}
use Rattle.acc_stamp.specs.declared.actors.Actor.{Actor}
use Rattle.acc_stamp.specs.Stamp.{zero_ballot}
use Rattle.acc_deps.specs.declared.shards.ShardDeps.{ShardDeps}
use Rattle.acc_deps.specs.declared.records.Settled.{Settled}
use Rattle.acc_deps.specs.Deps.{deps_union}
use Rattle.acc_txn.specs.declared.parts.BodyParts.{BodyParts}
use Rattle.acc_message.specs.declared.message.Message.{Message}
use Rattle.acc_message.specs.declared.message.Message.TheVariants.{Accept, Commit}
use Rattle.acc_message.specs.declared.note.Path.TheVariants.{Fast}
use Rattle.acc_message.specs.declared.note.Note.TheVariants.{Decide as DecideNote}
use Rattle.acc_message.specs.declared.item.Item.{Item}
use Rattle.acc_message.specs.Attempts.{greatest_vote, union_of, majority_everywhere, fast_everywhere, is_preaccept_ok}
use Rattle.acc_message.specs.BallotRules.{is_recover_ok, is_accept_ok, is_commit_ok}
use Rattle.acc_message.specs.Run.{Cluster}
use Rattle.acc_safety.specs.Histories.{Sending, Noting}
use Rattle.acc_safety.specs.NodeMoves.{IsRuledOut, IsFree}
use Rattle.acc_safety.specs.Polls.{AreAnswers}

-- ---- sent Accepts and Commits

-- an Accept of x at the ballot proposes this timestamp and these dependencies
pub record Proposed (items : List Item) (x : TxnId) (body : BodyParts) (b : Ballot) (t : Stamp) (deps : List ShardDeps) : Type 0 where
  pub from : Actor
  pub to : Actor
  pub sending : Sending items (Accept from to x b body t deps)

-- a Commit of x at the ballot has this timestamp and these dependencies
pub record Committed (items : List Item) (x : TxnId) (body : BodyParts) (b : Ballot) (t : Stamp) (deps : List ShardDeps) : Type 0 where
  pub from : Actor
  pub to : Actor
  pub sending : Sending items (Commit from to x b body t deps)

-- ---- roots of proposals

-- A proposal of x with this timestamp and these dependencies goes back to the votes of a majority in every shard of x. Where
-- it has their greatest vote, they answered the first attempt, or a recovery that found that x can't have been decided at its
-- own timestamp. Else it has this timestamp, and a recovery found that it may have been, and nothing to wait for.
pub data Root (cluster : Cluster) (items : List Item) (x : TxnId) (body : BodyParts) : Stamp → List ShardDeps → Type 0 where
  GreatestOfVotes :
      (answers : List Message)
      → AreAnswers cluster items x body zero_ballot is_preaccept_ok answers → majority_everywhere cluster.layout x body answers ≡ true
      → Proposed items x body zero_ballot (greatest_vote x answers) (union_of x answers)
      → Root cluster items x body (greatest_vote x answers) (union_of x answers)
  GreatestOfViews :
      (b : Ballot) (answers : List Message)
      → AreAnswers cluster items x body b is_recover_ok answers → majority_everywhere cluster.layout x body answers ≡ true
      → IsRuledOut cluster.layout x body answers
      → Root cluster items x body (greatest_vote x answers) (union_of x answers)
  Own :
      (b : Ballot) (answers : List Message)
      → AreAnswers cluster items x body b is_recover_ok answers → majority_everywhere cluster.layout x body answers ≡ true
      → IsFree cluster.layout x body answers
      → Root cluster items x body x.0 (union_of x answers)

-- ---- roots of commits

-- a majority in every shard of x accepted this proposal at the ballot, and these are their answers
pub record AcceptedBy (cluster : Cluster) (items : List Item) (x : TxnId) (body : BodyParts) (b : Ballot) (proposed : Settled) (answers : List Message) : Type 0 where
  pub proposal : Proposed items x body b proposed.t proposed.deps
  pub are : AreAnswers cluster items x body b is_accept_ok answers
  pub majority : majority_everywhere cluster.layout x body answers ≡ true

-- a Commit goes back to a proposal that a majority in every shard accepted at one ballot: its dependencies are the proposed
-- ones with theirs
pub record CommitRoot (cluster : Cluster) (items : List Item) (x : TxnId) (body : BodyParts) (t : Stamp) (deps : List ShardDeps) : Type 0 where
  pub ballot : Ballot
  pub proposed : List ShardDeps
  pub answers : List Message
  pub accepted : AcceptedBy cluster items x body ballot (record { t = t; deps = proposed }) answers
  pub deps_are : deps ≡ deps_union proposed (union_of x answers)

-- ---- roots of decisions

-- a majority in every shard of x committed this at the ballot, and these are their answers
pub record CommittedBy (cluster : Cluster) (items : List Item) (x : TxnId) (body : BodyParts) (b : Ballot) (decided : Settled) (answers : List Message) : Type 0 where
  pub commit : Committed items x body b decided.t decided.deps
  pub are : AreAnswers cluster items x body b is_commit_ok answers
  pub majority : majority_everywhere cluster.layout x body answers ≡ true

-- the first attempt decided x by votes that are fast in every shard
pub record FastBy (cluster : Cluster) (items : List Item) (x : TxnId) (body : BodyParts) (answers : List Message) : Type 0 where
  pub are : AreAnswers cluster items x body zero_ballot is_preaccept_ok answers
  pub fast : fast_everywhere cluster.layout x body answers ≡ true
  pub noted : Noting items (DecideNote x x.0 Fast (union_of x answers))

-- a decision of x goes back to fast votes, or to a Commit that a majority in every shard committed
pub data DecisionRoot (cluster : Cluster) (items : List Item) (x : TxnId) (body : BodyParts) : Stamp → List ShardDeps → Type 0 where
  ByFastVotes :
      (answers : List Message) → FastBy cluster items x body answers → DecisionRoot cluster items x body x.0 (union_of x answers)
  ByCommits :
      (b : Ballot) (t : Stamp) (deps : List ShardDeps) (answers : List Message) → CommittedBy cluster items x body b (record { t = t; deps = deps }) answers
      → DecisionRoot cluster items x body t deps
