-- A quorum whose answers lack a rival hadn't heard of it.
use Rattle.std.proofs.Common.{◌≡◌, ℕ, Bool, true, false, List, sym, ◌∙◌, ap}
use Rattle.std.proofs.lemmas.Bool.{or_parts}
use Rattle.acc_stamp.specs.declared.stamps.Stamp.{Stamp}
use Rattle.acc_stamp.specs.declared.stamps.TxnId.{TxnId}
use Rattle.acc_stamp.specs.declared.stamps.Ballot.{Ballot}
use Rattle.acc_stamp.specs.Stamp.{stamp_lt}
use Rattle.acc_deps.specs.declared.shards.ShardDeps.{ShardDeps}
use Rattle.acc_deps.specs.Deps.{deps_has}
use Rattle.acc_deps.proofs.ByShard.{deps_has-union}
use Rattle.acc_txn.specs.declared.parts.BodyParts.{BodyParts}
use Rattle.acc_message.specs.declared.message.Message.{Message}
use Rattle.acc_message.specs.declared.message.Message.TheVariants.{Accept}
use Rattle.acc_message.specs.declared.item.Item.{Item}
use Rattle.acc_message.specs.Fields.{from_of}
use Rattle.acc_message.specs.Attempts.{deps_in_answer, union_of}
use Rattle.acc_message.specs.BallotRules.{is_accept_ok}
use Rattle.acc_message.specs.Run.{Cluster, EachStands}
use Rattle.acc_safety.specs.Places.{IsIn}
use Rattle.acc_safety.specs.Polls.{AreAnswers, AreRivals, Meeting}
use Rattle.acc_safety.specs.Roots.{AcceptedBy, CommitRoot}
use Rattle.acc_safety.specs.Statements.{OneProposal}
use Rattle.acc_safety.proofs.SetsNamed.{deps_are_sets}
use Rattle.acc_safety_laws.proofs.Polled.{vote_said, HaveVotes, answer_votes, answers_union, answer_lacks}
use Rattle.acc_safety_laws.proofs.Unheard.{AcceptedThere, accepted_there, vote_unheard, accept_unheard}
use Rattle.acc_safety_laws.proofs.Decided.{AreUnheard}

-- a meeting, seen from the other side
pub turned : (shard : ℕ) (one other : Message → Type 0) (answers more : List Message) → Meeting shard one other answers more → Meeting shard other one more answers
turned shard one other answers more m =
    record {
      store = m.store;
      of_shard = m.of_shard;
      first = m.second;
      second = m.first;
      first_in = m.second_in;
      second_in = m.first_in;
      first_from = m.second_from;
      second_from = m.first_from;
      first_is = m.second_is;
      second_is = m.first_is;
    }

module _ (cluster : Cluster) (items : List Item) (h : EachStands cluster items) (shard : ℕ) (x y : TxnId) (body theirs : BodyParts) (r : AreRivals cluster items shard y x theirs body) where
  -- votes for x without y, whose own timestamp is smaller
  pub votes_unheard : (b : Ballot) (kind : Message → Bool) (answers : List Message) → HaveVotes kind → AreAnswers cluster items x body b kind answers
      → deps_has (union_of x answers) shard y ≡ false → stamp_lt y.0 x.0 ≡ true → AreUnheard cluster items h shard x y body theirs r answers x.0
  votes_unheard b kind answers have are lacks below m there in_shard =
      vote_unheard cluster items h (from_of m) shard x y body theirs (vote_said m) (are m there).place.is_store in_shard r
      (answer_votes cluster items h x body b kind m have (are m there))
      (answer_lacks cluster items h (deps_are_sets cluster items h) x y body b kind answers m shard are there lacks) below

  -- AcceptOks of x at a timestamp above that of y, without y
  module _ (one : OneProposal items) (b : Ballot) (t : Stamp) (proposed : List ShardDeps) (answers : List Message) (accepted : AcceptedBy cluster items x body b (record { t = t; deps = proposed }) answers) where
    pub there_accepted : (m : Message) → IsIn m answers → AcceptedThere cluster items h (from_of m) x body b t (deps_in_answer m)
    there_accepted m there = accepted_there cluster items h one x body b t proposed m r.second_is accepted.proposal (accepted.are m there)

    pub answer_lacking : deps_has (union_of x answers) shard y ≡ false → (m : Message) → IsIn m answers → deps_has (deps_in_answer m) shard y ≡ false
    answer_lacking lacks m there =
        answer_lacks cluster items h (deps_are_sets cluster items h) x y body b is_accept_ok answers m shard accepted.are there lacks

    pub accepts_unheard : deps_has (union_of x answers) shard y ≡ false → stamp_lt y.0 t ≡ true → AreUnheard cluster items h shard x y body theirs r answers t
    accepts_unheard lacks under m there in_shard =
        accept_unheard cluster items h (from_of m) shard x y body theirs b t (deps_in_answer m) (accepted.are m there).place.is_store in_shard r
        (there_accepted m there) (answer_lacking lacks m there) under

  -- what is committed without y was proposed without it, and no store that accepted it named it
  pub root_lacks : (t : Stamp) (deps : List ShardDeps) (root : CommitRoot cluster items x body t deps) → deps_has deps shard y ≡ false
      → (deps_has root.proposed shard y ≡ false) × (deps_has (union_of x root.answers) shard y ≡ false)
  root_lacks t deps root lacks =
      or_parts (deps_has root.proposed shard y) (deps_has (union_of x root.answers) shard y)
      (sym (deps_has-union root.proposed (union_of x root.answers) shard y
      ((deps_are_sets cluster items h).messages (Accept root.accepted.proposal.from root.accepted.proposal.to x root.ballot body t root.proposed) root.accepted.proposal.sending).0
      (answers_union cluster items h (deps_are_sets cluster items h) x body root.ballot is_accept_ok root.answers root.accepted.are))
      ∙ ap (λ d. deps_has d shard y) (sym root.deps_are) ∙ lacks)
