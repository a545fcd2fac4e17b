-- A slow is passed over by what the node of the home tells of its attempt.
use Rattle.std.proofs.Common.{◌≡◌, ℕ, Bool, true, false, not, cond, ◌&&◌, List, Option, None, Some, refl, sym, ◌∙◌, ap}
use Rattle.std.specs.List.{slice_get}
use Rattle.acc_stamp.specs.declared.stamps.TxnId.{TxnId}
use Rattle.acc_stamp.specs.Actor.{actor_of}
use Rattle.acc_stamp.specs.Stamp.{ballot_eq, zero_ballot}
use Rattle.acc_topology.specs.Layout.{Layout}
use Rattle.acc_message.specs.declared.item.Skip.{Skip}
use Rattle.acc_message.specs.declared.item.Skip.TheVariants.{Unknown, NoQuorum}
use Rattle.acc_message.specs.declared.item.Item.{Item}
use Rattle.acc_message.specs.Items.{id_of_txn}
use Rattle.acc_message.specs.Attempts.{Attempt, Phase, Voting, Recovering, Accepting, Committing, Executing, majority_everywhere}
use Rattle.acc_message.specs.NodeRules.{Deed, begun_id, attempt_of}
use Rattle.acc_message.specs.Run.{Cluster, clock_start, deeds_of, EachStands}
use Rattle.acc_run_laws.specs.Asks.{skip_if, slow_skip_in, slow_skip_at, slow_skip}
use Rattle.acc_coord.specs.Stands.{is_voting_phase}
use Rattle.acc_node.specs.Stands.{is_first_voting, has_majority, if_begun, may_slow, is_answered}
use Rattle.acc_pasts.proofs.SlowingFacts.{slow_unbegun, slow_begun}
use Rattle.acc_pasts.specs.Slowing.{slow_cause}

-- by the attempt
by_attempt : (layout : Layout) (txn : ℕ) (x : TxnId) (o : Option Attempt) → slow_skip_at layout txn x o ≡ slow_cause txn (is_first_voting o) (has_majority layout x o)
by_attempt layout txn x None = refl
by_attempt layout txn x (Some a) = by a.phase
  where
    voting : (zero_is majority : Bool) → cond zero_is (skip_if (not majority) (NoQuorum txn)) (Some (Unknown txn)) ≡ slow_cause txn (zero_is && true) majority
    voting true true = refl
    voting true false = refl
    voting false majority = refl

    past_votes : (zero_is majority : Bool) → Some (Unknown txn) ≡ slow_cause txn (zero_is && false) majority
    past_votes true majority = refl
    past_votes false majority = refl

    by : (phase : Phase)
        → slow_skip_in layout txn x a phase ≡ slow_cause txn (ballot_eq a.ballot zero_ballot && is_voting_phase phase) (majority_everywhere layout x a.body a.answers)
    by Voting = voting (ballot_eq a.ballot zero_ballot) (majority_everywhere layout x a.body a.answers)
    by Recovering = past_votes (ballot_eq a.ballot zero_ballot) (majority_everywhere layout x a.body a.answers)
    by (Accepting s) = past_votes (ballot_eq a.ballot zero_ballot) (majority_everywhere layout x a.body a.answers)
    by (Committing s) = past_votes (ballot_eq a.ballot zero_ballot) (majority_everywhere layout x a.body a.answers)
    by (Executing s) = past_votes (ballot_eq a.ballot zero_ballot) (majority_everywhere layout x a.body a.answers)

-- by what the node tells, where it has begun the transaction or not
abbrev told : Layout → ℕ → ℕ → ℕ → List Deed → Option TxnId → Option Skip
told layout node start txn past o =
    slow_cause txn (if_begun layout node start past (λ x a. is_first_voting a) o) (if_begun layout node start past (has_majority layout) o)

pub slow_is_told : (cluster : Cluster) (txn node : ℕ) → slice_get cluster.homes txn ≡ Some node → (items : List Item) → EachStands cluster items
    → slow_skip cluster items txn (id_of_txn items txn)
    ≡ slow_cause txn
    (may_slow cluster.layout node (clock_start cluster.starts node) txn (deeds_of cluster (actor_of node 0) items))
    (is_answered cluster.layout node (clock_start cluster.starts node) txn (deeds_of cluster (actor_of node 0) items))
slow_is_told cluster txn node home_is items h = by (begun_id node (clock_start cluster.starts node) txn (deeds_of cluster (actor_of node 0) items)) refl
  where
    by : (o : Option TxnId) → begun_id node (clock_start cluster.starts node) txn (deeds_of cluster (actor_of node 0) items) ≡ o
        → slow_skip cluster items txn (id_of_txn items txn)
        ≡ told cluster.layout node (clock_start cluster.starts node) txn (deeds_of cluster (actor_of node 0) items)
        (begun_id node (clock_start cluster.starts node) txn (deeds_of cluster (actor_of node 0) items))
    by None is =
        slow_unbegun cluster txn node home_is items h is
        ∙ sym (ap (told cluster.layout node (clock_start cluster.starts node) txn (deeds_of cluster (actor_of node 0) items)) is)
    by (Some x) is =
        slow_begun cluster txn node home_is items x h is
        ∙ by_attempt cluster.layout txn x (attempt_of cluster.layout node (clock_start cluster.starts node) x (deeds_of cluster (actor_of node 0) items))
        ∙ sym (ap (told cluster.layout node (clock_start cluster.starts node) txn (deeds_of cluster (actor_of node 0) items)) is)
