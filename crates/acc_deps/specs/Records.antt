-- The record that a recovery adopts from the views of stores: what is stable, before it what counts first among the committed
-- and accepted records.
--     least_stably      the stable record of the first store
--     highest_claim      the committed or accepted record of the greatest ballot, then a committed one, then that of the first store
--     waits_of      the transactions for which some view waits
use Rattle.std.specs.Prelude.{◌≡◌, Bool, true, false, not, cond, ◌==◌, ◌&&◌, ◌||◌, nat_lt, List, [], ◌∷◌, ◌++◌, Option, None, Some, Contains}
use Rattle.std.specs.List.{flat_map}
use Rattle.std.specs.Bool.{beq}
use Rattle.acc_stamp.specs.declared.stamps.TxnId.{TxnId}
use Rattle.acc_stamp.specs.declared.stamps.Ballot.{Ballot}
use Rattle.acc_stamp.specs.declared.actors.Actor.{Actor}
use Rattle.acc_stamp.specs.Actor.{node_of, shard_of}
use Rattle.acc_stamp.specs.Stamp.{ballot_lt, ballot_eq}
use Rattle.acc_stamp.specs.Rising.{ids_union}
use Rattle.acc_deps.specs.declared.records.Accepted.{Accepted}
use Rattle.acc_deps.specs.declared.records.Settled.{Settled}
use Rattle.acc_deps.specs.declared.records.View.{View}
use Rattle.acc_deps.specs.declared.records.Choice.{Choice}
use Rattle.acc_deps.specs.declared.records.Choice.TheVariants.{Accept as GoAccept, Commit as GoCommit, Stable as GoStable}

-- by shard and then by node
abbrev pub store_lt : Actor → Actor → Bool
store_lt a b = nat_lt (shard_of a) (shard_of b) || (shard_of a == shard_of b && nat_lt (node_of a) (node_of b))

-- ---- stable records: that of the first store counts

pub record Stably : Type 0 where
  pub store : Actor
  pub settled : Settled

abbrev pub stably_in : Actor → Option Settled → List Stably
stably_in store None = []
stably_in store (Some s) = record { store = store; settled = s } ∷ []

abbrev pub stably_all : List View → List Stably
stably_all views = flat_map (λ (v : View). stably_in v.store v.stable) views

abbrev pub lesser_of : Stably → Option Stably → Stably
lesser_of a None = a
lesser_of a (Some b) = cond (store_lt b.store a.store) b a

abbrev pub least_stably : List Stably → Option Stably
least_stably [] = None
least_stably (s ∷ rest) = Some (lesser_of s (least_stably rest))

-- ---- other records: a higher ballot wins, then committed over accepted, then the first store

pub record Claim : Type 0 where
  pub store : Actor
  pub ballot : Ballot
  pub is_committed : Bool
  pub settled : Settled

abbrev pub claim_in : Actor → Bool → Option Accepted → List Claim
claim_in store is_committed None = []
claim_in store is_committed (Some a) =
    record { store = store; ballot = a.ballot; is_committed = is_committed; settled = record { t = a.t; deps = a.deps } } ∷ []

abbrev pub claims_in : View → List Claim
claims_in v = claim_in v.store true v.committed ++ claim_in v.store false v.accepted

abbrev pub claims_of : List View → List Claim
claims_of views = flat_map claims_in views

abbrev pub is_committed_before : Claim → Claim → Bool
is_committed_before a b =
    (a.is_committed && not b.is_committed) || (beq a.is_committed b.is_committed && store_lt a.store b.store)

-- a goes before b
abbrev pub outranks : Claim → Claim → Bool
outranks a b = ballot_lt b.ballot a.ballot || (ballot_eq a.ballot b.ballot && is_committed_before a b)

abbrev pub higher_of : Claim → Option Claim → Claim
higher_of a None = a
higher_of a (Some b) = cond (outranks b a) b a

abbrev pub highest_claim : List Claim → Option Claim
highest_claim [] = None
highest_claim (c ∷ claims) = Some (higher_of c (highest_claim claims))

-- how a recovery goes on with it
abbrev pub choice_of_claim : Claim → Choice
choice_of_claim c = cond c.is_committed (GoCommit c.settled) (GoAccept c.settled)

-- ---- waits

abbrev pub waits_of : List View → List TxnId
waits_of [] = []
waits_of (v ∷ views) = ids_union (waits_of views) v.waits

-- ---- laws

-- some view shows this stable record
pub record ShowsStable (views : List View) (s : Stably) : Type 0 where
  pub view : View
  pub there : Contains views view
  pub store_is : view.store ≡ s.store
  pub shows : view.stable ≡ Some s.settled

-- the record that a claim is
abbrev pub record_of : Claim → Accepted
record_of c = record { ballot = c.ballot; t = c.settled.t; deps = c.settled.deps }

-- the view has the claim as its committed or as its accepted record
abbrev pub shown_as : View → Bool → Option Accepted
shown_as v is_committed = cond is_committed v.committed v.accepted

-- some view shows the claim
pub record ShowsClaim (views : List View) (c : Claim) : Type 0 where
  pub view : View
  pub there : Contains views view
  pub store_is : view.store ≡ c.store
  pub shows : shown_as view c.is_committed ≡ Some (record_of c)

-- the ballot of the first isn't smaller, and where both have one ballot the first is committed if the second is
pub record IsAtLeast (c d : Claim) : Type 0 where
  pub ballot : ballot_lt c.ballot d.ballot ≡ false
  pub committed : c.ballot ≡ d.ballot → d.is_committed ≡ true → c.is_committed ≡ true
