-- What a step's message brings to the record of its transaction.
use Rattle.std.specs.Prelude.{◌≡◌, ℕ, ◌≤◌, length, take, drop, Bool, true, false, cond, List, [], ◌∷◌, Some}
use Rattle.std.specs.List.{AllByRecursion}
use Rattle.acc_base.specs.Faults.{or_else}
use Rattle.acc_stamp.specs.declared.stamps.Ballot.{Ballot}
use Rattle.acc_stamp.specs.Stamp.{ballot_lt, ballot_eq}
use Rattle.acc_stamp.specs.Rising.{ballots_with}
use Rattle.acc_deps.specs.declared.records.Settled.{Settled}
use Rattle.acc_txn.specs.declared.outcome.Outcome.{Outcome}
use Rattle.acc_message.specs.declared.message.Message.{Message}
use Rattle.acc_message.specs.declared.message.Message.TheVariants.{Stable, Apply}
use Rattle.acc_record.specs.declared.record.Record.{Record}

abbrev pub is_stable : Message → Bool
is_stable (Stable from to id ballot body t deps) = true
is_stable _ = false

abbrev pub is_apply : Message → Bool
is_apply (Apply from to id ballot body t deps outcome) = true
is_apply _ = false

-- with what another record says of the vote, the promise, and what was accepted and committed
abbrev pub with_proposed : Record → Record → Record
with_proposed there r =
    record r { vote = there.vote; vote_deps = there.vote_deps; promised = there.promised; accepted = there.accepted; committed = there.committed }

-- with what it says of what is stable, of the outcome, and of how far the transaction has come
abbrev pub with_decided : Record → Record → Record
with_decided there r =
    record r { stable = there.stable; waiters = there.waiters; opened = there.opened; outcome = there.outcome; applied = there.applied }

-- the first stable record counts, and the first outcome
abbrev pub with_settled : Settled → Record → Record
with_settled s r = record r { stable = or_else r.stable (Some s) }

abbrev pub with_outcome : Outcome → Record → Record
with_outcome outcome r = record r { outcome = or_else r.outcome (Some outcome) }

-- as long as the transaction isn't opened, the attempt waits
abbrev pub with_waiter : Ballot → Record → Record
with_waiter ballot r = record r { waiters = cond r.opened r.waiters (ballots_with ballot r.waiters) }

-- ---- where a ballot goes

abbrev pub is_first : Ballot → List Ballot → Bool
is_first ballot [] = false
is_first ballot (first ∷ rest) = ballot_eq first ballot

-- the first one isn't smaller
abbrev pub is_below_first : Ballot → List Ballot → Bool
is_below_first ballot [] = false
is_below_first ballot (first ∷ rest) = ballot_lt first ballot

-- those in front of the place are smaller, and the one at it isn't
pub record IsSplit (ballot : Ballot) (ballots : List Ballot) (place : ℕ) : Type 0 where
  pub within : place ≤ length ballots
  pub below : AllByRecursion (λ b. ballot_lt b ballot ≡ true) (take place ballots)
  pub stops : is_below_first ballot (drop place ballots) ≡ false
