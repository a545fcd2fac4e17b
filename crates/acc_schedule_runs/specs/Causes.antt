-- Why a step is passed over, each cause with what must not hold before it.
use Rattle.std.specs.Prelude.{◌≡◌, ◌⊎◌, ℕ, ◌<◌, ◌≤◌, true, false, length, Some}
use Rattle.acc_stamp.specs.declared.actors.Actor.{Actor}
use Rattle.acc_stamp.specs.Actor.{actor_of}
use Rattle.acc_message.specs.declared.item.Skip.{Skip}
use Rattle.acc_message.specs.declared.item.Skip.TheVariants.{NoMessage, Down, Begun, Unknown}
use Rattle.acc_message.specs.Items.{sent_of, is_begun, id_of_txn}
use Rattle.acc_message.specs.Run.{Cluster, is_down}
use Rattle.acc_run_laws.specs.Asks.{home_of_txn, slow_skip}
use Rattle.acc_schedule.specs.declared.plan.Step.{Step}
use Rattle.acc_schedule.specs.declared.plan.Step.TheVariants.{Begin, Deliver, Drop, Recover, Slow, Restart, Fail, Drain}
use Rattle.acc_schedule_runs.specs.Situations.{Situation, whole, receiver_in}

-- the actor is down, which is the cause
abbrev pub IsForDown : Situation → Actor → Skip → Type 0
IsForDown s a cause = (is_down a (whole s) ≡ true) × (cause ≡ Down a)

abbrev pub IsUp : Situation → Actor → Type 0
IsUp s a = is_down a (whole s) ≡ false

-- so few messages were sent
abbrev pub IsForNoMessage : Situation → ℕ → Skip → Type 0
IsForNoMessage s message cause = (length (sent_of s.own) ≤ message) × (cause ≡ NoMessage message (length (sent_of s.own)))

-- The step is passed over for the cause. A slow asks for an attempt at ballot zero that still asks for votes, and then for a majority.
abbrev pub IsCause : Cluster → Situation → Step → Skip → Type 0
IsCause cluster s (Begin txn) cause =
    IsForDown s (home_of_txn cluster txn) cause
    ⊎ (IsUp s (home_of_txn cluster txn) × (is_begun (whole s) txn ≡ true) × (cause ≡ Begun txn))
IsCause cluster s (Recover txn node) cause =
    IsForDown s (actor_of node 0) cause ⊎ (IsUp s (actor_of node 0) × (is_begun (whole s) txn ≡ false) × (cause ≡ Unknown txn))
IsCause cluster s (Slow txn) cause =
    IsForDown s (home_of_txn cluster txn) cause
    ⊎ (IsUp s (home_of_txn cluster txn) × (slow_skip cluster (whole s) txn (id_of_txn (whole s) txn) ≡ Some cause))
IsCause cluster s (Deliver message) cause =
    IsForNoMessage s message cause ⊎ ((message < length (sent_of s.own)) × IsForDown s (receiver_in s message) cause)
IsCause cluster s (Drop message) cause = IsForNoMessage s message cause
IsCause cluster s (Restart actor choice) cause = ⊥
IsCause cluster s (Fail actor calls) cause = ⊥
IsCause cluster s Drain cause = ⊥
