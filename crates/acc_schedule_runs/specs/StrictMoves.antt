-- What each step of a schedule enters over strict disks.
use Rattle.std.specs.Prelude.{◌≡◌, ℕ, false, List, Option, None, Some}
use Rattle.acc_stamp.specs.declared.actors.Actor.{Actor}
use Rattle.acc_stamp.specs.Actor.{actor_of}
use Rattle.acc_message.specs.declared.entry.Event.{Event}
use Rattle.acc_message.specs.declared.entry.Event.TheVariants.{Begin as BeginEvent, Recover as RecoverEvent, Slow as SlowEvent, Message as MessageEvent}
use Rattle.acc_message.specs.declared.item.Skip.{Skip}
use Rattle.acc_message.specs.declared.item.Item.{Item}
use Rattle.acc_message.specs.declared.item.Item.TheVariants.{Skipped}
use Rattle.acc_message.specs.Run.{Cluster}
use Rattle.acc_run_laws.specs.Asks.{home_of_txn}
use Rattle.acc_schedule.specs.declared.plan.Step.{Step}
use Rattle.acc_schedule.specs.declared.plan.Step.TheVariants.{Begin, Deliver, Drop, Recover, Slow, Restart, Fail, Drain}
use Rattle.acc_schedule_runs.specs.Situations.{Situation, opened, IsOldestWaiting, NothingWaits, receiver_in}
use Rattle.acc_schedule_runs.specs.Moves.{with_item, is_journalled, tried, begin_skip, recover_skip, slowing_skip, message_skip, deliver_skip, dropped_unless, restarted_if}
use Rattle.acc_schedule_runs.specs.Disks.{Disks, fresh_disks, after_step, after_fail, after_restart, step_answers, restart_answers}

-- what a step finds, with the disks
pub record StrictSituation : Type 0 where
  pub found : Situation
  pub disks : Disks

abbrev pub with_found : Situation → StrictSituation → StrictSituation
with_found found s = record { found = found; disks = s.disks }

-- an actor's step, which its disk stops if it is journalled and the armed call is one of its append
abbrev pub tried_strictly : Cluster → StrictSituation → Actor → Event → StrictSituation
tried_strictly cluster s a event =
    record { found = tried cluster (step_answers s.disks a) s.found a event; disks = after_step (is_journalled a event) a s.disks }

abbrev pub stepped_strictly : Option Skip → Cluster → ℕ → StrictSituation → Actor → Event → StrictSituation
stepped_strictly (Some cause) cluster number s a event = with_found (with_item (Skipped number cause) s.found) s
stepped_strictly None cluster number s a event = tried_strictly cluster s a event

-- no restart fails
abbrev pub restarted_strictly : Cluster → StrictSituation → Actor → ℕ → StrictSituation
restarted_strictly cluster s a choice =
    record { found = restarted_if false cluster (restart_answers s.disks a choice) s.found a; disks = after_restart a s.disks }

-- the oldest waiting message is delivered, as long as there is one
pub data StrictDrains (cluster : Cluster) (last : StrictSituation) : StrictSituation → Type 0 where
  stops : (s : StrictSituation) → NothingWaits s.found → last ≡ s → StrictDrains cluster last s
  delivers : (s : StrictSituation) (message : ℕ) → IsOldestWaiting s.found message
      → StrictDrains cluster last (tried_strictly cluster s (receiver_in s.found message) (MessageEvent message)) → StrictDrains cluster last s

-- the step of the schedule with this number takes the situation to the next one
abbrev pub IsStrictNext : Cluster → ℕ → Step → StrictSituation → StrictSituation → Type 0
IsStrictNext cluster number (Begin txn) s next =
    next ≡ stepped_strictly (begin_skip cluster s.found txn) cluster number s (home_of_txn cluster txn) (BeginEvent txn)
IsStrictNext cluster number (Recover txn node) s next =
    next ≡ stepped_strictly (recover_skip s.found txn node) cluster number s (actor_of node 0) (RecoverEvent txn)
IsStrictNext cluster number (Slow txn) s next =
    next ≡ stepped_strictly (slowing_skip cluster s.found txn) cluster number s (home_of_txn cluster txn) (SlowEvent txn)
IsStrictNext cluster number (Deliver message) s next =
    next ≡ stepped_strictly (deliver_skip s.found message) cluster number s (receiver_in s.found message) (MessageEvent message)
IsStrictNext cluster number (Drop message) s next =
    next ≡ with_found (dropped_unless (message_skip s.found message) number s.found message) s
IsStrictNext cluster number (Fail actor calls) s next = next ≡ record { found = s.found; disks = after_fail actor calls s.disks }
IsStrictNext cluster number (Restart actor choice) s next = next ≡ restarted_strictly cluster s actor choice
IsStrictNext cluster number Drain s next = StrictDrains cluster next s

-- a cluster that was opened after a run, with nothing armed on its disks
abbrev pub opened_strictly : List Item → StrictSituation
opened_strictly earlier = record { found = opened earlier; disks = fresh_disks }
