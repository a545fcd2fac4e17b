-- Some commands went by so far.
use Rattle.std.proofs.Common.{◌≡◌, Bool, length}
use Rattle.acc_schedule_runs.specs.Situations.{Situation}
use Rattle.acc_free_laws.specs.Serving.{HasGone}
use Rattle.acc_free_ending.specs.Queues.{left_in}
use Rattle.acc_free_ending.specs.Moves.{Serves}
use Rattle.acc_free_ending.proofs.Moving.{IsMoving}
use Rattle.acc_free_ending.proofs.command.take_commands.Given as goal

abbrev pub invariant-commands : goal.invariant-commands
invariant-commands g l = record {
  same : l.queue.actor ≡ l.fn.queue.actor;
  moving : (strict_run : Bool) (s : Situation) → Serves g.D.Disk strict_run l.plan l.fn.cluster s → HasGone l.plan s l.fn.queue.actor (left_in l.fn.queue)
      → IsMoving g.D.Disk strict_run l.plan l.fn.queue.actor (left_in l.fn.queue) (left_in l.queue) l.went l.cluster s;
}

abbrev pub decreases-commands : goal.decreases-commands
decreases-commands g l = length (left_in l.queue)
