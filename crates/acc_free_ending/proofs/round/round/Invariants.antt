-- The actors before this one took their commands.
use Rattle.std.proofs.Common.{◌≡◌, Bool, length, map}
use Rattle.acc_schedule_runs.specs.Situations.{Situation}
use Rattle.acc_free_ending.specs.Queues.{actor_in, HaveGone}
use Rattle.acc_free_ending.specs.Moves.{Serves}
use Rattle.acc_free_ending.proofs.Rounds.{IsUnder}
use Rattle.acc_free_ending.proofs.round.round.Given as goal

abbrev pub invariant-loop-place : goal.invariant-loop-place
invariant-loop-place g l = record {
  same : map actor_in l.queues.items ≡ map actor_in l.fn.queues.items;
  long : length l.queues.items ≡ length l.fn.queues.items;
  under : (strict_run : Bool) (s : Situation) → Serves g.D.Disk strict_run l.plan l.fn.cluster s → HaveGone l.plan s l.fn.queues.items
      → IsUnder g.D.Disk strict_run l.plan l.fn.queues.items l.queues.items l.place l.went l.cluster s;
}
