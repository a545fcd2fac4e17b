-- All that waited was delivered, and some commands went by.
use Rattle.std.proofs.Common.{◌≡◌, Bool, map}
use Rattle.acc_schedule_runs.specs.Situations.{Situation}
use Rattle.acc_free_ending.specs.Queues.{actor_in, HaveGone, count_left}
use Rattle.acc_free_ending.specs.Moves.{Serves}
use Rattle.acc_free_ending.proofs.Rounds.{HasCome}
use Rattle.acc_free_ending.proofs.round.rounds.Given as goal

abbrev pub invariant-rounds : goal.invariant-rounds
invariant-rounds g l = record {
  same : map actor_in l.queues.items ≡ map actor_in l.fn.queues.items;
  come : (strict_run : Bool) (s : Situation) → Serves g.D.Disk strict_run l.plan l.fn.cluster s → HaveGone l.plan s l.fn.queues.items
      → HasCome g.D.Disk strict_run l.plan l.queues.items l.cluster s;
}

abbrev pub decreases-rounds : goal.decreases-rounds
decreases-rounds g l = count_left l.queues.items
