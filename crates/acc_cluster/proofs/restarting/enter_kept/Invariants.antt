-- The history has the entries so far.
use Rattle.std.proofs.Common.{◌≡◌, ◌++◌}
use Rattle.std.specs.Vec.Iter.{into_iter_items}
use Rattle.acc_schedule_runs.specs.Situations.{Situation}
use Rattle.acc_cluster.specs.Entering.{HasPlace, IsPastOf}
use Rattle.acc_cluster.specs.Restarting.{with_lost, CanComeBack}
use Rattle.acc_cluster.proofs.restarting.enter_kept.Given as goal

abbrev pub invariant-loop-unsent : goal.invariant-loop-unsent
invariant-loop-unsent l = record {
  can_next : goal.iterator-loop-unsent.can_next l.unsent-iterator;
  is_finite : goal.iterator-loop-unsent.is_finite l.unsent-iterator;
  rest : l.yielded ++ into_iter_items l.unsent-iterator ≡ l.fn.kept;
  past : (s : Situation) → CanComeBack l.initial.history l.actor l.fn.kept s → IsPastOf l.history (with_lost l.actor l.yielded s) × HasPlace (with_lost l.actor l.yielded s);
}
