-- The steps so far, and what reopens the actors that are left, are all that is due.
use Rattle.std.proofs.Common.{◌≡◌, ◌++◌}
use Rattle.std.specs.List.{filter_map}
use Rattle.acc_schedule_runs.specs.Situations.{Situation, whole}
use Rattle.acc_cluster.specs.Stands.{StandsFor}
use Rattle.acc_heal_laws.specs.Stages.{reopening, reopening_step}
use Rattle.acc_heal.proofs.reopening.reopening.Given as goal

abbrev pub invariant-loop-actor : goal.invariant-loop-actor
invariant-loop-actor g l =
    (s : Situation) → StandsFor g.D.Disk l.plan l.cluster s
    → l.steps.items ++ filter_map (reopening_step l.plan.steps (whole s)) l.actor-iterator ≡ reopening l.plan (whole s)
