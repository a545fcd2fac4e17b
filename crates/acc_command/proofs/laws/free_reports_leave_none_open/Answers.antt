-- The laws of served items, in the report's words.
use Rattle.std.proofs.Common.{refl}
use Rattle.acc_command.proofs.FreeReports.{quiet_served, free_none_open}
use Rattle.acc_command.proofs.laws.free_reports_leave_none_open.Goals as goal

pub returns : goal.returns
returns g c = record {
  answered = λ before after plan items is recovers restarts over. (
    c.served_commands_are_taken.ensures plan items is over.served (over.stayed refl) recovers,
    c.served_runs_are_answered.ensures.answered plan items is over.served (quiet_served plan items over.served (over.stayed refl) recovers restarts),
  );
  report = λ before after bytes text plan is says recovers restarts report.
      free_none_open g.M.D.Disk before after bytes text plan
      (λ items served up. c.served_runs_are_answered.ensures.none_open plan items is served (quiet_served plan items served up recovers restarts)) says report;
}
