-- A history says nothing of steps that were stopped.
use Rattle.acc_schedule_runs.specs.Situations.{Stopped, Situation}
use Rattle.acc_schedule_runs.specs.Moves.{with_stopped}
use Rattle.std.proofs.Common.{List}
use Rattle.acc_history.specs.declared.history.History.{History}
use Rattle.acc_history.specs.Stands.{StandsFor}

pub stands_stopped : {h : History} {s : Situation} → StandsFor h s → (stopped : List Stopped) → StandsFor h (with_stopped stopped s)
stands_stopped f stopped = record {
  holds = record {
    items_are = f.holds.items_are;
    sent_are = f.holds.sent_are;
    unsent = f.holds.unsent;
    postings = λ n low. let p = f.holds.postings n low in record { message = p.message; goes_to = p.goes_to; is_open = p.is_open };
    downs = f.holds.downs;
  };
  begun = f.begun;
}
