use Rattle.std.proofs.Common.{sym}
use Rattle.acc_schedule_runs.specs.Schedules.{cluster_of}
use Rattle.acc_glance.proofs.SerialFacts.{quiet, returned}
use Rattle.acc_glance.proofs.serial.Serial.enter_note.Goals as goal

pub returns-in-None : goal.returns-in-None
returns-in-None c = λ items notes t. quiet (cluster_of c.args.plan.now) items c.args.self.now notes c.args.note.now (sym c.in-None.ensures) t

pub returns-in-Some : goal.returns-in-Some
returns-in-Some c = returned c.enter_outcome.result c.enter_outcome.ensures (λ enters items notes t. enters items notes c.args.note.now (sym c.in-Some.ensures) t)
