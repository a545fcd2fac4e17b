use Rattle.std.proofs.Common.{refl, sym, ◌∙◌, ap}
use Rattle.acc_value.specs.Cells.{cells_of, applied}
use Rattle.acc_txn.specs.declared.outcome.Outcome.{Outcome}
use Rattle.acc_schedule_runs.specs.Schedules.{cluster_of}
use Rattle.acc_glance.proofs.SerialFacts.{old_outcome, new_outcome, returned}
use Rattle.acc_glance.proofs.serial.Serial.enter_outcome.Goals as goal

pub returns-then-contains : goal.returns-then-contains
returns-then-contains c = λ items notes note is t. old_outcome (cluster_of c.args.plan.now) items c.args.self.now notes note c.args.id is (sym c.if-contains.ensures) t

pub returns : goal.returns
returns c =
    returned c.insert_id.result c.insert_id.ensures
    (λ answered items notes note is t.
    new_outcome (cluster_of c.args.plan.now) items c.args.self.now
    (record { begun = c.args.self.now.begun; answered = c.insert_id.new.answered; cells = c.apply.new.self }) notes note c.args.id c.in-Some.body.now is (sym c.if-contains.ensures)
    c.in-Some.ensures (λ x. refl) answered
    (λ key. c.in_ok-apply.ensures.ok key ∙ ap (λ (o : Outcome). applied (cells_of c.args.self.now.cells) o.writes key) c.in_ok-outcome.ensures) t)
