use Rattle.std.proofs.Common.{codes, refl, ap, ◌∙◌}
use Rattle.serde_json.specs.View.{view}
use Rattle.acc_audit.proofs.RootFacts.{same_field, taken_field}
use Rattle.acc_audit.proofs.cases.set_apart.Goals as goal

pub returns-in-Object-clause-report : goal.returns-in-Object-clause-report
returns-in-Object-clause-report c = rw c.in-Object.is (same_field c.in-Object.fields c.remove.new.self (codes "txns") (codes "report") c.remove.ensures.entries refl)

pub returns-in-Object-clause-txns : goal.returns-in-Object-clause-txns
returns-in-Object-clause-txns c =
    rw c.in-Object.is (ap view c.unwrap_or-txns.ensures ∙ taken_field c.in-Object.fields (codes "txns") c.remove.result c.remove.ensures.value)
