use Rattle.std.proofs.Common.{codes, sym, subst}
use Rattle.std.specs.List.{AllByRecursion}
use Rattle.serde_json.specs.Find.{get}
use Rattle.acc_txn.specs.Rules.{IsBody}
use Rattle.acc_schedule.specs.Document.{cast_of, root_of, version_of}
use Rattle.acc_schedule.specs.Fields.{items}
use Rattle.acc_report_laws.specs.Numbers.{IsNumbered}
use Rattle.acc_report_laws.proofs.Bodies.{bodies_fit}
use Rattle.acc_report_laws.proofs.Data.{field_fits, read_fits}
use Rattle.acc_report_laws.proofs.Steps.{steps_number}
use Rattle.acc_report_laws.proofs.documents.numbers_of_documents_fit.Goals as goal

pub returns : goal.returns
returns c = λ bytes plan is means.
    let json = means.json in
    let root = root_of json (get (codes "print") json) in
    let fits = read_fits bytes json means.reads in
    let bodies = subst (λ p. AllByRecursion IsBody p.bodies) means.says is.bodies in
    subst IsNumbered (sym means.says) (record {
      bodies = bodies_fit c.what_is_read_is_spelled.ensures (version_of root) (items root.txns) bodies;
      messages = steps_number (cast_of root) root.schedule (field_fits (codes "schedule") json fits);
    })
