use Rattle.std.proofs.Common.{codes}
use Rattle.serde_json.specs.Find.{get}
use Rattle.acc_schedule.specs.Document.{root_of, version_of, Root}
use Rattle.acc_schedule.specs.Fields.{items}
use Rattle.acc_report_laws.proofs.Bodies.{bodies_fit}
use Rattle.acc_left_laws.proofs.joining.bodies_of_documents_are_numbered.Goals as goal

pub returns : goal.returns
returns c = λ d is.
    let root : Root = root_of d (get (codes "print") d) in
    bodies_fit c.what_is_read_is_spelled.ensures (version_of root) (items root.txns) is.bodies
