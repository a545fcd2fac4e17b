use Rattle.acc_schedule.proofs.FieldFacts.{elements-Array}
use Rattle.acc_document_fields.proofs.fields.into_elements.Goals as goal

pub returns-in-Array : goal.returns-in-Array
returns-in-Array c = rw c.in-Array.is (elements-Array c.in-Array.items)
