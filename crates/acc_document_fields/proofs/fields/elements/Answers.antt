use Rattle.acc_schedule.proofs.FieldFacts.{elements-as_array}
use Rattle.acc_document_fields.proofs.fields.elements.Goals as goal

pub returns : goal.returns
returns c = elements-as_array _ _ _ c.in_ok-as_array.ensures c.as_slice.ensures.value
