use Rattle.acc_code.proofs.CellFormats.{outcome_field}
use Rattle.acc_code.proofs.Exact.{reads_found, reads_fitting, reads_only}
use Rattle.acc_code.proofs.outcome.take_outcome.Goals as goal

pub returns-clause-found : goal.returns-clause-found
returns-clause-found c = reads_found outcome_field _ _ _ c.take_fields.ensures.bytes c.take_fields.ensures.exact

pub returns-clause-fits : goal.returns-clause-fits
returns-clause-fits c = reads_fitting outcome_field _ _ _ c.take_fields.ensures.bytes c.take_fields.ensures.exact

pub returns-clause-only : goal.returns-clause-only
returns-clause-only c = reads_only outcome_field _ _ _ c.take_fields.ensures.exact
