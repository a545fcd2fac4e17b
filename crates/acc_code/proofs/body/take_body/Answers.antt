use Rattle.acc_code.proofs.NumberedBody.{numbered_field}
use Rattle.acc_code.proofs.Exact.{reads_found, reads_fitting, reads_only}
use Rattle.acc_code.proofs.body.take_body.Goals as goal

pub returns-clause-found : goal.returns-clause-found
returns-clause-found c = reads_found numbered_field _ _ _ c.take_ahead.ensures.bytes c.take_ahead.ensures.exact

pub returns-clause-fits : goal.returns-clause-fits
returns-clause-fits c = reads_fitting numbered_field _ _ _ c.take_ahead.ensures.bytes c.take_ahead.ensures.exact

pub returns-clause-only : goal.returns-clause-only
returns-clause-only c = reads_only numbered_field _ _ _ c.take_ahead.ensures.exact
