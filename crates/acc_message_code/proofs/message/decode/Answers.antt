use Rattle.acc_message_code.proofs.MessageFormat.{gives_found, gives_fitting, gives_only}
use Rattle.acc_message_code.proofs.message.decode.Goals as goal

pub returns-clause-found : goal.returns-clause-found
returns-clause-found c = gives_found _ _ c.take_all.ensures.bytes c.take_all.ensures.exact

pub returns-clause-fits : goal.returns-clause-fits
returns-clause-fits c = gives_fitting _ _ c.take_all.ensures.bytes c.take_all.ensures.exact

pub returns-clause-only : goal.returns-clause-only
returns-clause-only c = gives_only _ _ c.take_all.ensures.exact
