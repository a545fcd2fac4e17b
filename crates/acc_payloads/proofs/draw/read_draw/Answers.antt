use Rattle.acc_payloads.proofs.Draws.{draw_found, draw_only}
use Rattle.acc_payloads.proofs.draw.read_draw.Goals as goal

pub returns-clause-found : goal.returns-clause-found
returns-clause-found c = draw_found _ _ c.take_all.ensures.bytes c.take_all.ensures.exact

pub returns-clause-only : goal.returns-clause-only
returns-clause-only c = draw_only _ _ c.take_all.ensures.exact
