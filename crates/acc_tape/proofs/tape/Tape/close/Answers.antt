use Rattle.std.proofs.Common.{sym, subst}
use Rattle.acc_tape.proofs.Closing.{closes, closes_visits}
use Rattle.acc_tape.proofs.tape.Tape.close.Goals as goal

pub returns-clause-first : goal.returns-clause-first
returns-clause-first g c =
    (closes g.E.Posted.actor_of _ _ c.first.inside.token.me c.gather.new.first.me _ c.args.first c.args.others c.first.invariant c.first.view_is c.requires.first.1 c.gather.ensures.joined c.requires.all _ _ c.close_with-closed.ensures.values.2 c.take-board.result c.take-board.ensures.value (g.E.Posted.in_list c.into_items.result) c.into_items.ensures.items).first

pub returns-clause-seats : goal.returns-clause-seats
returns-clause-seats g c =
    (closes g.E.Posted.actor_of _ _ c.first.inside.token.me c.gather.new.first.me _ c.args.first c.args.others c.first.invariant c.first.view_is c.requires.first.1 c.gather.ensures.joined c.requires.all _ _ c.close_with-closed.ensures.values.2 c.take-board.result c.take-board.ensures.value (g.E.Posted.in_list c.into_items.result) c.into_items.ensures.items).seats

pub returns-clause-owned : goal.returns-clause-owned
returns-clause-owned g c =
    (closes g.E.Posted.actor_of _ _ c.first.inside.token.me c.gather.new.first.me _ c.args.first c.args.others c.first.invariant c.first.view_is c.requires.first.1 c.gather.ensures.joined c.requires.all _ _ c.close_with-closed.ensures.values.2 c.take-board.result c.take-board.ensures.value (g.E.Posted.in_list c.into_items.result) c.into_items.ensures.items).owned

pub returns-clause-fits : goal.returns-clause-fits
returns-clause-fits g c =
    subst g.R.Rules.fits (sym c.into_items.ensures.items) c.into_items.ensures.fits

pub returns-clause-visits : goal.returns-clause-visits
returns-clause-visits g c =
    closes_visits g.E.Posted.actor_of _ _ c.first.inside.token.me c.gather.new.first.me _ c.args.first c.args.others c.first.invariant c.first.view_is c.requires.first.1 c.gather.ensures.joined c.requires.all _ _ c.close_with-closed.ensures.values.2
