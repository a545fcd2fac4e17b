use Rattle.acc_lang.proofs.UsesRead.{uses_behind}
use Rattle.acc_lang.proofs.parser.behind_lets.Goals as goal

pub returns-clause-uses : goal.returns-clause-uses
returns-clause-uses c =
    let selected = rw c.as_slice.ensures at c.in_ok-select.ensures in
    let acted = rw c.as_slice-2.ensures at c.in_ok-guards.ensures in
    uses_behind c.args.texts c.args.uses.now c.select.new.uses c.action.new.uses c.args.lets c.in_ok-select.select c.in_ok-guards.guards c.in_ok-guards.updates
    c.args.cursor.now.rest.now c.select.new.cursor.rest.now c.action.new.cursor.rest.now selected acted
