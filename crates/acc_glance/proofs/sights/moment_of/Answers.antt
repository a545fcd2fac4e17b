use Rattle.std.proofs.Common.{sym, ◌∙◌}
use Rattle.acc_value.specs.Cells.{cells_of}
use Rattle.acc_glance.proofs.SameCells.{cell_sound}
use Rattle.acc_glance.proofs.SightFacts.{not_shown, too_late, at_greater, differs}
use Rattle.acc_glance.proofs.sights.moment_of.Goals as goal

pub returns-then-from-last : goal.returns-then-from-last
returns-then-from-last c = λ cluster items to order shows none.
    too_late cluster items c.args.first c.args.last (cells_of c.args.serial.now.cells) order shows c.args.key.now c.args.from to c.args.cell.now none c.if-from-last.true

pub returns-then-shown : goal.returns-then-shown
returns-then-shown c = λ cluster items to order shows none.
    at_greater cluster items c.args.first c.args.last (cells_of c.args.serial.now.cells) order shows c.args.key.now c.args.from to c.args.cell.now none c.if-from-last.false
    c.greater.result c.greater.ensures
    (cell_sound (cells_of c.args.serial.now.cells c.args.key.now) c.args.cell.now (sym c.shows-shown.ensures ∙ c.if-shown.true))

pub returns : goal.returns
returns c = λ cluster items to order shows none.
    not_shown cluster items c.args.first c.args.last (cells_of c.args.serial.now.cells) order shows c.args.key.now c.args.from to c.args.cell.now none
    (differs (cells_of c.args.serial.now.cells c.args.key.now) c.args.cell.now (sym c.if-shown.false ∙ c.shows-shown.ensures))
