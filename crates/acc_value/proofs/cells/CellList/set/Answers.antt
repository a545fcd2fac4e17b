-- A cell is replaced where its key stands, and else inserted where it would stand.
use Rattle.std.proofs.Common.{ap, sym, ◌∙◌}
use Rattle.acc_value.specs.Pairs.{put}
use Rattle.acc_value.proofs.Rising.{put-over, put-lacks, IsRising-put}
use Rattle.acc_value.proofs.cells.CellList.set.Goals as goal

pub invariant_of-self-in-Ok : goal.invariant_of-self-in-Ok
invariant_of-self-in-Ok c =
    let here = rw c.as_slice.ensures at c.in-Ok.ensures in
    let is = put-over c.self.inside.cells c.args.key c.args.cell c.in-Ok.place c.self.invariant here in
    rw (c.in_ok-set-in-Ok.ensures.ok, ← is) (IsRising-put c.self.inside.cells c.args.key c.args.cell c.self.invariant)

pub invariant_of-self-in-Err : goal.invariant_of-self-in-Err
invariant_of-self-in-Err c =
    let nowhere = rw c.as_slice.ensures at c.in-Err.ensures in
    let is = put-lacks c.self.inside.cells c.args.key c.args.cell c.in-Err.place nowhere in
    rw (c.in_ok-insert-in-Err.ensures.ok, ← is) (IsRising-put c.self.inside.cells c.args.key c.args.cell c.self.invariant)

pub returns-in_ok-set-in-Ok-clause-ok : goal.returns-in_ok-set-in-Ok-clause-ok
returns-in_ok-set-in-Ok-clause-ok c =
    let here = rw c.as_slice.ensures at c.in-Ok.ensures in
    let is = put-over c.self.inside.cells c.args.key c.args.cell c.in-Ok.place c.self.invariant here in
    c.in_ok-set-in-Ok.ensures.ok ∙ sym is ∙ ap (λ pairs. put pairs c.args.key c.args.cell) c.self.view_is

pub returns-in_ok-insert-in-Err-clause-ok : goal.returns-in_ok-insert-in-Err-clause-ok
returns-in_ok-insert-in-Err-clause-ok c =
    let nowhere = rw c.as_slice.ensures at c.in-Err.ensures in
    let is = put-lacks c.self.inside.cells c.args.key c.args.cell c.in-Err.place nowhere in
    c.in_ok-insert-in-Err.ensures.ok ∙ sym is ∙ ap (λ pairs. put pairs c.args.key c.args.cell) c.self.view_is
