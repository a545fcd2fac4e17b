-- Each step drops the first of one list, or of both, which clashes with nothing that is left.
use Rattle.acc_value.proofs.Clash.{left-less, left-greater, left-equal, left-none}
use Rattle.acc_value.proofs.footprint.conflicts.Goals as goal

pub loop-x-preserved-in-Less : goal.loop-x-preserved-in-Less
loop-x-preserved-in-Less c =
    left-less {x = c.in-Some-Some.x.now} {y = c.in-Some-Some.y.now} c.in-Some-Some.ensures.cases.0 c.in-Some-Some.ensures'.cases.0 c.in-Less.ensures c.loop-x.invariant

pub loop-x-preserved-in-Greater : goal.loop-x-preserved-in-Greater
loop-x-preserved-in-Greater c =
    left-greater {x = c.in-Some-Some.x.now} {y = c.in-Some-Some.y.now} c.in-Some-Some.ensures.cases.0 c.in-Some-Some.ensures'.cases.0 c.in-Greater.ensures c.loop-x.invariant

pub loop-x-preserved : goal.loop-x-preserved
loop-x-preserved c =
    left-equal {x = c.in-Some-Some.x.now} {y = c.in-Some-Some.y.now} c.in-Some-Some.ensures.cases.0 c.in-Some-Some.ensures'.cases.0 c.in-Equal.ensures c.if-x.false c.if-y.false c.loop-x.invariant

pub returns-in_default : goal.returns-in_default
returns-in_default c = left-none c.loop-x.left.now c.loop-x.right.now _ c.in_default.ensures'.cases c.loop-x.invariant
