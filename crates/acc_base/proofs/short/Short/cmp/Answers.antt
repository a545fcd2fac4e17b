use Rattle.std.proofs.Common.{sym}
use Rattle.acc_base.proofs.ShortOrder.{first_decides, last_decides}
use Rattle.acc_base.proofs.short.Short.cmp.Goals as goal

pub returns-then-mine-others : goal.returns-then-mine-others
returns-then-mine-others c =
    let mine = c.front-mine.ensures in
    let others = c.front-others.ensures in
    last_decides c.self.inside.bytes c.other.inside.bytes _ _ c.self.inside.len c.other.inside.len _ _ _ _ _ _ _
    mine.bytes.0 others.bytes.0 mine.bytes.1 others.bytes.1 c.self.invariant c.other.invariant
    mine.value others.value c.back.ensures c.back-then-mine-others.ensures
    (sym c.self.view_is) (sym c.other.view_is)
    c.if-mine-others.true c.cmp-last.ensures c.cmp.ensures c.then.ensures

pub returns-else-mine-others : goal.returns-else-mine-others
returns-else-mine-others c =
    let mine = c.front-mine.ensures in
    let others = c.front-others.ensures in
    first_decides c.self.inside.bytes c.other.inside.bytes _ _ c.self.inside.len c.other.inside.len _ _ _
    mine.bytes.0 others.bytes.0 mine.bytes.1 others.bytes.1 c.self.invariant c.other.invariant
    mine.value others.value
    (sym c.self.view_is) (sym c.other.view_is)
    c.if-mine-others.false c.cmp-else-mine-others.ensures
