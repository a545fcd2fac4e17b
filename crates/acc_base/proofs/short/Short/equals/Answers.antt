use Rattle.std.proofs.Common.{sym}
use Rattle.acc_base.proofs.ShortOrder.{equal_is}
use Rattle.acc_base.proofs.short.Short.equals.Goals as goal

pub returns : goal.returns
returns c =
    let mine = c.front.ensures in
    let others = c.front-2.ensures in
    equal_is c.self.inside.bytes c.other.inside.bytes _ _ c.self.inside.len c.other.inside.len _ _ _ _
    mine.bytes.0 others.bytes.0 mine.bytes.1 others.bytes.1 c.self.invariant c.other.invariant
    mine.value others.value c.back.ensures c.back-2.ensures
    (sym c.self.view_is) (sym c.other.view_is)
