use Rattle.acc_print.specs.Canonical.{delete_text}
use Rattle.acc_print.proofs.Joined.{joined4}
use Rattle.acc_print.proofs.body.push_delete.Goals as goal

pub returns : goal.returns
unfolding delete_text
returns c =
    let table = rw c.as_slice.ensures at c.in_ok-extend_from_slice-2.ensures.items in
    joined4 _ _ _ _ _ _ _ _ _ c.in_ok-extend_from_slice.ensures.items table c.in_ok-push_where.ensures c.in_ok-extend_from_slice-3.ensures.items
