use Rattle.std.proofs.lemmas.Result.{on_ok_weaker}
use Rattle.acc_print.specs.Canonical.{get_text}
use Rattle.acc_print.proofs.Joined.{joined3}
use Rattle.acc_print.proofs.keys.push_get.Goals as goal

pub returns : goal.returns
unfolding get_text
returns c =
    let table = rw c.as_slice.ensures at c.in_ok-extend_from_slice-2.ensures.items in
    on_ok_weaker c.push_where.result (λ key. joined3 _ _ _ _ _ _ _ c.in_ok-extend_from_slice.ensures.items table key) c.push_where.ensures
