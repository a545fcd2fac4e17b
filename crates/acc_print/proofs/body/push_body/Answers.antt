use Rattle.acc_print.proofs.Joined.{joined5}
use Rattle.acc_print.proofs.body.push_body.Goals as goal

pub returns : goal.returns
returns c =
    let lets = rw c.as_slice-lets.ensures at c.in_ok-push_lets.ensures in
    let select = rw c.as_slice-lets.ensures at c.in_ok-push_select.ensures in
    let action = rw (c.as_slice-lets.ensures, c.as_slice.ensures, c.as_slice-2.ensures) at c.in_ok-push_action.ensures in
    joined5 _ _ _ _ _ _ _ _ _ _ _ c.in_ok-extend_from_slice.ensures.items lets select action c.in_ok-extend_from_slice-2.ensures.items
