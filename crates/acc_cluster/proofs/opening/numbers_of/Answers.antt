-- The members below a number, and all of them.
use Rattle.std.proofs.Common.{◌≡◌, ℕ, [], ◌∷◌, ◌++◌, cond, filter, sym, ◌∙◌, ap, arith}
use Rattle.std.specs.List.{range_with_len}
use Rattle.acc_topology.specs.Sets.{in_set}
use Rattle.acc_cluster.proofs.Placed.{members_more, members_are}
use Rattle.acc_cluster.proofs.opening.numbers_of.Goals as goal

pub loop-number-preserved : goal.loop-number-preserved
loop-number-preserved c =
    let set = c.args.set in
    let number = c.loop-number.number in
    c.in_ok-put_member.ensures ∙ ap (λ ns. ns ++ cond (in_set set number) (number ∷ []) []) c.loop-number.invariant ∙ sym (members_more set number)

pub returns : goal.returns
returns c =
    let set = c.args.set in
    let full : c.loop-number.number ≡ 16 = omega (arith, c.loop-number-test.false, c.loop-number.auto.number-end) in
    c.loop-number.invariant ∙ ap (λ (n : ℕ). filter (in_set set) (range_with_len 0 n)) full ∙ members_are set
