use Rattle.std.proofs.Common.{arith, length, take, drop, ◌-◌, ◌++◌, sym, ap, ◌∙◌}
use Rattle.acc_deps.proofs.Merge.{take_left, take_right, take_both, left_is_done, right_is_done, whole_rest}
use Rattle.acc_deps.proofs.ids.merged_ids.Goals as goal
use Rattle.acc_deps.proofs.ids.merged_ids.Goals.{then-loop-i-test+else-j-right, else-loop-i-test}

pub loop-i-preserved-in-Less : goal.loop-i-preserved-in-Less
loop-i-preserved-in-Less c = record {
  left = omega arith;
  right = c.loop-i.invariant.right;
  so_far = take_left c.args.left.now c.args.right.now c.loop-i.merged _ c.loop-i.i c.loop-i.j _ c.requires.right_rises c.loop-i-test.true c.if-j-right.true (sym c.in-Less.ensures) c.loop-i.invariant.so_far c.in_ok-push-in-Less.ensures.ok;
}

pub loop-i-preserved-in-Equal : goal.loop-i-preserved-in-Equal
loop-i-preserved-in-Equal c = record {
  left = omega arith;
  right = omega arith;
  so_far = take_both c.args.left.now c.args.right.now c.loop-i.merged _ c.loop-i.i c.loop-i.j _ c.requires.right_rises c.loop-i-test.true c.if-j-right.true (sym c.in-Equal.ensures) c.loop-i.invariant.so_far c.in_ok-push-in-Equal.ensures.ok;
}

pub loop-i-preserved : goal.loop-i-preserved
loop-i-preserved c = record {
  left = c.loop-i.invariant.left;
  right = omega arith;
  so_far = take_right c.args.left.now c.args.right.now c.loop-i.merged _ c.loop-i.i c.loop-i.j _ c.requires.left_rises c.requires.right_rises c.loop-i-test.true c.if-j-right.true (sym c.in-Greater.ensures) c.loop-i.invariant.so_far c.in_ok-push-in-Greater.ensures.ok;
}

pub returns : goal.returns
returns c =
    let left = c.args.left.now in
    let right = c.args.right.now in
    let i = c.loop-i.i in
    let j = c.loop-i.j in
    let so_far = c.loop-i.invariant.so_far in
    c.fitted.ensures
    ∙ c.in_ok-extend_from_slice-2.ensures.ok
    ∙ ap (λ zs. zs ++ take (length right - j) (drop j right)) (c.in_ok-extend_from_slice.ensures.ok ∙ ap (λ zs. c.loop-i.merged ++ zs) (whole_rest left i))
    ∙ ap (λ zs. (c.loop-i.merged ++ drop i left) ++ zs) (whole_rest right j)
    ∙ elim c.loop-i-test.branch [
      | then-loop-i-test+else-j-right w ↦ right_is_done left right _ i j w.if-j-right.false so_far
      | else-loop-i-test w ↦ left_is_done left right _ i j c.requires.right_rises w.loop-i-test.false so_far
    ]
