use Rattle.std.proofs.Common.{arith, length, take, drop, ◌-◌, ◌∷◌, [], ◌++◌, sym, ap, ◌∙◌}
use Rattle.acc_deps.proofs.Merge.{whole_rest}
use Rattle.acc_deps.proofs.ShardMerge.{read_front, take_left, take_right, take_both, left_is_done, right_is_done}
use Rattle.acc_deps.proofs.shards.merged_shards.Goals as goal
use Rattle.acc_deps.proofs.shards.merged_shards.Goals.{then-loop-i-test+else-j-right, else-loop-i-test}

pub loop-i-preserved-in-Less : goal.loop-i-preserved-in-Less
loop-i-preserved-in-Less c = record {
  left = omega arith;
  right = c.loop-i.invariant.right;
  so_far = take_left c.args.left.now c.args.right.now c.loop-i.merged.items _ c.loop-i.i c.loop-i.j c.index-left-i.result c.index-right-j.result
      c.requires.left_stands.shards c.requires.right_stands.shards
      (read_front _ _ _ c.loop-i-test.true c.index-left-i.is) (read_front _ _ _ c.if-j-right.true c.index-right-j.is) c.loop-i.invariant.so_far
      (sym c.in-Less.ensures)
      (c.in_ok-push-in-Less.ensures.items ∙ ap (λ z. c.loop-i.merged.items ++ z ∷ []) c.in_ok-copy-in-Less.ensures);
}

pub loop-i-preserved-in-Equal : goal.loop-i-preserved-in-Equal
loop-i-preserved-in-Equal c = record {
  left = omega arith;
  right = omega arith;
  so_far = take_both c.args.left.now c.args.right.now c.loop-i.merged.items _ c.loop-i.i c.loop-i.j c.index-left-i.result c.index-right-j.result
      c.requires.left_stands.shards c.requires.right_stands.shards
      (read_front _ _ _ c.loop-i-test.true c.index-left-i.is) (read_front _ _ _ c.if-j-right.true c.index-right-j.is) c.loop-i.invariant.so_far
      (sym c.in-Equal.ensures)
      (c.in_ok-push-in-Equal.ensures.items ∙ ap (λ z. c.loop-i.merged.items ++ z ∷ []) c.in_ok-joined-in-Equal.ensures);
}

pub loop-i-preserved : goal.loop-i-preserved
loop-i-preserved c = record {
  left = c.loop-i.invariant.left;
  right = omega arith;
  so_far = take_right c.args.left.now c.args.right.now c.loop-i.merged.items _ c.loop-i.i c.loop-i.j c.index-left-i.result c.index-right-j.result
      c.requires.left_stands.shards c.requires.right_stands.shards
      (read_front _ _ _ c.loop-i-test.true c.index-left-i.is) (read_front _ _ _ c.if-j-right.true c.index-right-j.is) c.loop-i.invariant.so_far
      (sym c.in-Greater.ensures)
      (c.in_ok-push-in-Greater.ensures.items ∙ ap (λ z. c.loop-i.merged.items ++ z ∷ []) c.in_ok-copy-in-Greater.ensures);
}

pub returns : goal.returns
returns c =
    let left = c.args.left.now in
    let right = c.args.right.now in
    let i = c.loop-i.i in
    let j = c.loop-i.j in
    let so_far = c.loop-i.invariant.so_far in
    c.shrink_to_fit.ensures.items
    ∙ c.in_ok-copy_onto-2.ensures
    ∙ ap (λ zs. zs ++ take (length right - j) (drop j right)) (c.in_ok-copy_onto.ensures ∙ ap (λ zs. c.loop-i.merged.items ++ zs) (whole_rest left i))
    ∙ ap (λ zs. (c.loop-i.merged.items ++ drop i left) ++ zs) (whole_rest right j)
    ∙ elim c.loop-i-test.branch [
      | then-loop-i-test+else-j-right w ↦ right_is_done left right _ i j w.if-j-right.false so_far
      | else-loop-i-test w ↦ left_is_done left right _ i j c.requires.right_stands.shards w.loop-i-test.false so_far
    ]
