use Rattle.std.proofs.Common.{◌≡◌, ◌+◌, true, false, drop, sym, ap, subst, ◌∙◌, arith, List}
use Rattle.acc_value.specs.declared.key.Key.{Key}
use Rattle.std.proofs.lemmas.Bool.{eq-eqb, ne_eqb}
use Rattle.acc_topology.specs.Keys.{shard_of_key}
use Rattle.acc_value.specs.Cells.{cell_of}
use Rattle.acc_value.specs.Pairs.{put}
use Rattle.acc_coord.proofs.Joining.{Pair, Left, merged, is_in, step_in, step_over, nothing_left}
use Rattle.acc_coord.proofs.reads.joined.Goals as goal
use Rattle.acc_coord.proofs.reads.joined.Goals.{then-shard_of-shard+in_ok-copy+in_ok-copy-2+in_ok-set, else-shard_of-shard}

pub loop-key-preserved : goal.loop-key-preserved
loop-key-preserved c =
    let layout = c.args.topology.now in
    let items = c.pairs-key-items.result.now in
    let i = c.loop-key.key-index in
    let w = c.loop-key-item.result in
    let aim = merged layout c.args.shard (cell_of c.args.before.now) c.args.cells.now in
    let more : List Pair → Type 0 = λ joined. Left layout c.args.shard aim joined (drop (i + 1) items) in (
      c.loop-key.invariant.0,
      elim c.if-shard_of-shard.branch [
        | then-shard_of-shard+in_ok-copy+in_ok-copy-2+in_ok-set v ↦
            let there : is_in layout c.args.shard w.0 ≡ true = eq-eqb (shard_of_key layout w.0) c.args.shard (sym c.shard_of.ensures.value ∙ v.if-shard_of-shard.true) in
            let puts : put c.loop-key.joined w.0 w.1 ≡ c.if-shard_of-shard.joined =
            sym (v.joined-is ∙ v.in_ok-set.ensures.ok ∙ ap (λ (k : Key). put c.loop-key.joined k v.in_ok-copy-2.field-0) v.in_ok-copy.ensures ∙ ap (put c.loop-key.joined w.0) v.in_ok-copy-2.ensures) in
            subst more puts (step_in layout c.args.shard aim c.loop-key.joined items i w c.loop-key-test.true c.loop-key-item.is there c.loop-key.invariant.1)
        | else-shard_of-shard v ↦
            let apart : is_in layout c.args.shard w.0 ≡ false = ne_eqb (shard_of_key layout w.0) c.args.shard (λ same. v.if-shard_of-shard.false (c.shard_of.ensures.value ∙ same)) in
            subst more (sym v.joined-is) (step_over layout c.args.shard aim c.loop-key.joined items i w c.loop-key-test.true c.loop-key-item.is apart c.loop-key.invariant.1)
      ],
    )

pub returns : goal.returns
returns c =
    let layout = c.args.topology.now in
    nothing_left layout c.args.shard (merged layout c.args.shard (cell_of c.args.before.now) c.args.cells.now) c.loop-key.joined c.pairs-key-items.result.now c.loop-key.key-index (omega arith) c.loop-key.invariant.1
