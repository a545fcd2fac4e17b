use Rattle.std.proofs.Common.{List, sym, subst, arith}
use Rattle.acc_message.specs.declared.item.Item.{Item}
use Rattle.acc_message.specs.Shown.{with_sent}
use Rattle.acc_message.specs.Run.{deeds_of}
use Rattle.acc_world.specs.Held.{cluster_of, past_of, HeldStands}
use Rattle.acc_world.proofs.Rebuilt.{oldest, all_now, one_more, redone_at, item_read, read_many}
use Rattle.acc_world.proofs.rebuilding.rebuild.Goals as goal

pub redo-requires : goal.redo-requires
redo-requires c =
    let out = c.shown.ensures.0 in
    let items = c.requires.past.0 in
    let past = c.requires.past.1 in
    let item = with_sent c.shown.result out in
    let read = item_read c.items-items.result.now.items items c.loop-index.index item (c.items-items.ensures (past_of items) past.past) c.shown.ensures.1 in (
      out,
      items,
      oldest c.loop-index.index items,
      redone_at c.args.setup.now c.args.history.now items c.loop-index.index item c.args.actor c.loop-index.held past read.0 read.1 (c.loop-index.invariant items past),
    )

pub loop-index-preserved : goal.loop-index-preserved
loop-index-preserved c items past =
    let out = c.shown.ensures.0 in
    let item = with_sent c.shown.result out in
    let read = item_read c.items-items.result.now.items items c.loop-index.index item (c.items-items.ensures (past_of items) past.past) c.shown.ensures.1 in
    subst (λ (l : List Item). HeldStands (cluster_of c.args.setup.now) c.args.actor (deeds_of (cluster_of c.args.setup.now) c.args.actor l) c.redo.new.held)
    (sym (one_more items c.loop-index.index item read.0 read.1))
    (c.in_ok-redo.ensures out items (oldest c.loop-index.index items)
    (redone_at c.args.setup.now c.args.history.now items c.loop-index.index item c.args.actor c.loop-index.held past read.0 read.1 (c.loop-index.invariant items past)))

pub returns : goal.returns
returns c items past =
    subst (λ (l : List Item). HeldStands (cluster_of c.args.setup.now) c.args.actor (deeds_of (cluster_of c.args.setup.now) c.args.actor l) c.loop-index.held)
    (all_now items c.loop-index.index
    (let many = read_many c.items-items.result.now.items items (c.items-items.ensures (past_of items) past.past) in omega (arith, many, c.len-index-end.ensures, c.loop-index-test.false))) (c.loop-index.invariant items past)
