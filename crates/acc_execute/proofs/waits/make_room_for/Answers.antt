use Rattle.std.proofs.Common.{Some, sym, subst, rules}
use Rattle.std.specs.BTreeMap as tree
use Rattle.acc_stamp.specs.Stamp.{id_cmp}
use Rattle.acc_execute.specs.Executed.{FitsIn}
use Rattle.acc_execute.proofs.Room.{lists_same, lists_kept, fits_wider}
use Rattle.acc_execute.proofs.waits.make_room_for.Goals as goal

pub returns-in-Some-clause-same : goal.returns-in-Some-clause-same
returns-in-Some-clause-same c =
    let w = c.widen.new.list in
    lists_same c.args.waits.now (c.get_mut.follows.lender w) c.args.id w ((c.get_mut.follows.holds w).3 (search rules)).0 (Some c.in-Some.list.now) c.in-Some.ensures.value c.widen.ensures.same

pub returns-in-Some-clause-kept : goal.returns-in-Some-clause-kept
returns-in-Some-clause-kept c =
    let w = c.widen.new.list in
    lists_kept c.args.waits.now (c.get_mut.follows.lender w) c.args.id w ((c.get_mut.follows.holds w).3 (search rules)).0 (Some c.in-Some.list.now) c.in-Some.ensures.value
    (fits_wider c.in-Some.list.now w c.widen.ensures.len c.widen.ensures.capacity)

pub returns-in-None-clause-kept : goal.returns-in-None-clause-kept
returns-in-None-clause-kept c y t fits =
    c.add_list.ensures.kept y t (subst (λ waits. FitsIn t (tree.get id_cmp waits y)) (sym c.get_mut.follows.holds-at-none) fits)
