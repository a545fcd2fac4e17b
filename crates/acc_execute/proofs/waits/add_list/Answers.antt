use Rattle.std.proofs.Common.{None, sym}
use Rattle.acc_execute.proofs.Room.{lists_same, lists_kept, fits_nowhere}
use Rattle.acc_execute.proofs.waits.add_list.Goals as goal

pub returns-clause-same : goal.returns-clause-same
returns-clause-same c =
    lists_same c.args.waits.now c.insert.new.self c.args.id c.in_ok-list.list c.in_ok-insert.ensures.updates.0 None (sym c.requires) c.in_ok-list.ensures.items

pub returns-clause-kept : goal.returns-clause-kept
returns-clause-kept c =
    lists_kept c.args.waits.now c.insert.new.self c.args.id c.in_ok-list.list c.in_ok-insert.ensures.updates.0 None (sym c.requires) (fits_nowhere c.in_ok-list.list)
