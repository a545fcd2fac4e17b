use Rattle.acc_left.proofs.StoreWalk.{mark_marks, message_marks}
use Rattle.acc_left.proofs.stores.is_marked.Goals as goal

pub returns-in-Mark : goal.returns-in-Mark
returns-in-Mark c = mark_marks c.args.marked c.args.payload.now c.in-Mark.is

pub returns-in-Takes : goal.returns-in-Takes
returns-in-Takes c = message_marks c.args.marked c.args.payload.now _ c.in-Takes.is
