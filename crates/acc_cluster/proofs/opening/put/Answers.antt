-- One slot more.
use Rattle.acc_cluster.proofs.Placed.{placed}
use Rattle.acc_cluster.proofs.opening.put.Goals as goal

pub returns : goal.returns
returns g c = placed c.args.slots.now.items c.make_room.new.slots.items c.args.number c.args.slot c.in_ok-make_room.ensures.room c.in_ok-make_room.ensures.same
