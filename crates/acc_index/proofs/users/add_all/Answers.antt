use Rattle.acc_index.specs.Users.{places_at, placed}
use Rattle.acc_index.proofs.UserFacts.{left_step, room_at}
use Rattle.acc_index.proofs.users.add_all.Goals as goal

pub add-requires : goal.add-requires
add-requires c =
    room_at (λ k w. placed (places_at c.args.users.now k w) c.args.uses.now k w c.args.place) c.loop-key.users c.args.uses.now c.args.place c.loop-key.key-index c.loop-key-item.result
    c.loop-key-test.true c.loop-key-item.is c.loop-key.invariant

pub loop-key-preserved : goal.loop-key-preserved
loop-key-preserved c =
    left_step (λ k w. placed (places_at c.args.users.now k w) c.args.uses.now k w c.args.place) c.loop-key.users c.add.new.users c.args.uses.now c.args.place c.loop-key.key-index c.loop-key-item.result
    c.loop-key-test.true c.loop-key-item.is c.add.ensures.set c.add.ensures.kept c.loop-key.invariant
