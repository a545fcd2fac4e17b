use Rattle.acc_index.proofs.UserFacts.{rooms_step}
use Rattle.std.proofs.Common.{◌∙◌}
use Rattle.acc_index.proofs.users.reserve_all.Goals as goal

pub loop-key-preserved : goal.loop-key-preserved
loop-key-preserved c = (
  (λ k w. c.reserve.ensures.same k w ∙ c.loop-key.invariant.0 k w),
  rooms_step c.loop-key.users c.reserve.new.users c.args.uses.now c.loop-key.key-index c.loop-key-item.result c.loop-key-test.true c.loop-key-item.is c.reserve.ensures.kept c.in_ok-reserve.ensures.made c.loop-key.invariant.1,
)
