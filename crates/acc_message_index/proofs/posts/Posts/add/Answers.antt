use Rattle.std.proofs.Common.{ap, arith}
use Rattle.acc_message_index.specs.Mail.{Mail}
use Rattle.acc_message_index.proofs.Indexing.{joins_as}
use Rattle.acc_message_index.proofs.posts.Posts.add.Goals as goal

pub invariant_of-self : goal.invariant_of-self
invariant_of-self c =
    let i = c.self.invariant in
    let j = c.join_lane.ensures in
    let room = ap (λ (m : Mail). m.room) c.self.view_is in (
      joins_as i.0 _ (omega (arith, i.3, c.requires, room)) _ _ _ _ c.lane_of.result c.lane_of.ensures c.push_reserved.ensures.items j.links j.firsts j.lasts,
      omega arith,
      omega arith,
      omega (arith, i.3, c.requires, room),
      omega arith,
    )
