use Rattle.acc_message_index.proofs.Indexing.{moved}
use Rattle.acc_message_index.proofs.posts.Posts.skip.Goals as goal

pub invariant_of-self : goal.invariant_of-self
invariant_of-self c = let i = c.self.invariant in let l = c.loop-first.invariant in (moved i.0 c.args.lane c.loop-first.first c.requires l.on_lane l.passed l.or_none, i.1, i.2, i.3, i.4)
