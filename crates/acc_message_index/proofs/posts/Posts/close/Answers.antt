use Rattle.std.proofs.Common.{arith}
use Rattle.acc_message_index.proofs.Indexing.{closes}
use Rattle.acc_message_index.proofs.posts.Posts.close.Goals as goal

pub invariant_of-self : goal.invariant_of-self
invariant_of-self c = let i = c.self.invariant in (rw c.mark_taken.ensures.postings (closes i.0 c.args.number), omega arith, omega arith, omega arith, omega arith)
