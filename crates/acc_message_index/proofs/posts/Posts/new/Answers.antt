use Rattle.std.proofs.Common.{rules}
use Rattle.acc_message_index.proofs.Indexing.{of_nothing}
use Rattle.acc_message_index.proofs.posts.Posts.new.Goals as goal

pub invariant_of-result : goal.invariant_of-result
invariant_of-result c = (of_nothing _ _ _ _ c.new.ensures.items c.new-2.ensures.items c.in_ok-no_places.ensures c.in_ok-no_places-2.ensures, search rules, search rules, search rules, search rules)
