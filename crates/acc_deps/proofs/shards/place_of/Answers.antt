use Rattle.std.proofs.Common.{nat_lt, rules}
use Rattle.std.proofs.lemmas.Cmp.{nat_cmp_total}
use Rattle.std.proofs.lemmas.List.Sorted.{answers_always}
use Rattle.std.proofs.lemmas.Map.Lookups.{exact_unsigned}
use Rattle.acc_stamp.proofs.Order.{nat_cmp-is_lt}
use Rattle.acc_stamp.proofs.Places.{searched}
use Rattle.acc_deps.proofs.shards.place_of.Goals as goal

pub returns : goal.returns
returns c =
    searched {lt = nat_lt} nat_cmp_total exact_unsigned nat_cmp-is_lt (λ d. d.shard) c.args.shards.now c.args.shard _ c.requires c.binary_search_by_key.ensures.bound
    (c.binary_search_by_key.ensures.position (λ d. d.shard) (answers_always _ _ _ (λ f a r g h. search rules)))
