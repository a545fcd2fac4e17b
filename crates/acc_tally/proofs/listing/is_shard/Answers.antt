use Rattle.std.proofs.Common.{◌≡◌, ◌≤◌, ◌<◌, ◌^◌, length, sym, arith}
use Rattle.std.proofs.lemmas.Bool.{false_from_ne_true}
use Rattle.acc_topology.specs.Sets.{in_set}
use Rattle.acc_tally.proofs.Listed.{has_shard}
use Rattle.acc_tally.proofs.listing.is_shard.Goals as goal
use Rattle.acc_tally.proofs.listing.is_shard.Goals.{then-shard-lt1-via-then-shard-lt1, then-shard-lt1-via-else-shard-lt1+then-greatest-shard}

pub returns-then-shard-lt1-clause-value : goal.returns-then-shard-lt1-clause-value
returns-then-shard-lt1-clause-value c = λ body e.
    let small : c.args.shards < 2 ^ 16 = c.ranges.shards.fits in
    let number : c.shards-greatest.result ≡ length c.args.topology.now.shards = c.shards-greatest.ensures.value in
    sym (false_from_ne_true (in_set c.args.shards c.args.shard) (λ h.
    let has = has_shard c.args.topology.now c.shards-greatest.ensures.valid body c.args.shards small e c.args.shard h in
    let least : 1 ≤ c.args.shard = has.0 in
    let most : c.args.shard ≤ length c.args.topology.now.shards = has.1 in
    elim c.then-shard-lt1.branch [
      | then-shard-lt1-via-then-shard-lt1 w ↦ omega (arith, w.if-shard-lt1.true)
      | then-shard-lt1-via-else-shard-lt1+then-greatest-shard w ↦ omega (arith, w.if-greatest-shard.true)
    ]))
