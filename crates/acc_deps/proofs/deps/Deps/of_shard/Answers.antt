use Rattle.std.proofs.Common.{sym, ap, ◌∙◌}
use Rattle.acc_deps.specs.Deps.{of_shard}
use Rattle.acc_deps.proofs.ByShard.{of_shard-place, of_shard-gap}
use Rattle.acc_deps.proofs.deps.Deps.of_shard.Goals as goal

pub returns-in-Ok-clause-ids : goal.returns-in-Ok-clause-ids
returns-in-Ok-clause-ids c =
    let s = c.args.shard in
    let shards = c.by_shard-shards.result.now in
    let rising = rw (sym c.by_shard-shards.ensures.shards) at c.by_shard-shards.ensures.stands.shards in
    c.as_slice.ensures ∙ sym (of_shard-place shards s c.in-Ok.place c.index-shards-place.result rising c.in-Ok.ensures)
    ∙ ap (λ ds. of_shard ds s) c.by_shard-shards.ensures.shards

pub returns-in-Err-clause-ids : goal.returns-in-Err-clause-ids
returns-in-Err-clause-ids c =
    let s = c.args.shard in
    sym (of_shard-gap c.by_shard-shards.result.now s c.in-Err.field-0 c.in-Err.ensures) ∙ ap (λ ds. of_shard ds s) c.by_shard-shards.ensures.shards
