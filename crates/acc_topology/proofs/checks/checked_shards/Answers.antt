use Rattle.std.proofs.Common.{◌≡◌, Err, ◌∙◌, sym}
use Rattle.std.proofs.lemmas.Result.{err_from_is_err_and}
use Rattle.acc_topology.specs.declared.error.TopologyError.{TopologyError}
use Rattle.acc_topology.specs.Sets.{in_set}
use Rattle.acc_topology.specs.View.{shard_view}
use Rattle.acc_topology.specs.Faults.{shard_fault}
use Rattle.acc_base.proofs.Faults.{each_goes_on}
use Rattle.acc_topology.proofs.Rules.{shards_fail, shard_holds, end_before-next, shards-more}
use Rattle.acc_topology.proofs.checks.checked_shards.Goals as goal

pub returns-in_err-checked_shard : goal.returns-in_err-checked_shard
returns-in_err-checked_shard c =
    let given : TopologyError = c.in_err-checked_shard.field-0.0 in
    let p : (e : TopologyError) × (c.from_residual-in_err-checked_shard.result ≡ Err e) × (e ≡ given) = err_from_is_err_and c.from_residual-in_err-checked_shard.result c.from_residual-in_err-checked_shard.ensures.1 in
    rw (p.1, p.2) (shards_fail _ _ _ c.index-shards-place.result _ _ given c.loop-place-test.true c.index-shards-place.is c.if-not-may_end.ensures c.loop-place.invariant.2 c.as_ref.ensures.value c.loop-place.invariant.0 c.in_err-checked_shard.ensures)

pub loop-place-preserved : goal.loop-place-preserved
loop-place-preserved c =
    let shards = c.args.shards.now in
    let place = c.loop-place.place in
    let s = c.index-shards-place.result in
    let lt = c.loop-place-test.true in
    let at = c.index-shards-place.is in
    let holds = shard_holds (in_set c.args.nodes) shards place s _ _ at c.if-not-may_end.ensures c.loop-place.invariant.2 c.as_ref.ensures.value c.in_ok-checked_shard.ensures.0 in (
      each_goes_on (shard_fault (in_set c.args.nodes) shards) shards place s _ lt holds c.loop-place.invariant.0,
      rw c.in_ok-push.ensures.items (shards-more shard_view c.loop-place.checked.items shards place s c.in_ok-checked_shard.field-0 lt at c.loop-place.invariant.1 c.in_ok-checked_shard.ensures.1),
      c.as_ref-before.ensures.value ∙ sym (end_before-next shards place s lt at),
    )
