use Rattle.std.proofs.Common.{◌≡◌, Err, sym, ap, ◌∙◌}
use Rattle.std.proofs.lemmas.Result.{err_from_is_err_and}
use Rattle.acc_topology.specs.declared.error.TopologyError.{TopologyError}
use Rattle.acc_topology.specs.Sets.{in_set}
use Rattle.acc_topology.specs.Layout.{is_replica_count}
use Rattle.acc_topology.proofs.Rules.{electors_fail}
use Rattle.acc_topology.proofs.checks.checked_shard.Goals as goal

pub returns-in_err-electorate : goal.returns-in_err-electorate
returns-in_err-electorate c =
    let given : TopologyError = c.in_err-electorate.field-0.0 in
    let p : (e : TopologyError) × (c.from_residual-in_err-electorate.result ≡ Err e) × (e ≡ given) = err_from_is_err_and c.from_residual-in_err-electorate.result c.from_residual-in_err-electorate.ensures.1 in
    rw (p.1, p.2) (electors_fail (in_set c.args.nodes) c.in_ok-replicas.replicas c.args.place c.args.shard.now given (ap is_replica_count (sym c.len.ensures) ∙ sym c.if-not-is_replica_count.ensures) (rw c.as_slice.ensures at c.in_ok-replicas.ensures.0) (rw c.as_slice.ensures at c.in_ok-replicas.ensures.1) c.in_err-electorate.ensures)
