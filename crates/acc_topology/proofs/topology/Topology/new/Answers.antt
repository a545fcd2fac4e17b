use Rattle.std.proofs.Common.{◌≡◌, Err, sym, subst}
use Rattle.std.proofs.lemmas.Result.{err_from_is_err_and}
use Rattle.acc_topology.specs.declared.error.TopologyError.{TopologyError}
use Rattle.acc_topology.specs.Layout.{IsLayout}
use Rattle.acc_topology.proofs.Accepted.{made, made_not, given_is_layout}
use Rattle.acc_topology.proofs.topology.Topology.new.Goals as goal

pub returns-in_err-shards-clause-answer : goal.returns-in_err-shards-clause-answer
returns-in_err-shards-clause-answer c =
    let given : TopologyError = c.in_err-shards.field-0.0 in
    let p : (e : TopologyError) × (c.from_residual-in_err-shards.result ≡ Err e) × (e ≡ given) = err_from_is_err_and c.from_residual-in_err-shards.result c.from_residual-in_err-shards.ensures.1 in
    rw (p.1, p.2) (made_not c.in_ok-nodes.nodes c.args.nodes.now c.args.shards.now given c.in_ok-nodes.ensures.0 c.in_ok-nodes.ensures.1 c.in_err-shards.ensures)

pub invariant_of-result : goal.invariant_of-result
invariant_of-result c =
    let is = made c.in_ok-nodes.nodes c.args.nodes.now c.args.shards.now c.in_ok-shards.shards.items c.in_ok-nodes.ensures.0 c.in_ok-nodes.ensures.1 c.in_ok-shards.ensures.0 c.in_ok-shards.ensures.1 in
    subst IsLayout (sym is.1) (given_is_layout c.args.nodes.now c.args.shards.now c.requires.ids c.requires.few_shards is.0)

pub returns-clause-answer : goal.returns-clause-answer
returns-clause-answer c = made c.in_ok-nodes.nodes c.args.nodes.now c.args.shards.now c.in_ok-shards.shards.items c.in_ok-nodes.ensures.0 c.in_ok-nodes.ensures.1 c.in_ok-shards.ensures.0 c.in_ok-shards.ensures.1

pub returns-clause-valid : goal.returns-clause-valid
returns-clause-valid c = invariant_of-result c
