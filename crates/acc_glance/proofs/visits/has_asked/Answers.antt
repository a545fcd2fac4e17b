use Rattle.std.proofs.Common.{ℕ, ◌&&◌, List, ◌∙◌, ap}
use Rattle.acc_topology.specs.Keys.{shard_of_key}
use Rattle.acc_topology.specs.Layout.{shard_at}
use Rattle.acc_topology.specs.Quorums.{is_majority}
use Rattle.acc_topology.specs.Sets.{in_set, is_among}
use Rattle.acc_schedule.specs.Content.{Content}
use Rattle.acc_glance.proofs.VisitFacts.{asked_is}
use Rattle.acc_glance.proofs.visits.has_asked.Goals as goal

pub returns : goal.returns
returns c =
    let shard = c.shard_of-shard.result in
    c.is_majority.ensures
    ∙ ap (λ (p : Content). is_majority (shard_at p.topology shard) (in_set c.set_of.result)) c.plan.view_is
    ∙ asked_is c.args.plan.now c.args.key.now c.args.course.now shard c.replicas-nodes.result c.set_of.result
    (c.shard_of-shard.ensures.value ∙ ap (λ (p : Content). shard_of_key p.topology c.args.key.now) c.plan.view_is)
    (c.replicas-nodes.ensures.listed ∙ ap (λ (p : Content). (shard_at p.topology shard).replicas) c.plan.view_is)
    (λ n. c.set_of.ensures n ∙ ap (λ (l : List ℕ). in_set c.replicas-nodes.result n && is_among l n) c.as_slice.ensures)
