use Rattle.std.proofs.Common.{◌∙◌, ap, subst, arith}
use Rattle.acc_topology.specs.Keys.{shard_of_key}
use Rattle.acc_topology.specs.Layout.{HasShard, shard_at}
use Rattle.acc_topology.specs.Sets.{IsSetOf}
use Rattle.acc_schedule.specs.Content.{Content}
use Rattle.acc_glance.proofs.StoreFacts.{replicas_are, set_is}
use Rattle.acc_glance.proofs.stores.replicas_of.Goals as goal

pub returns : goal.returns
returns c =
    let plan = c.args.plan.now in
    let key = c.args.key.now in
    let shard = c.shard_of-shard.result in
    let nodes = c.replicas-nodes.result in
    let is = c.shard_of-shard.ensures.value ∙ ap (λ (p : Content). shard_of_key p.topology key) c.plan.view_is in
    record {
      shard = is;
      exists = subst (λ (p : Content). HasShard p.topology shard) c.plan.view_is c.shard_of-shard.ensures.exists;
      low = omega (arith, c.shard_of-shard.ensures.exists.1, c.shard_of-shard.ensures.valid.few_shards);
      listed =
          replicas_are plan key shard nodes is (c.replicas-nodes.ensures.listed ∙ ap (λ (p : Content). (shard_at p.topology shard).replicas) c.plan.view_is);
      set =
          set_is plan key shard nodes is
          (subst (λ (p : Content). IsSetOf nodes (shard_at p.topology shard).replicas) c.plan.view_is c.replicas-nodes.ensures.set);
    }
