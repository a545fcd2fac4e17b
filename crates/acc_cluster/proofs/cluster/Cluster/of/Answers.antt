-- The cluster stands for what its actors stand for.
use Rattle.std.proofs.Common.{List, Option, sym, ◌∙◌, ap, subst, arith}
use Rattle.std.specs.List.{AllByRecursion, slice_get}
use Rattle.acc_stamp.specs.declared.stamps.TxnId.{TxnId}
use Rattle.acc_durable_node.specs.declared.node.DurableNode.{DurableNode}
use Rattle.acc_history.specs.Begun.{known_as}
use Rattle.acc_actors.specs.Opened.{HasDone}
use Rattle.acc_schedule_runs.specs.Situations.{opened}
use Rattle.acc_cluster.proofs.Filled.{filled_actors, taken_everywhere}
use Rattle.acc_cluster.proofs.SafeOpened.{all_safe}
use Rattle.acc_cluster.proofs.Known.{begins_of, nobody_down, told}
use Rattle.acc_cluster.proofs.cluster.Cluster.of.Goals as goal

pub returns-clause-ok : goal.returns-clause-ok
returns-clause-ok g c = λ earlier is.
    let filled = c.in_ok-slots.ensures.filled c.args.nodes.items c.in_ok-placed.ensures.filled in
    let did =
    subst (λ (ns : List (DurableNode g.row.D.Denot)). AllByRecursion (HasDone {D = g.row.D.Denot} c.args.plan.now earlier) ns) (sym c.as_slice.ensures.value) is.nodes_did in
    let told = c.in_ok-begun.ensures.told earlier is.sound did in record {
      sound = is.sound;
      room = is.room;
      past = record {
        stands = c.in_ok-history.ensures.stands earlier is.up (λ txn. ap (λ (ids : List (Option TxnId)). known_as (slice_get ids txn)) c.as_slice-2.ensures.value ∙ told txn);
        weighed = c.in_ok-history.ensures.weighed earlier;
        within = record { few = omega arith; light = omega arith };
      };
      actors = filled_actors g.D.Disk c.args.plan.now c.args.nodes.items c.args.stores.items c.in_ok-slots.slots.items c.requires.actors filled earlier is;
    }

pub returns-clause-strict : goal.returns-clause-strict
returns-clause-strict g c = λ earlier is unarmed.
    let filled = c.in_ok-slots.ensures.filled c.args.nodes.items c.in_ok-placed.ensures.filled in
    let strictly = c.in_ok-slots.ensures.strictly c.args.nodes.items c.in_ok-placed.ensures.strictly in record {
      stands = returns-clause-ok g c earlier is;
      strictly = λ a member.
          strictly unarmed earlier a
          (taken_everywhere g.D.Disk c.args.plan.now c.args.nodes.items c.args.stores.items c.in_ok-slots.slots.items c.requires.actors filled a member);
    }

pub returns-clause-tested : goal.returns-clause-tested
returns-clause-tested g c = λ low.
    let filled = c.in_ok-slots.ensures.filled c.args.nodes.items c.in_ok-placed.ensures.filled in
    let ids = c.in_ok-begun.begun.items in record {
      entered = opened (begins_of 0 ids);
      past = record {
        stands = c.in_ok-history.ensures.stands (begins_of 0 ids) (nobody_down 0 ids) (λ txn. ap (λ (given : List (Option TxnId)). known_as (slice_get given txn)) c.as_slice-2.ensures.value ∙ told ids txn);
        weighed = c.in_ok-history.ensures.weighed (begins_of 0 ids);
        within = record { few = omega arith; light = omega arith };
      };
      safe = λ a. all_safe g.D.Disk c.args.plan.now c.args.nodes.items c.args.stores.items c.in_ok-slots.slots.items filled low.nodes_did low.stores_did a;
    }
