use Rattle.std.proofs.Common.{rules, List, Option, length, sym, ◌∙◌, ap, subst, arith}
use Rattle.std.specs.List.{slice_get}
use Rattle.acc_stamp.specs.declared.stamps.TxnId.{TxnId}
use Rattle.acc_schedule.specs.Content.{Content}
use Rattle.acc_cluster.specs.Opened.{TellsOf}
use Rattle.acc_cluster.proofs.HomesTell.{pushed, all_told}
use Rattle.acc_cluster.proofs.begun.begun_before.Goals as goal

pub loop-txn-preserved : goal.loop-txn-preserved
loop-txn-preserved g c =
    let ids = c.loop-txn.ids.items in
    let id = c.id_at_home-id.result in
    record {
      many = search rules;
      told = λ k x is.
          pushed (TellsOf {D = g.row.D.Denot} c.args.plan.now c.args.nodes.now) ids id c.loop-txn.invariant.told
          (subst (λ n. TellsOf {D = g.row.D.Denot} c.args.plan.now c.args.nodes.now n id) (sym c.loop-txn.invariant.many) c.id_at_home-id.ensures) k x
          (ap (λ (l : List (Option TxnId)). slice_get l k) (sym c.in_ok-push.ensures.items) ∙ is);
    }

pub returns-clause-told : goal.returns-clause-told
returns-clause-told g c =
    let homes = ap (λ (p : Content). length p.homes) (sym c.plan.view_is) ∙ sym c.len-txn-end.ensures in
    all_told c.args.plan.now c.args.nodes.now c.loop-txn.ids.items (omega (arith, homes, c.loop-txn.invariant.many, c.loop-txn-test.false)) c.loop-txn.invariant.told
