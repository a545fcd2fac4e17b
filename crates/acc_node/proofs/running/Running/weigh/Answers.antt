use Rattle.std.proofs.Common.{Option, sym, subst}
use Rattle.std.proofs.lemmas.Result.{IfOk-weaker}
use Rattle.acc_stamp.specs.Actor.{home_of}
use Rattle.acc_message.specs.Coordinator.{reaction}
use Rattle.acc_node.specs.declared.running.Running.{Running}
use Rattle.acc_recover.specs.declared.recovery.Recovery.{Recovery}
use Rattle.acc_recover.specs.Stands.{StandsFor as Recovers}
use Rattle.acc_node.specs.Stands.{RunsAs}
use Rattle.acc_node.proofs.running.Running.weigh.Goals as goal

pub weigh_judged-requires : goal.weigh_judged-requires
weigh_judged-requires c =
    let layout = c.args.topology.now in
    let x = c.args.id in
    let q = c.requires in
    let stands = subst (λ (r : Recovery). Recovers layout x r q.attempt) (sym c.get-recovery.ensures) (subst (λ (r : Running). RunsAs layout x r q.attempt) c.in-Recovering.is q.runs) in
    record {
      attempt = q.attempt;
      reaction = reaction layout (home_of x q.attempt.ballot) x q.attempt c.args.m.now;
      stands = stands;
      judges = c.in_ok-judged-in-Recovering.ensures x q.attempt stands;
      short = q.short;
      fits = q.fits;
    }

pub returns-in_ok-judged-in-Recovering : goal.returns-in_ok-judged-in-Recovering
returns-in_ok-judged-in-Recovering c =
    let layout = c.args.topology.now in
    let x = c.args.id in
    IfOk-weaker c.weigh_judged.result _ _
    (λ weight h a s.
    let stands = subst (λ (r : Recovery). Recovers layout x r a) (sym c.get-recovery.ensures) (subst (λ (r : Running). RunsAs layout x r a) c.in-Recovering.is s) in
    h a (reaction layout (home_of x a.ballot) x a c.args.m.now) stands (c.in_ok-judged-in-Recovering.ensures x a stands))
    c.weigh_judged.ensures
