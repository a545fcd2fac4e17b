use Rattle.std.proofs.Common.{Option, sym, ap, subst, ◌∙◌}
use Rattle.std.proofs.lemmas.Result.{IfOk-weaker, IfErr-weaker}
use Rattle.acc_stamp.specs.Actor.{home_of}
use Rattle.acc_message.specs.Coordinator.{reaction}
use Rattle.acc_node.specs.declared.running.Running.{Running}
use Rattle.acc_node.specs.declared.running.Running.TheVariants.{Coordinating, Recovering as IsRecovering}
use Rattle.acc_recover.specs.declared.recovery.Recovery.{Recovery}
use Rattle.acc_recover.specs.Stands.{StandsFor as Recovers}
use Rattle.acc_node.specs.Stands.{RunsAs, Hears, JudgedAs}
use Rattle.acc_node.proofs.Hearing.{recovered, stays_unless_waits}
use Rattle.acc_node.proofs.running.Running.hear.Goals as goal

pub returns-in-Coordinating-clause-ok : goal.returns-in-Coordinating-clause-ok
returns-in-Coordinating-clause-ok c =
    let layout = c.args.topology.now in
    IfOk-weaker c.coordinate.result _ _
    (λ heard h a s. h c.args.id a (subst (λ (r : Running). RunsAs layout c.args.id r a) c.in-Coordinating.is s))
    c.coordinate.ensures.ok

pub returns-in_ok-heard-in-Recovering-clause-ok : goal.returns-in_ok-heard-in-Recovering-clause-ok
returns-in_ok-heard-in-Recovering-clause-ok c = λ a s.
    let layout = c.args.topology.now in
    let x = c.args.id in
    let old = c.get_mut.result.now in
    let e = c.in_ok-heard-in-Recovering in
    let stood = subst (λ (r : Running). RunsAs layout x r a) c.in-Recovering.is s in
    let before = subst (λ (r : Recovery). Recovers layout x r a) (sym c.get_mut.ensures.value) stood in
    subst (λ (r : Running). Hears layout x r c.args.is_open e.heard (reaction layout (home_of x a.ballot) x a c.args.m.now)) (sym c.turn.ensures)
    (recovered layout x old c.on_answer.new.self a c.args.m.now c.in_ok-judged-in-Recovering.judged e.heard e.coord c.args.is_open
    (c.in_ok-judged-in-Recovering.ensures.ok x a before) c.in_ok-judged-in-Recovering.ensures.kept
    (subst (λ (r : Recovery). JudgedAs layout x r c.in_ok-judged-in-Recovering.judged e.heard e.coord) c.get.ensures e.ensures.ok) before)
