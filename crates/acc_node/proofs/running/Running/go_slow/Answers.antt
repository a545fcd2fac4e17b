use Rattle.std.proofs.Common.{subst}
use Rattle.std.proofs.lemmas.Result.{IfOk-weaker, IfErr-weaker}
use Rattle.acc_node.specs.declared.running.Running.{Running}
use Rattle.acc_node.specs.Stands.{RunsAs}
use Rattle.acc_node.proofs.running.Running.go_slow.Goals as goal

pub returns-in-Coordinating-clause-ok : goal.returns-in-Coordinating-clause-ok
returns-in-Coordinating-clause-ok c =
    IfOk-weaker c.slow_down.result _ _
    (λ out h. λ x a s. h x a (subst (λ (r : Running). RunsAs c.args.topology.now x r a) c.in-Coordinating.is s))
    c.slow_down.ensures.ok

pub returns-in-Coordinating-clause-refused : goal.returns-in-Coordinating-clause-refused
returns-in-Coordinating-clause-refused c =
    IfErr-weaker c.slow_down.result _ _
    (λ error h. λ x a s. h x a (subst (λ (r : Running). RunsAs c.args.topology.now x r a) c.in-Coordinating.is s))
    c.slow_down.ensures.refused
