use Rattle.std.proofs.Common.{refl, sym, ap, subst, ◌∙◌}
use Rattle.acc_execute.specs.Executed.{time_of, IsReady}
use Rattle.acc_execute.proofs.Whole.{stable_taken}
use Rattle.acc_execute.proofs.step.take_stable.Goals as goal

pub execute-requires : goal.execute-requires
execute-requires c = λ h. sym ((subst (IsReady c.args.topology.now c.args.shelf.now c.args.m.now) (sym c.into_parts.ensures) c.requires.ready).noted c.in-Stable.t (ap time_of c.in-Stable.is)) ∙ h

pub returns-clause-ok : goal.returns-clause-ok
returns-clause-ok c =
    stable_taken c.args.topology.now c.args.shelf.now c.args.m.now c.in-Stable.from c.in-Stable.to c.in-Stable.id c.in-Stable.ballot c.in-Stable.body c.in-Stable.t c.in-Stable.deps
    c.in-Stable.is c.into_parts.result (subst (IsReady c.args.topology.now c.args.shelf.now c.args.m.now) (sym c.into_parts.ensures) c.requires.ready) _ refl c.top.result c.top.ensures c.execute.new.shelf c.execute.result
    c.execute.ensures.ok
