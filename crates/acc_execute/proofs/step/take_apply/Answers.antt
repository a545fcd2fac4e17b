use Rattle.std.proofs.Common.{refl, sym, ap, subst, ◌∙◌}
use Rattle.acc_execute.specs.Executed.{time_of, IsReady}
use Rattle.acc_execute.proofs.Whole.{apply_taken}
use Rattle.acc_execute.proofs.step.take_apply.Goals as goal

pub execute-requires : goal.execute-requires
execute-requires c = λ h. sym ((subst (IsReady c.args.topology.now c.args.shelf.now c.args.m.now) (sym c.into_parts.ensures) c.requires.ready).noted c.in-Apply.t (ap time_of c.in-Apply.is)) ∙ h

pub returns-clause-ok : goal.returns-clause-ok
returns-clause-ok c =
    apply_taken c.args.topology.now c.args.shelf.now c.args.m.now c.in-Apply.from c.in-Apply.to c.in-Apply.id c.in-Apply.ballot c.in-Apply.body c.in-Apply.t c.in-Apply.deps c.in-Apply.outcome
    c.in-Apply.is c.into_parts.result (subst (IsReady c.args.topology.now c.args.shelf.now c.args.m.now) (sym c.into_parts.ensures) c.requires.ready) _ refl c.top.result c.top.ensures c.execute.new.shelf c.execute.result
    c.execute.ensures.ok
