use Rattle.std.proofs.Common.{◌≡◌, refl, subst, ◌∙◌}
use Rattle.acc_message.specs.Fields.{top_of}
use Rattle.acc_record.specs.Learning.{known_or_fresh}
use Rattle.acc_execute.specs.Owned.{with_settled, with_outcome}
use Rattle.acc_execute.proofs.Whole.{apply_known, apply_there, apply_answered, apply_ready}
use Rattle.acc_execute.proofs.step.prepare_apply.Goals as goal

pub prepare-requires-clause-known : goal.prepare-requires-clause-known
prepare-requires-clause-known c =
    apply_known c.args.topology.now c.args.shelf.now c.args.m.now c.in-Apply.from c.in-Apply.to c.in-Apply.id c.in-Apply.ballot c.in-Apply.body c.in-Apply.t c.in-Apply.deps c.in-Apply.outcome
    c.in-Apply.is c.in_ok-own-in-Apply.own
    (subst (λ o. c.in_ok-own-in-Apply.own ≡ with_outcome c.in-Apply.outcome (with_settled (record { t = c.in-Apply.t; deps = c.in-Apply.deps }) (known_or_fresh o c.in-Apply.id c.in-Apply.body))) c.find-there.ensures c.in_ok-own-in-Apply.ensures)
    c.new-first.result c.new-first.ensures
    _ refl (top_of c.args.m.now) refl c.requires.stands

pub prepare-requires-clause-there : goal.prepare-requires-clause-there
prepare-requires-clause-there c =
    c.find-there.ensures
    ∙ apply_there c.args.topology.now c.args.shelf.now c.args.m.now c.in-Apply.from c.in-Apply.to c.in-Apply.id c.in-Apply.ballot c.in-Apply.body c.in-Apply.t c.in-Apply.deps c.in-Apply.outcome
    c.in-Apply.is c.in_ok-own-in-Apply.own
    (subst (λ o. c.in_ok-own-in-Apply.own ≡ with_outcome c.in-Apply.outcome (with_settled (record { t = c.in-Apply.t; deps = c.in-Apply.deps }) (known_or_fresh o c.in-Apply.id c.in-Apply.body))) c.find-there.ensures c.in_ok-own-in-Apply.ensures)
    c.new-first.result c.new-first.ensures
    _ refl (top_of c.args.m.now) refl c.requires.stands

pub returns-clause-ready : goal.returns-clause-ready
returns-clause-ready c =
    apply_ready c.args.topology.now c.args.shelf.now c.args.m.now c.in-Apply.from c.in-Apply.to c.in-Apply.id c.in-Apply.ballot c.in-Apply.body c.in-Apply.t c.in-Apply.deps c.in-Apply.outcome
    c.in-Apply.is c.in_ok-own-in-Apply.own
    (subst (λ o. c.in_ok-own-in-Apply.own ≡ with_outcome c.in-Apply.outcome (with_settled (record { t = c.in-Apply.t; deps = c.in-Apply.deps }) (known_or_fresh o c.in-Apply.id c.in-Apply.body))) c.find-there.ensures c.in_ok-own-in-Apply.ensures)
    c.new-first.result c.new-first.ensures
    _ refl (top_of c.args.m.now) refl c.prepare.result c.prepare.ensures.own c.prepare.ensures.noted c.prepare.ensures.ready

pub returns-clause-answers : goal.returns-clause-answers
returns-clause-answers c =
    apply_answered c.args.topology.now c.args.shelf.now c.args.m.now c.in-Apply.from c.in-Apply.to c.in-Apply.id c.in-Apply.ballot c.in-Apply.body c.in-Apply.t c.in-Apply.deps c.in-Apply.outcome
    c.in-Apply.is c.in_ok-own-in-Apply.own
    (subst (λ o. c.in_ok-own-in-Apply.own ≡ with_outcome c.in-Apply.outcome (with_settled (record { t = c.in-Apply.t; deps = c.in-Apply.deps }) (known_or_fresh o c.in-Apply.id c.in-Apply.body))) c.find-there.ensures c.in_ok-own-in-Apply.ensures)
    c.new-first.result c.new-first.ensures
    _ refl (top_of c.args.m.now) refl c.prepare.result c.prepare.ensures.own c.prepare.ensures.ready
