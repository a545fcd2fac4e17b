use Rattle.std.proofs.Common.{◌≡◌, refl, subst, ◌∙◌}
use Rattle.acc_message.specs.Fields.{top_of}
use Rattle.acc_record.specs.Learning.{known_or_fresh}
use Rattle.acc_execute.specs.Owned.{with_settled, with_waiter}
use Rattle.acc_execute.proofs.Whole.{stable_known, stable_there, stable_answered, stable_ready}
use Rattle.acc_execute.proofs.step.prepare_stable.Goals as goal

pub prepare-requires-clause-known : goal.prepare-requires-clause-known
prepare-requires-clause-known c =
    stable_known c.args.topology.now c.args.shelf.now c.args.m.now c.in-Stable.from c.in-Stable.to c.in-Stable.id c.in-Stable.ballot c.in-Stable.body c.in-Stable.t c.in-Stable.deps
    c.in-Stable.is c.in_ok-own-in-Stable.own
    (subst (λ o. c.in_ok-own-in-Stable.own ≡ with_waiter c.in-Stable.ballot (with_settled (record { t = c.in-Stable.t; deps = c.in-Stable.deps }) (known_or_fresh o c.in-Stable.id c.in-Stable.body))) c.find-there.ensures c.in_ok-own-in-Stable.ensures)
    c.in_ok-first-in-Stable.first c.in_ok-first-in-Stable.ensures
    _ refl (top_of c.args.m.now) refl c.requires.stands

pub prepare-requires-clause-there : goal.prepare-requires-clause-there
prepare-requires-clause-there c =
    c.find-there.ensures
    ∙ stable_there c.args.topology.now c.args.shelf.now c.args.m.now c.in-Stable.from c.in-Stable.to c.in-Stable.id c.in-Stable.ballot c.in-Stable.body c.in-Stable.t c.in-Stable.deps
    c.in-Stable.is c.in_ok-own-in-Stable.own
    (subst (λ o. c.in_ok-own-in-Stable.own ≡ with_waiter c.in-Stable.ballot (with_settled (record { t = c.in-Stable.t; deps = c.in-Stable.deps }) (known_or_fresh o c.in-Stable.id c.in-Stable.body))) c.find-there.ensures c.in_ok-own-in-Stable.ensures)
    c.in_ok-first-in-Stable.first c.in_ok-first-in-Stable.ensures
    _ refl (top_of c.args.m.now) refl c.requires.stands

pub returns-clause-ready : goal.returns-clause-ready
returns-clause-ready c =
    stable_ready c.args.topology.now c.args.shelf.now c.args.m.now c.in-Stable.from c.in-Stable.to c.in-Stable.id c.in-Stable.ballot c.in-Stable.body c.in-Stable.t c.in-Stable.deps
    c.in-Stable.is c.in_ok-own-in-Stable.own
    (subst (λ o. c.in_ok-own-in-Stable.own ≡ with_waiter c.in-Stable.ballot (with_settled (record { t = c.in-Stable.t; deps = c.in-Stable.deps }) (known_or_fresh o c.in-Stable.id c.in-Stable.body))) c.find-there.ensures c.in_ok-own-in-Stable.ensures)
    c.in_ok-first-in-Stable.first c.in_ok-first-in-Stable.ensures
    _ refl (top_of c.args.m.now) refl c.prepare.result c.prepare.ensures.own c.prepare.ensures.noted c.prepare.ensures.ready

pub returns-clause-answers : goal.returns-clause-answers
returns-clause-answers c =
    stable_answered c.args.topology.now c.args.shelf.now c.args.m.now c.in-Stable.from c.in-Stable.to c.in-Stable.id c.in-Stable.ballot c.in-Stable.body c.in-Stable.t c.in-Stable.deps
    c.in-Stable.is c.in_ok-own-in-Stable.own
    (subst (λ o. c.in_ok-own-in-Stable.own ≡ with_waiter c.in-Stable.ballot (with_settled (record { t = c.in-Stable.t; deps = c.in-Stable.deps }) (known_or_fresh o c.in-Stable.id c.in-Stable.body))) c.find-there.ensures c.in_ok-own-in-Stable.ensures)
    c.in_ok-first-in-Stable.first c.in_ok-first-in-Stable.ensures
    _ refl (top_of c.args.m.now) refl c.prepare.result c.prepare.ensures.own c.prepare.ensures.ready
