-- One message is staged, and what is settled is what it alone sends.
use Rattle.std.proofs.Common.{◌≡◌, List, [], ◌∷◌, Option, is_none, sym, ap, subst, ◌∙◌}
use Rattle.acc_payloads.specs.Appends.{fails_append, after_append, passed_in}
use Rattle.acc_payloads.specs.declared.stops.Unsent.{Unsent}
use Rattle.acc_payloads.specs.Stops.{after_group}
use Rattle.acc_payloads.proofs.Left.{on_err}
use Rattle.acc_durable_store.specs.Actor.{message_stop, Settles, IsStrictAt}
use Rattle.acc_durable_store.proofs.StoreTakes.{none_left, one_there, one_given, took, took_strictly}
use Rattle.acc_durable_store.proofs.actor.StoreActor.take.Goals as goal

pub settle-requires-clause-may : goal.settle-requires-clause-may
settle-requires-clause-may g c =
    let may = c.requires.may in
    record {
      layout = c.args.topology.now;
      name = may.name;
      past = may.past;
      staged = message_stop c.args.number c.args.m.now ∷ [];
      stands = c.in_ok-stage.ensures.ok may.name may.past [] may.stands;
    }

pub returns-clause-ok : goal.returns-clause-ok
returns-clause-ok g c = λ name past stands.
    let settles = c.in_ok-settled.ensures.ok c.args.topology.now name past (message_stop c.args.number c.args.m.now ∷ []) (c.in_ok-stage.ensures.ok name past [] stands) in
    took c.args.topology.now name past c.args.number c.args.m.now g.D.Disk c.settle.new.self c.in-Some.settled
    (subst (λ (given : Option (List Unsent)). Settles g.D.Disk c.args.topology.now name past (message_stop c.args.number c.args.m.now ∷ []) c.settle.new.self given) c.in-Some.is settles)
    c.pop.new.self c.in-Some-pop.field-0 (sym c.into_vec.ensures ∙ c.in-Some-pop.ensures.items)

pub returns-clause-faults : goal.returns-clause-faults
returns-clause-faults g c = record {
  cause = λ e. absurd cc;
  unfailed = λ _. c.in_ok-settled.ensures.faults.unfailed (λ e. absurd (cc (e, c.in-Some.is))) ∙ ap (λ (d : g.row.D.Denot). (g.D.Disk.state d).faults) c.stage.ensures.disk;
}

pub returns-clause-strict : goal.returns-clause-strict
returns-clause-strict g c = λ name armed passed past stands at.
    let strictly = c.in_ok-settled.ensures.strict c.args.topology.now name armed passed past (message_stop c.args.number c.args.m.now ∷ []) (c.in_ok-stage.ensures.ok name past [] stands)
    (c.in_ok-stage.ensures.strict name armed passed past past at) (one_there (message_stop c.args.number c.args.m.now)) in
    let told = subst (λ (given : Option (List Unsent)). (is_none given ≡ fails_append armed)
    × IsStrictAt g.D.Disk c.args.topology.now name (after_append armed) (passed_in armed)
    (after_group given past (message_stop c.args.number c.args.m.now ∷ [])) c.settle.new.self) c.in-Some.is strictly in (
      told.0,
      took_strictly g.D.Disk c.args.topology.now name (after_append armed) (passed_in armed) _ c.settle.new.self c.pop.new.self told.1,
    )

pub returns-in_default-clause-ok : goal.returns-in_default-clause-ok
returns-in_default-clause-ok g c = λ name past stands.
    let settles = c.in_ok-settled.ensures.ok c.args.topology.now name past (message_stop c.args.number c.args.m.now ∷ []) (c.in_ok-stage.ensures.ok name past [] stands) in
    let told = subst (λ (given : Option (List Unsent)). Settles g.D.Disk c.args.topology.now name past (message_stop c.args.number c.args.m.now ∷ []) c.settle.new.self given) c.in_default.is settles in
    record { emits = tt; stands = told.stands }

pub returns-in_default-clause-strict : goal.returns-in_default-clause-strict
returns-in_default-clause-strict g c = λ name armed passed past stands at.
    let strictly = c.in_ok-settled.ensures.strict c.args.topology.now name armed passed past (message_stop c.args.number c.args.m.now ∷ []) (c.in_ok-stage.ensures.ok name past [] stands)
    (c.in_ok-stage.ensures.strict name armed passed past past at) (one_there (message_stop c.args.number c.args.m.now)) in
    subst (λ (given : Option (List Unsent)). (is_none given ≡ fails_append armed)
    × IsStrictAt g.D.Disk c.args.topology.now name (after_append armed) (passed_in armed)
    (after_group given past (message_stop c.args.number c.args.m.now ∷ [])) c.settle.new.self) c.in_default.is strictly

pub returns-in_err-stage-clause-err : goal.returns-in_err-stage-clause-err
returns-in_err-stage-clause-err g c =
    on_err c.from_residual-in_err-stage.result _ (λ up. ((λ name past stands. c.in_err-stage.ensures.err name past [] stands), c.stage.ensures.disk))

pub unreachable-requires : goal.unreachable-requires
unreachable-requires g c =
    let may = c.requires.may in
    let settles = c.in_ok-settled.ensures.ok c.args.topology.now may.name may.past (message_stop c.args.number c.args.m.now ∷ []) (c.in_ok-stage.ensures.ok may.name may.past [] may.stands) in
    let told = subst (λ (given : Option (List Unsent)). Settles g.D.Disk c.args.topology.now may.name may.past (message_stop c.args.number c.args.m.now ∷ []) c.settle.new.self given) c.in-Some.is settles in
    one_given c.args.topology.now may.name may.past c.args.number c.args.m.now c.in-Some.settled told.emits
    (sym c.into_vec.ensures ∙ none_left c.into_vec.result.items c.pop.new.self.items c.into_vec.result.len c.in-None.ensures.items c.in-None.ensures.rest c.in-None.ensures.cases.0)
