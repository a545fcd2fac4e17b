-- What the durable store staged stands after what was staged before.
use Rattle.std.proofs.Common.{◌≡◌, false, List, [], ◌∷◌, ◌++◌, sym, ap, ◌∙◌, subst}
use Rattle.acc_message.specs.declared.entry.Event.{Event}
use Rattle.acc_message.specs.declared.entry.Emitted.{Emitted}
use Rattle.acc_payloads.specs.declared.stops.Unsent.{Unsent}
use Rattle.acc_durable_store.specs.Actor.{is_shut}
use Rattle.acc_durable_store.specs.Weighing.{IsPreparedIn}
use Rattle.acc_durable_store.proofs.StoreActors.{up_in, can_take}
use Rattle.acc_durable_store.proofs.StoreSteps.{stages}
use Rattle.acc_durable_store.proofs.actor.StoreActor.stage.Goals as goal

-- one more
room_more : (later room before : List Unsent) (event : Event) (told emitted : Emitted) → later ≡ room ++ record { event = event; emitted = told } ∷ [] → room ≡ before → told ≡ emitted
    → later ≡ before ++ record { event = event; emitted = emitted } ∷ []
room_more later room before event told emitted e f h =
    e ∙ ap (λ (l : List Unsent). l ++ record { event = event; emitted = told } ∷ []) f ∙ ap (λ (x : Emitted). before ++ record { event = event; emitted = x } ∷ []) h

pub stage-requires-clause-can : goal.stage-requires-clause-can
stage-requires-clause-can g c =
    can_take g.D.Disk c.args.topology.now c.args.self.now c.in-Open.store c.args.m.now c.in-Open.is c.requires.up c.requires.may

pub stage-requires-clause-prepared : goal.stage-requires-clause-prepared
stage-requires-clause-prepared g c =
    subst (λ state. IsPreparedIn c.args.topology.now state c.args.m.now c.args.prepared) c.in-Open.is c.requires.prepared

pub returns-clause-ok : goal.returns-clause-ok
returns-clause-ok g c = λ name past staged stands.
    let sound : c.in-Open.store.journal.broken ≡ false = ap is_shut (sym c.in-Open.is) ∙ c.requires.up in
    let takes = c.in_ok-out.ensures.ok _ (up_in c.args.topology.now name past staged c.args.self.now.state c.in-Open.store c.in-Open.is (stands.up c.requires.up)).stands in
    stages g.D.Disk c.args.topology.now c.args.self.now c.in-Open.store c.stage.new.self c.in-Open.is sound name past staged stands c.stage.ensures.same c.args.number c.args.m.now
    c.in_ok-out.ensures.fits c.in_ok-out.ensures.journal c.in_ok-out.out c.put.new.unsents
    (room_more c.put.new.unsents.items c.reserve.new.self.items c.args.self.now.unsent.items _ c.emitted-emitted.result _ c.put.ensures c.reserve.ensures.items c.emitted-emitted.ensures)
    takes
