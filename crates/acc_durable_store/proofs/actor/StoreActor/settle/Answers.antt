-- What is staged is the group that was appended, whether the append passed or failed.
use Rattle.std.proofs.Common.{◌≡◌, ◌≢◌, [], Err, false, sym, ap, subst, ◌∙◌}
use Rattle.acc_journal.specs.Calls.{Appends}
use Rattle.acc_journal.proofs.Appends.{either_now}
use Rattle.acc_durable_store.specs.declared.error.StepError.{StepError}
use Rattle.acc_durable_store.specs.Store.{step_answer, FailsToSettle}
use Rattle.acc_durable_store.specs.Actor.{is_shut}
use Rattle.acc_durable_store.proofs.StoreActors.{up_in}
use Rattle.acc_durable_store.proofs.StoreSteps.{gives, given_stands, stopped_stands, stopped_strictly}
use Rattle.acc_durable_store.proofs.actor.StoreActor.settle.Goals as goal

pub returns-in-Ok-clause-ok : goal.returns-in-Ok-clause-ok
returns-in-Ok-clause-ok g c = λ layout name past staged stands.
    let sound : c.in-Open.store.journal.broken ≡ false = ap is_shut (sym c.in-Open.is) ∙ c.requires.up in
    record {
      emits =
          gives g.D.Disk layout c.args.self.now c.in-Open.store c.settle.new.self c.in-Open.is sound name past staged stands c.settle.ensures.same c.take_all.result c.take_all.ensures.given;
      stands =
          given_stands g.D.Disk layout c.args.self.now c.in-Open.store c.settle.new.self c.in-Open.is sound name past staged stands c.settle.ensures.same c.take_all.new.unsents c.take_all.ensures.none
          c.in-Ok.ensures.ok c.in-Ok.ensures.none_staged c.in-Ok.ensures.appended c.in-Ok.ensures.lasts;
    }

pub returns-in-Ok-clause-down : goal.returns-in-Ok-clause-down
returns-in-Ok-clause-down g c =
    let may = c.requires.may in
    (c.in-Ok.ensures.ok may.layout _ (up_in may.layout may.name may.past may.staged c.args.self.now.state c.in-Open.store c.in-Open.is (may.stands.up c.requires.up)).stands).sound

pub returns-in-Err-DiskFault-clause-ok : goal.returns-in-Err-DiskFault-clause-ok
returns-in-Err-DiskFault-clause-ok g c = λ layout name past staged stands.
    let some : c.in-Open.store.journal.group ≢ [] = λ none. cc ((c.settle.ensures.nothing none).0, c.in-Err-DiskFault.is) in
    let sound : c.in-Open.store.journal.broken ≡ false = ap is_shut (sym c.in-Open.is) ∙ c.requires.up in
    let fails = subst (FailsToSettle c.settle.new.self) c.in-Err-DiskFault.field-0-is c.in-Err-DiskFault.ensures.err in
    record {
      emits = tt;
      stands =
          stopped_stands g.D.Disk layout c.args.self.now c.in-Open.store c.settle.new.self c.in-Open.is sound name past staged stands c.settle.ensures.same c.kept-kept.result c.kept-kept.ensures fails.0
          (either_now g.D.Disk c.in-Open.store.journal.disk c.settle.new.self.journal.disk c.in-Open.store.journal.payloads c.in-Open.store.journal.group _ (g.met.D.Disk.counts_now c.settle.new.self.journal.disk) (c.settle.ensures.appends some));
    }

pub returns-in-Err-DiskFault-clause-strict : goal.returns-in-Err-DiskFault-clause-strict
returns-in-Err-DiskFault-clause-strict g c = λ layout name armed passed past staged stands at any.
    let sound : c.in-Open.store.journal.broken ≡ false = ap is_shut (sym c.in-Open.is) ∙ c.requires.up in
    let fails = subst (FailsToSettle c.settle.new.self) c.in-Err-DiskFault.field-0-is c.in-Err-DiskFault.ensures.err in
    let some : c.in-Open.store.journal.group ≢ [] = λ none. cc ((c.settle.ensures.nothing none).0, c.in-Err-DiskFault.is) in
    let appends = subst (λ (e : StepError). Appends g.D.Disk c.in-Open.store.journal.disk c.settle.new.self.journal.disk c.in-Open.store.journal.payloads c.in-Open.store.journal.group (step_answer {T = Unit {0}} (Err e))) c.in-Err-DiskFault.field-0-is (c.in-Err-DiskFault.ensures.appends some) in
    stopped_strictly g.D.Disk layout c.args.self.now c.in-Open.store c.settle.new.self c.in-Open.is sound name past staged stands c.settle.ensures.same armed passed at appends.calls.kind c.kept-kept.result fails.0 appends
