-- A payload is entered, or may not stand there.
use Rattle.std.proofs.Common.{◌≡◌, ◌∙◌, sym}
use Rattle.acc_payloads.specs.Store.{store_bytes, FitsStore}
use Rattle.acc_durable_store.proofs.Replaying.{at_some, entered, not_entered, may_not}
use Rattle.acc_durable_store.proofs.replay.Replayed.enter.Goals as goal

pub returns-then-not-may_follow-clause-bad : goal.returns-then-not-may_follow-clause-bad
returns-then-not-may_follow-clause-bad c = λ e before replayed.
    may_not c.args.topology.now c.args.version c.args.own before c.args.self.now c.args.self.now c.args.payload.now replayed c.in-Some.read
    (at_some (λ p. c.args.payload.now ≡ store_bytes p) _ _ c.in-Some.is c.in_ok-read.ensures.found) (at_some FitsStore _ _ c.in-Some.is c.in_ok-read.ensures.fits)
    (sym c.may_follow.ensures ∙ c.if-not-may_follow.true)

pub returns-clause-entered : goal.returns-clause-entered
returns-clause-entered c =
    entered c.args.topology.now c.args.version c.args.own c.args.self.now c.take.new.self c.args.payload.now c.in-Some.read
    (at_some (λ p. c.args.payload.now ≡ store_bytes p) _ _ c.in-Some.is c.in_ok-read.ensures.found) (at_some FitsStore _ _ c.in-Some.is c.in_ok-read.ensures.fits)
    (sym c.may_follow.ensures ∙ c.if-not-may_follow.false) c.take.result c.take.ensures.taken

pub returns-clause-bad : goal.returns-clause-bad
returns-clause-bad c =
    not_entered c.args.topology.now c.args.version c.args.own c.args.self.now c.take.new.self c.args.payload.now c.in-Some.read
    (at_some (λ p. c.args.payload.now ≡ store_bytes p) _ _ c.in-Some.is c.in_ok-read.ensures.found) (at_some FitsStore _ _ c.in-Some.is c.in_ok-read.ensures.fits)
    (sym c.may_follow.ensures ∙ c.if-not-may_follow.false) c.take.result c.take.ensures.high
