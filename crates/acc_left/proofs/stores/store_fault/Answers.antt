-- One payload more, or the first that may not stand there.
use Rattle.std.proofs.Common.{◌≡◌, ℕ, ◌+◌, List, length, is_some, sym, ap, subst, ◌∙◌, arith}
use Rattle.std.proofs.lemmas.Bool.{true≢false}
use Rattle.acc_payloads.specs.Store.{FitsStore, store_bytes}
use Rattle.acc_left.specs.Told.{bytes_in}
use Rattle.acc_left.proofs.PayloadFacts.{all_in, next_in, payload_at}
use Rattle.acc_left.proofs.StoreWalk.{at_some, StoreIsRead, store_all, store_may_not, store_more, store_none, store_unread}
use Rattle.acc_left.proofs.stores.store_fault.Goals as goal

pub loop-payload-init : goal.loop-payload-init
loop-payload-init c = λ images tells. store_none c.args.plan.now images c.args.own

pub returns-in_default : goal.returns-in_default
returns-in_default c = λ images tells.
    store_unread c.args.plan.now images c.args.own (bytes_in c.args.payloads.now) c.loop-payload.payload-index c.loop-payload.marked c.loop-payload.gate (payload_at c.args.payloads.now c.loop-payload.payload-index)
    (c.loop-payload.invariant images tells) (next_in c.args.payloads.now c.loop-payload.payload-index c.loop-payload-test.true)
    (λ p fits spelled.
    c.in_ok-read.ensures.none (ap is_some c.in_default.is) p fits spelled)

pub returns-then-not-may_leave : goal.returns-then-not-may_leave
returns-then-not-may_leave c = λ images tells.
    let so_far = c.loop-payload.invariant images tells in
    let spelled = at_some (λ p. payload_at c.args.payloads.now c.loop-payload.payload-index ≡ store_bytes p) _ _ c.in-Some.is c.in_ok-read.ensures.found in
    let fits = at_some FitsStore _ _ c.in-Some.is c.in_ok-read.ensures.fits in
    store_may_not c.args.plan.now images c.args.own (bytes_in c.args.payloads.now) c.loop-payload.payload-index c.loop-payload.marked c.loop-payload.gate (payload_at c.args.payloads.now c.loop-payload.payload-index)
    so_far (next_in c.args.payloads.now c.loop-payload.payload-index c.loop-payload-test.true) c.in-Some.read spelled fits
    (λ may. true≢false (sym ((c.may_leave.ensures images tells so_far.items so_far.mark fits).1 may) ∙ c.if-not-may_leave.true))

pub loop-payload-preserved : goal.loop-payload-preserved
loop-payload-preserved c = λ images tells.
    let so_far = c.loop-payload.invariant images tells in
    let spelled = at_some (λ p. payload_at c.args.payloads.now c.loop-payload.payload-index ≡ store_bytes p) _ _ c.in-Some.is c.in_ok-read.ensures.found in
    let fits = at_some FitsStore _ _ c.in-Some.is c.in_ok-read.ensures.fits in
    let next_is : c.in-Some-checked_add.next ≡ c.loop-payload.gate + (5 + length (payload_at c.args.payloads.now c.loop-payload.payload-index)) = omega (arith, c.in-Some-checked_add.ensures) in
    store_more c.args.plan.now images c.args.own (bytes_in c.args.payloads.now) c.loop-payload.payload-index c.loop-payload.marked c.loop-payload.gate (payload_at c.args.payloads.now c.loop-payload.payload-index)
    so_far (next_in c.args.payloads.now c.loop-payload.payload-index c.loop-payload-test.true) c.in-Some.read c.is_marked-marked.result c.in-Some-checked_add.next spelled
    ((c.may_leave.ensures images tells so_far.items so_far.mark fits).0 c.if-not-may_leave.false) c.is_marked-marked.ensures next_is

pub returns : goal.returns
returns c = λ images tells.
    store_all c.args.plan.now images c.args.own (bytes_in c.args.payloads.now) c.loop-payload.marked c.loop-payload.gate
    (subst (λ (l : List (List ℕ)). StoreIsRead c.args.plan.now images c.args.own l c.loop-payload.marked c.loop-payload.gate)
    (all_in c.args.payloads.now c.loop-payload.payload-index (omega arith)) (c.loop-payload.invariant images tells))
