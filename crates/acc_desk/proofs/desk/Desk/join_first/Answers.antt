use Rattle.std.proofs.Common.{◌≡◌, ◌⊎◌, ◌<◌, true, false, [], drop, Option, None, Some, Result, Ok, Err, sym, ◌∙◌, ap, subst, arith, inl, inr}
use Rattle.std.specs.Prelude.{MatchOption, OnOk, OnErr}
use Rattle.std.specs.Result.{is_err}
use Rattle.std.proofs.lemmas.Bool.{true≢false}
use Rattle.acc_message.specs.declared.entry.Event.TheVariants.{Message as MessageEvent}
use Rattle.acc_message.specs.NodeRules.{Takes}
use Rattle.acc_message_code.specs.Weight.{weight_of}
use Rattle.acc_tape.specs.ItemViews.{actor_of_item}
use Rattle.acc_tape.specs.Seats.{Turns}
use Rattle.acc_desk.specs.declared.hold.Hold.{Hold}
use Rattle.acc_desk.specs.Desks.{desk_with, run_with, no_hold}
use Rattle.acc_desk.specs.Fits.{fits_plan}
use Rattle.acc_desk.specs.Groups.{gathered, Joining, IsGathering}
use Rattle.acc_desk.proofs.Puts.{gathering_moves}
use Rattle.acc_desk.proofs.Joining.{along, asks_now, joins, refused, first_no_room, can_moves}
use Rattle.acc_desk.proofs.desk.Desk.join_first.Goals as goal

-- what holds, holds after an error
on_err : {X E P : Type 0} (r : Result X E) → P → OnErr r P
on_err (Ok x) h = tt
on_err (Err e) h = h

when_err : {X E P : Type 0} (r : Result X E) → is_err r ≡ true → OnErr r P → P
when_err (Ok x) some h = absurd (true≢false (sym some))
when_err (Err e) some h = h

when_ok : {X E P : Type 0} (r : Result X E) → is_err r ≡ false → OnOk r P → P
when_ok (Ok x) none h = h
when_ok (Err e) none h = absurd (true≢false none)

some_held : (hold : Hold) {P : Type 0} → 0 < hold.items → (hold ≡ no_hold) ⊎ P → P
some_held hold some (inl none) = absurd (let e = ap (λ (h : Hold). h.items) none in omega arith)
some_held hold some (inr p) = p

pub prepare-requires : goal.prepare-requires
prepare-requires g c =
    let self = c.args.self.now in
    let q = c.requires.group in
    asks_now g.D.Disk g.J.Planned.strict c.args.plan.now c.args.tape.now c.requires.limits self.actor self.commands self.gone self.slot self.slot [] 0 no_hold self.seat q.1 (record { event = MessageEvent c.args.number; act = Takes c.args.message.now }) q.0

pub stage-staged-requires-clause-may : goal.stage-staged-requires-clause-may
stage-staged-requires-clause-may g c =
    let self = c.args.self.now in
    let q = c.requires.group in
    asks_now g.D.Disk g.J.Planned.strict c.args.plan.now c.args.tape.now c.requires.limits self.actor self.commands self.gone self.slot self.slot [] 0 no_hold self.seat q.1 (record { event = MessageEvent c.args.number; act = Takes c.args.message.now }) q.0

pub returns-in_err-hold-clause-err : goal.returns-in_err-hold-clause-err
returns-in_err-hold-clause-err g c =
    let self = c.args.self.now in
    let q = c.requires.group in
    let new = c.reserve.new.seat in
    let turns = subst (λ p. Turns actor_of_item weight_of (fits_plan p) self.seat new) (sym c.requires.plan) c.reserve.ensures.on in
    on_err c.from_residual-in_err-hold.result
    (gathering_moves g.D.Disk g.J.Planned.strict c.args.plan.now c.args.tape.now c.requires.limits self.actor self.commands self.gone self.slot self.slot [] 0 no_hold no_hold self.seat new q.1 turns c.reserve.ensures.mine c.in_err-hold.ensures.err (omega arith) (omega arith))

-- what holds of what was reserved, and where nothing was
none_of : {X : Type 0} (N : Type 0) (P : X → Type 0) (o : Option X) → o ≡ None → MatchOption o N P → N
none_of N P None is h = h
none_of N P (Some x) is h = absurd (cc)

some_of : {X : Type 0} (N : Type 0) (P : X → Type 0) (o : Option X) (x : X) → o ≡ Some x → MatchOption o N P → P x
some_of N P None x is h = absurd (cc)
some_of N P (Some y) x is h = let same : y ≡ x = cc in subst P same h

pub returns-in_default-clause-ok : goal.returns-in_default-clause-ok
returns-in_default-clause-ok g c =
    let self = c.args.self.now in
    let q = c.requires.group in
    let new = c.reserve.new.seat in
    let j : Joining = record { event = MessageEvent c.args.number; act = Takes c.args.message.now } in
    let turns = subst (λ p. Turns actor_of_item weight_of (fits_plan p) self.seat new) (sym c.requires.plan) c.reserve.ensures.on in
    let h = none_of _ _ c.in_ok-hold.field-0 c.in_default.is c.in_ok-hold.ensures.ok in
    let gathering = gathering_moves g.D.Disk g.J.Planned.strict c.args.plan.now c.args.tape.now c.requires.limits self.actor self.commands self.gone self.slot self.slot [] 0 no_hold no_hold self.seat new q.1 turns c.reserve.ensures.mine h.0 (omega arith) (omega arith) in
    let can = can_moves c.args.plan.now c.args.tape.now c.requires.limits self.actor no_hold (drop self.gone self.commands) self.seat new q.1.desk.seated turns c.reserve.ensures.mine j q.0 in (
      gathering,
      first_no_room g.D.Disk g.J.Planned.strict c.args.plan.now c.args.tape.now c.requires.limits self.actor self.commands self.gone self.slot new j gathering can c.in_ok-weight.weight c.in_ok-weight.ensures.weight h.1.0 h.1.1 h.1.2,
    )

pub returns-then-is_err-clause-err : goal.returns-then-is_err-clause-err
returns-then-is_err-clause-err g c =
    let self = c.args.self.now in
    let q = c.requires.group in
    let new = c.reserve.new.seat in
    let hold = c.in-Some.hold in
    let free = c.let_go.new.self.seat in
    let turns = subst (λ p. Turns actor_of_item weight_of (fits_plan p) self.seat new) (sym c.requires.plan) c.reserve.ensures.on in
    let h = some_of _ _ c.in_ok-hold.field-0 hold c.in-Some.is c.in_ok-hold.ensures.ok in
    let held = gathering_moves g.D.Disk g.J.Planned.strict c.args.plan.now c.args.tape.now c.requires.limits self.actor self.commands self.gone self.slot self.slot [] 0 no_hold hold self.seat new q.1 turns c.reserve.ensures.mine h.0 (omega arith) (omega arith) in
    let still = refused g.D.Disk g.J.Planned.strict c.args.plan.now c.args.tape.now c.requires.limits self.actor self.commands self.gone self.slot self.slot [] 0 hold new held c.stage-staged.new.self (when_err c.stage-staged.result (sym c.is_err.ensures.value ∙ c.if-is_err.true) c.stage-staged.ensures.err) c.stage-staged.ensures.strict in
    let later = subst (λ p. Turns actor_of_item weight_of (fits_plan p) new free) (sym c.requires.plan) (some_held hold h.1 c.let_go.ensures.on) in
    along (λ a slot commands gone. IsGathering g.D.Disk (run_with g.J.Planned.strict c.args.plan.now c.args.tape.now) (desk_with a free slot commands gone) (gathered self.slot [] 0 no_hold)) c.let_go.ensures.same.0 c.let_go.ensures.same.1 c.let_go.ensures.same.2 c.let_go.ensures.same.3
    (gathering_moves g.D.Disk g.J.Planned.strict c.args.plan.now c.args.tape.now c.requires.limits self.actor self.commands self.gone self.slot c.stage-staged.new.self [] 0 hold no_hold new free still later c.let_go.ensures.mine c.let_go.ensures.seated.held_is (omega arith) (omega arith))

pub returns-clause-ok : goal.returns-clause-ok
returns-clause-ok g c =
    let self = c.args.self.now in
    let q = c.requires.group in
    let new = c.reserve.new.seat in
    let hold = c.in-Some.hold in
    let j : Joining = record { event = MessageEvent c.args.number; act = Takes c.args.message.now } in
    let turns = subst (λ p. Turns actor_of_item weight_of (fits_plan p) self.seat new) (sym c.requires.plan) c.reserve.ensures.on in
    let h = some_of _ _ c.in_ok-hold.field-0 hold c.in-Some.is c.in_ok-hold.ensures.ok in
    let held = gathering_moves g.D.Disk g.J.Planned.strict c.args.plan.now c.args.tape.now c.requires.limits self.actor self.commands self.gone self.slot self.slot [] 0 no_hold hold self.seat new q.1 turns c.reserve.ensures.mine h.0 (omega arith) (omega arith) in
    let can = can_moves c.args.plan.now c.args.tape.now c.requires.limits self.actor no_hold (drop self.gone self.commands) self.seat new q.1.desk.seated turns c.reserve.ensures.mine j q.0 in
    joins g.D.Disk g.J.Planned.strict c.args.plan.now c.args.tape.now c.requires.limits self.actor self.commands self.gone self.slot self.slot [] 0 hold new held j can
    c.stage-staged.new.self c.in_ok-weight.weight c.in_ok-weight.weight (omega arith) h.3 h.1 (omega arith) tt c.in_ok-weight.ensures.weight
    (when_ok c.stage-staged.result (sym c.is_err.ensures.value ∙ c.if-is_err.false) c.stage-staged.ensures.ok) c.stage-staged.ensures.strict

pub returns-then-is_err-clause-mark : goal.returns-then-is_err-clause-mark
returns-then-is_err-clause-mark g c = c.let_go.ensures.same.4
