use Rattle.std.proofs.Common.{◌≡◌, ℕ, List, [], ◌∷◌, map, take, drop, Option, None, Some, refl, sym, ◌∙◌, ap, subst, arith, length-take-le}
use Rattle.std.specs.Prelude.{MatchOption, slice_get}
use Rattle.std.specs.List.{AllByRecursion}
use Rattle.std.proofs.lemmas.List.{length-map}
use mathlib.Core.List.{IsPrefix}
use Rattle.acc_message_index.specs.declared.posting.Post.{Post}
use Rattle.acc_message.specs.declared.message.Message.{Message}
use Rattle.acc_message_code.specs.Weight.{weight_of}
use Rattle.acc_tape.specs.ItemViews.{actor_of_item}
use Rattle.acc_message.specs.declared.item.Item.{Item}
use Rattle.acc_tape.specs.Seats.{SeatView, Turns}
use Rattle.acc_desk.specs.Desks.{run_with, newest, no_hold, state_of}
use Rattle.acc_desk.specs.Fits.{fits_plan}
use Rattle.acc_desk.specs.Groups.{gathered, Joining, joining_of, CanJoin, CanAllJoin, IsGathering}
use Rattle.acc_desk.proofs.Joining.{along, begins_gathering, all_can_move}
use Rattle.acc_desk.proofs.desk.Desk.gather.Goals as goal

-- what holds of what was joined
some_of : {X : Type 0} (N : Type 0) (P : X → Type 0) (o : Option X) (x : X) → o ≡ Some x → MatchOption o N P → P x
some_of N P None x is h = absurd (cc)
some_of N P (Some y) x is h = let same : y ≡ x = cc in subst P same h

-- the first message that was found
first_can : (P : Joining → Type 0) (found : List (Post × Message)) (pair : Post × Message) → slice_get found 0 ≡ Some pair → AllByRecursion P (map joining_of found) → P (joining_of pair)
first_can P [] pair is h = absurd (cc)
first_can P (x ∷ found) pair is h = let same : x ≡ pair = cc in subst (λ (p : Post × Message). P (joining_of p)) same h.0

first_taken : (found : List (Post × Message)) (pair : Post × Message) → slice_get found 0 ≡ Some pair → joining_of pair ∷ [] ≡ take 1 (map joining_of found)
first_taken [] pair is = absurd (cc)
first_taken (x ∷ found) pair is = let same : pair ≡ x = cc in ap (λ (p : Post × Message). joining_of p ∷ []) same

pub returns-in_default-clause-gathering : goal.returns-in_default-clause-gathering
returns-in_default-clause-gathering g c =
    let self = c.args.self.now in
    (0, refl, begins_gathering g.D.Disk g.J.Planned.strict c.args.plan.now c.args.tape.now c.requires.limits self.actor self.commands self.gone self.slot self.seat c.requires.kind c.requires.up c.requires.desk)

pub join_first-requires-clause-group : goal.join_first-requires-clause-group
join_first-requires-clause-group g c =
    let self = c.args.self.now in (
      first_can (CanJoin c.args.plan.now (newest self.seat) self.actor (drop self.gone self.commands)) c.args.found.now c.in-Some.field-0.now (sym c.in-Some.ensures.value) c.requires.found.each,
      begins_gathering g.D.Disk g.J.Planned.strict c.args.plan.now c.args.tape.now c.requires.limits self.actor self.commands self.gone self.slot self.seat c.requires.kind c.requires.up c.requires.desk,
    )

pub join_others-staged-requires-clause-found : goal.join_others-staged-requires-clause-found
join_others-staged-requires-clause-found g c =
    let self = c.args.self.now in
    let new = c.join_first.new.self in
    let js = map joining_of c.args.found.now in
    let same = c.join_first.ensures.same in
    let turns = subst (λ p. Turns actor_of_item weight_of (fits_plan p) self.seat new.seat) (sym c.requires.plan) c.in-Ok-Some.ensures.on in
    let still : ◌≡◌ {A = ℕ} 0 0 = refl in
    along (λ a n commands gone. CanAllJoin c.args.plan.now (newest new.seat) a (drop gone commands) js) same.0 still same.1 same.2
    (all_can_move c.args.plan.now c.args.tape.now c.requires.limits self.actor no_hold (drop self.gone self.commands) self.seat new.seat c.requires.desk.seated turns c.join_first.ensures.mine js c.requires.found)

pub returns-in-Ok-Some-clause-gathering : goal.returns-in-Ok-Some-clause-gathering
returns-in-Ok-Some-clause-gathering g c =
    let self = c.args.self.now in
    let found = c.args.found.now in
    let first = c.join_first.new.self in
    let pair = c.in-Some.field-0.now in
    let used = c.in-Ok-Some.used in
    let hold = c.in-Ok-Some.hold in
    let count = c.join_others-staged.result.0 in
    let joined = some_of _ _ c.in-Ok-Some.field-0 (used, hold) c.in-Ok-Some.field-0-is c.in-Ok-Some.ensures.ok in
    let front = subst (λ joinings. IsGathering g.D.Disk (run_with g.J.Planned.strict c.args.plan.now c.args.tape.now) (state_of first) (gathered self.slot joinings used hold)) (first_taken found pair (sym c.in-Some.ensures.value)) joined in
    let all = c.join_others-staged.ensures.gathering self.slot front in
    let long = length-map found joining_of in
    let few = c.join_others-staged.ensures.count.1 in
    (all.0, length-take-le count (map joining_of found) (omega arith), all.1)

pub returns-in_default-clause-seen : goal.returns-in_default-clause-seen
returns-in_default-clause-seen g c = λ some. absurd (some refl)

pub returns-in-Ok-None-clause-seen : goal.returns-in-Ok-None-clause-seen
returns-in-Ok-None-clause-seen g c = λ some. absurd (some refl)

pub returns-in-Err-clause-seen : goal.returns-in-Err-clause-seen
returns-in-Err-clause-seen g c = λ some. absurd (some refl)

pub returns-in-Ok-Some-clause-seen : goal.returns-in-Ok-Some-clause-seen
returns-in-Ok-Some-clause-seen g c = λ some. subst (λ (s : SeatView Item). IsPrefix c.args.self.now.seat.seen s.seen) (sym c.join_others-staged.ensures.same.1) c.in-Ok-Some.ensures.on.seen

pub returns-in-Ok-Some-clause-mark : goal.returns-in-Ok-Some-clause-mark
returns-in-Ok-Some-clause-mark g c = c.join_others-staged.ensures.same.4 ∙ c.join_first.ensures.mark
