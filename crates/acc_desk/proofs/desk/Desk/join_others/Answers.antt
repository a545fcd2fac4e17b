use Rattle.std.proofs.Common.{◌≡◌, ◌≢◌, ℕ, ◌+◌, ◌<◌, Bool, List, [], ◌∷◌, ◌++◌, length, map, get_or, take, drop, Option, None, Some, refl, sym, ◌∙◌, ap, subst, arith, length-take-le}
use Rattle.std.specs.Prelude.{MatchOption}
use Rattle.std.specs.List.{AllByRecursion}
use Rattle.std.proofs.lemmas.List.{length-map, take_more, get_or-map}
use Rattle.acc_stamp.specs.declared.actors.Actor.{Actor}
use Rattle.acc_ports.specs.declared.disk.Disk.{Ghosts}
use Rattle.acc_message.specs.declared.entry.Event.{Event}
use Rattle.acc_message.specs.declared.message.Message.{Message}
use Rattle.acc_message.specs.declared.item.Item.{Item}
use Rattle.acc_message_index.specs.declared.posting.Post.{Post}
use Rattle.acc_schedule.specs.Content.{Content}
use Rattle.acc_schedule.specs.declared.plan.Step.{Step}
use Rattle.acc_actors.specs.declared.slot.Slot.{Slot}
use Rattle.acc_tape.specs.Seats.{TapeName, SeatView}
use Rattle.acc_desk.specs.declared.hold.Hold.{Hold}
use Rattle.acc_desk.specs.Desks.{desk_with, run_with, newest, state_of}
use Rattle.acc_desk.specs.Groups.{gathered, Joining, events_of, joining_of, CanJoin, CanAllJoin, CanGather, IsGathering}
use Rattle.acc_desk.proofs.Joining.{along, each_at, another_at}
use Rattle.acc_desk.proofs.desk.Desk.join_others.Goals as goal

-- what holds of what was joined, and where nothing was
none_of : {X : Type 0} (N : Type 0) (P : X → Type 0) (o : Option X) → o ≡ None → MatchOption o N P → N
none_of N P None is h = h
none_of N P (Some x) is h = absurd (cc)

some_of : {X : Type 0} (N : Type 0) (P : X → Type 0) (o : Option X) (x : X) → o ≡ Some x → MatchOption o N P → P x
some_of N P None x is h = absurd (cc)
some_of N P (Some y) x is h = let same : y ≡ x = cc in subst P same h

-- the message at a place is the one that joins
found_at : (found : List (Post × Message)) (place : ℕ) (pair : Post × Message) → place < length found → pair ≡ get_or found place pair → get_or (map joining_of found) place (joining_of pair) ≡ joining_of pair
found_at found place pair low is = get_or-map joining_of found place pair (joining_of pair) low ∙ ap joining_of (sym is)

one_more : (found : List (Post × Message)) (place : ℕ) (pair : Post × Message) → place < length found → pair ≡ get_or found place pair → take (place + 1) (map joining_of found) ≡ take place (map joining_of found) ++ joining_of pair ∷ []
one_more found place pair low is =
    let js = map joining_of found in
    take_more js place (joining_of pair) (let n = length-map found joining_of in omega arith) ∙ ap (λ (j : Joining). take place js ++ j ∷ []) (found_at found place pair low is)

module _ {D : Type 0} (port : Ghosts D) (strict_run : Bool) (plan : Content) (tape : TapeName) (a : Actor) (commands : List Step) (gone : ℕ)
    (first slot : Slot D) (found : List (Post × Message)) (place used : ℕ) (held : Hold) (seat : SeatView Item) (pair : Post × Message) where
  -- the message after those that are staged can join them
  can_gather : place < length found → place < held.items → pair ≡ get_or found place pair → CanAllJoin plan (newest seat) a (drop gone commands) (map joining_of found)
      → IsGathering port (run_with strict_run plan tape) (desk_with a seat slot commands gone) (gathered first (take place (map joining_of found)) used held)
      → CanGather port (run_with strict_run plan tape) (desk_with a seat slot commands gone) (gathered first (take place (map joining_of found)) used held) (joining_of pair)
  can_gather low room is all gathering =
      let js = map joining_of found in
      let j = joining_of pair in
      let long = length-map found joining_of in
      let there : place < length js = omega arith in
      let n = length-take-le place js (omega arith) in
      let f = all.few in
      let here = found_at found place pair low is in
      record {
        gathering = gathering;
        can = subst (CanJoin plan (newest seat) a (drop gone commands)) here (each_at (CanJoin plan (newest seat) a (drop gone commands)) js place j there all.each);
        another = subst (λ (one : Joining). AllByRecursion (λ (other : Event). other ≢ one.event) (events_of (take place js))) here (another_at js place j there all.different);
        few = omega arith;
        more = omega arith;
      }

pub loop-place-init : goal.loop-place-init
loop-place-init g c =
    let some = c.requires.some in
    record {
      same = (refl, refl, refl, refl, refl);
      low = omega arith;
      high = omega arith;
      can = c.requires.found;
      group = λ first gathering. gathering;
    }

pub loop-place-preserved : goal.loop-place-preserved
loop-place-preserved g c =
    let self = c.loop-place.self in
    let found = c.args.found.now in
    let place = c.loop-place.place in
    let pair = c.index-found-place.result in
    let new = c.join_next.new.self in
    let same = c.join_next.ensures.same in
    let was = c.loop-place.invariant.same in
    let low = c.loop-place-test.true in
    record {
      same = (same.0 ∙ was.0, same.1 ∙ was.1, same.2 ∙ was.2, same.3 ∙ was.3, same.4 ∙ was.4);
      low = omega arith;
      high = omega arith;
      can = along (λ a seat commands gone. CanAllJoin c.args.plan.now (newest seat) a (drop gone commands) (map joining_of found)) same.0 same.1 same.2 same.3 c.loop-place.invariant.can;
      group = λ first gathering.
          let can = can_gather g.D.Disk g.J.Planned.strict c.args.plan.now c.args.tape.now self.actor self.commands self.gone first self.slot found place c.loop-place.used c.args.hold self.seat pair low c.if-place-hold.false c.index-found-place.is c.loop-place.invariant.can (c.loop-place.invariant.group first gathering) in
          subst (λ joinings. IsGathering g.D.Disk (run_with g.J.Planned.strict c.args.plan.now c.args.tape.now) (state_of new) (gathered first joinings c.in-Ok-Some.more c.args.hold)) (sym (one_more found place pair low c.index-found-place.is))
          (some_of _ _ c.in-Ok-Some.field-0 c.in-Ok-Some.more c.in-Ok-Some.field-0-is (c.in-Ok-Some.ensures.ok first (take place (map joining_of found)) can));
    }

pub join_next-requires-clause-group : goal.join_next-requires-clause-group
join_next-requires-clause-group g c =
    let self = c.loop-place.self in
    let found = c.args.found.now in
    let place = c.loop-place.place in
    let q = c.requires.group in (
      q.0,
      take place (map joining_of found),
      can_gather g.D.Disk g.J.Planned.strict c.args.plan.now c.args.tape.now self.actor self.commands self.gone q.0 self.slot found place c.loop-place.used c.args.hold self.seat c.index-found-place.result c.loop-place-test.true c.if-place-hold.false c.index-found-place.is c.loop-place.invariant.can (c.loop-place.invariant.group q.0 q.1),
    )

pub returns-in-Ok-None-clause-gathering : goal.returns-in-Ok-None-clause-gathering
returns-in-Ok-None-clause-gathering g c = λ first gathering.
    let self = c.loop-place.self in
    let found = c.args.found.now in
    let place = c.loop-place.place in
    let can = can_gather g.D.Disk g.J.Planned.strict c.args.plan.now c.args.tape.now self.actor self.commands self.gone first self.slot found place c.loop-place.used c.args.hold self.seat c.index-found-place.result c.loop-place-test.true c.if-place-hold.false c.index-found-place.is c.loop-place.invariant.can (c.loop-place.invariant.group first gathering) in
    (c.loop-place.used, none_of _ _ c.in-Ok-None.field-0 c.in-Ok-None.field-0-is (c.in-Ok-None.ensures.ok first (take place (map joining_of found)) can))

pub returns-in-Err-clause-gathering : goal.returns-in-Err-clause-gathering
returns-in-Err-clause-gathering g c = λ first gathering.
    let self = c.loop-place.self in
    let found = c.args.found.now in
    let place = c.loop-place.place in
    let can = can_gather g.D.Disk g.J.Planned.strict c.args.plan.now c.args.tape.now self.actor self.commands self.gone first self.slot found place c.loop-place.used c.args.hold self.seat c.index-found-place.result c.loop-place-test.true c.if-place-hold.false c.index-found-place.is c.loop-place.invariant.can (c.loop-place.invariant.group first gathering) in
    (c.loop-place.used, c.in-Err.ensures.err first (take place (map joining_of found)) can)
