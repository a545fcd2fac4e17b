-- The last hand is served beside the others.
use Rattle.std.proofs.Common.{◌≡◌, ℕ, ◌==◌, ◌≤◌, Bool, true, List, [], length, map, Ok, sym, ◌∙◌, ap, subst, arith}
use Rattle.std.specs.Prelude.{All, Vec}
use Rattle.std.proofs.lemmas.List.{nil_from_length}
use Rattle.std.proofs.lemmas.Bool.Decides.{nat_tests}
use Rattle.std.proofs.lemmas.List.Elements.{All-from_recursion}
use Rattle.acc_schedule_runs.specs.Limits.{most_items}
use Rattle.acc_desk.specs.declared.desk.Desk.{Desk}
use Rattle.acc_desk.specs.Desks.{AreSound, name_of}
use Rattle.acc_free.specs.Dealing.{all_in}
use Rattle.acc_free.specs.Workers.{KeepsSound}
use Rattle.acc_free.proofs.Working.{Sound, others_sound, last_sound, same_back, sound_back}
use Rattle.acc_free.proofs.workers.+serve_each.Goals as goal

is_zero : (n : ℕ) → (n == 0) ≡ true → n ≡ 0
is_zero n h = grind (arith, nat_tests)

none_left : {X : Type 0} (xs : List X) (empty : Bool) → empty ≡ (length xs == 0) → empty ≡ true → xs ≡ []
none_left xs empty is said = nil_from_length xs (is_zero (length xs) (sym is ∙ said))

length_none : {X : Type 0} (xs ys : List X) (empty : Bool) → empty ≡ (length xs == 0) → xs ≡ ys → empty ≡ true → ys ≡ []
length_none xs ys empty is same said = sym same ∙ none_left xs empty is said

names_none : {D J A : Type 0} (others : List (Vec (Desk D J) A)) (first : List (Desk D J)) → others ≡ [] → first ≡ [] → map name_of first ≡ map name_of (all_in others)
names_none {D} {J} {A} others first none empty = ap (map name_of) empty ∙ ap (λ (l : List (Vec (Desk D J) A)). map name_of (all_in l)) (sym none)

all_none : {X : Type 0} (P : X → Type 0) (xs : List X) → xs ≡ [] → All P xs
all_none P xs none = subst (All P) (sym none) (All-from_recursion P [] tt)

pub serve_each-served-requires-clause-sound : goal.serve_each-served-requires-clause-sound
serve_each-served-requires-clause-sound g t c κs within =
    let d = g.D.Disk in
    others_sound d g.J.Planned.strict c.args.on.now.plan.now c.args.on.now.tape.now
    c.args.hands.items c.pop.new.self.items c.in-Some.desks c.in-Some.ensures.items c.requires.sound

pub serve_each-served-requires-in-Err-clause-sound : goal.serve_each-served-requires-in-Err-clause-sound
serve_each-served-requires-in-Err-clause-sound g t c κs within =
    let d = g.D.Disk in
    others_sound d g.J.Planned.strict c.args.on.now.plan.now c.args.on.now.tape.now
    c.args.hands.items c.pop.new.self.items c.in-Some.desks c.in-Some.ensures.items c.requires.sound

pub serve-first-requires-clause-desks : goal.serve-first-requires-clause-desks
serve-first-requires-clause-desks g t c =
    let d = g.D.Disk in
    last_sound d g.J.Planned.strict c.args.on.now.plan.now c.args.on.now.tape.now c.args.hands.items c.pop.new.self.items c.in-Some.desks c.in-Some.ensures.items c.requires.sound

pub returns-then-is_empty-clause-same : goal.returns-then-is_empty-clause-same
returns-then-is_empty-clause-same g t c =
    let d = g.D.Disk in
    same_back d g.J.Planned.strict c.args.on.now.plan.now c.args.on.now.tape.now
    c.args.hands.items c.pop.new.self.items c.in-Some.desks c.in-Some.ensures.items c.joined.result (Ok c.new-then-is_empty.result) c.serve-first.result
    (record { same = c.serve-first.ensures.same; sound = c.serve-first.ensures.sound }) c.joined.ensures.all c.joined.ensures.served
    (names_none c.pop.new.self.items c.new-then-is_empty.result.items (length_none c.as_slice.result.now c.pop.new.self.items c.is_empty.result c.is_empty.ensures c.as_slice.ensures.value c.if-is_empty.true) c.new-then-is_empty.ensures.items)

pub returns-then-is_empty-clause-sound : goal.returns-then-is_empty-clause-sound
returns-then-is_empty-clause-sound g t c =
    let d = g.D.Disk in
    sound_back d g.J.Planned.strict c.args.on.now.plan.now c.args.on.now.tape.now
    c.args.hands.items c.pop.new.self.items c.in-Some.desks c.in-Some.ensures.items c.joined.result (Ok c.new-then-is_empty.result) c.serve-first.result
    (record { same = c.serve-first.ensures.same; sound = c.serve-first.ensures.sound }) c.joined.ensures.all c.joined.ensures.served
    (all_none (Sound d g.J.Planned.strict c.args.on.now.plan.now c.args.on.now.tape.now) c.new-then-is_empty.result.items c.new-then-is_empty.ensures.items)

pub spawn_with-requires-clause-runs : goal.spawn_with-requires-clause-runs
spawn_with-requires-clause-runs g t c κs within =
    let d = g.D.Disk in
    let sound = last_sound d g.J.Planned.strict c.args.on.now.plan.now c.args.on.now.tape.now c.args.hands.items c.pop.new.self.items c.in-Some.desks c.in-Some.ensures.items c.requires.sound in
    (c.requires.plan, (c.requires.limits, sound))

pub spawn_with-requires-in-Err : goal.spawn_with-requires-in-Err
spawn_with-requires-in-Err g t c κs within =
    let d = g.D.Disk in
    let same = c.in-Err.ensures.err in
    let plan = ap (λ f. f.1.now) same ∙ c.requires.plan in
    let limits = subst (λ f. f.5.now.limits.items ≤ most_items) (sym same) c.requires.limits in
    let sound =
    subst (λ f. AreSound d g.J.Planned.strict f.1.now f.5.now f.2.items) (sym same)
    (last_sound d g.J.Planned.strict c.args.on.now.plan.now c.args.on.now.tape.now c.args.hands.items c.pop.new.self.items c.in-Some.desks c.in-Some.ensures.items c.requires.sound) in
    (within.0, (within.1.0, (within.1.1.0, (within.1.1.1, (plan, (limits, sound))))))

pub returns-in-Ok-clause-same : goal.returns-in-Ok-clause-same
returns-in-Ok-clause-same g t c =
    let d = g.D.Disk in
    let kept =
    subst (λ desks. KeepsSound d g.J.Planned.strict c.args.on.now.plan.now c.args.on.now.tape.now desks.items c.join.result) c.of.ensures
    (subst (λ p. KeepsSound d g.J.Planned.strict p.plan.now p.tape.now p.desks.value.items c.join.result) c.in-Ok.ensures.ok c.join.ensures) in
    same_back d g.J.Planned.strict c.args.on.now.plan.now c.args.on.now.tape.now
    c.args.hands.items c.pop.new.self.items c.in-Some.desks c.in-Some.ensures.items c.joined-in-Ok.result c.serve_each-served.result c.join.result kept c.joined-in-Ok.ensures.all c.joined-in-Ok.ensures.served
    c.serve_each-served.ensures.same

pub returns-in-Ok-clause-sound : goal.returns-in-Ok-clause-sound
returns-in-Ok-clause-sound g t c =
    let d = g.D.Disk in
    let kept =
    subst (λ desks. KeepsSound d g.J.Planned.strict c.args.on.now.plan.now c.args.on.now.tape.now desks.items c.join.result) c.of.ensures
    (subst (λ p. KeepsSound d g.J.Planned.strict p.plan.now p.tape.now p.desks.value.items c.join.result) c.in-Ok.ensures.ok c.join.ensures) in
    sound_back d g.J.Planned.strict c.args.on.now.plan.now c.args.on.now.tape.now
    c.args.hands.items c.pop.new.self.items c.in-Some.desks c.in-Some.ensures.items c.joined-in-Ok.result c.serve_each-served.result c.join.result kept c.joined-in-Ok.ensures.all c.joined-in-Ok.ensures.served
    c.serve_each-served.ensures.sound

pub returns-in-Err-clause-same : goal.returns-in-Err-clause-same
returns-in-Err-clause-same g t c =
    let d = g.D.Disk in
    let kept =
    subst (λ f. KeepsSound d g.J.Planned.strict f.1.now f.5.now f.2.items c.spawn_with-in-Err.result) c.in-Err.ensures.err c.spawn_with-in-Err.ensures in
    same_back d g.J.Planned.strict c.args.on.now.plan.now c.args.on.now.tape.now
    c.args.hands.items c.pop.new.self.items c.in-Some.desks c.in-Some.ensures.items c.joined-in-Err.result c.serve_each-served-in-Err.result c.spawn_with-in-Err.result kept c.joined-in-Err.ensures.all
    c.joined-in-Err.ensures.served c.serve_each-served-in-Err.ensures.same

pub returns-in-Err-clause-sound : goal.returns-in-Err-clause-sound
returns-in-Err-clause-sound g t c =
    let d = g.D.Disk in
    let kept =
    subst (λ f. KeepsSound d g.J.Planned.strict f.1.now f.5.now f.2.items c.spawn_with-in-Err.result) c.in-Err.ensures.err c.spawn_with-in-Err.ensures in
    sound_back d g.J.Planned.strict c.args.on.now.plan.now c.args.on.now.tape.now
    c.args.hands.items c.pop.new.self.items c.in-Some.desks c.in-Some.ensures.items c.joined-in-Err.result c.serve_each-served-in-Err.result c.spawn_with-in-Err.result kept c.joined-in-Err.ensures.all
    c.joined-in-Err.ensures.served c.serve_each-served-in-Err.ensures.sound
