-- What is left undone is done, and the disks go back.
use Rattle.std.proofs.Common.{◌≡◌, ℕ, Bool, true, false, List, ◌++◌, [], map, reverse, Result, Ok, Err, OnOk, IfErr, refl, sym, ◌∙◌, ap, subst, append-nil}
use Rattle.acc_ports.specs.declared.disk.Disk.{Ghosts}
use Rattle.acc_message.specs.declared.error.Which.{Which}
use Rattle.acc_message.specs.declared.error.RunError.{RunError}
use Rattle.acc_message.specs.declared.error.RunError.TheVariants.{Limit, OutOfMemory}
use Rattle.acc_message.specs.declared.item.Item.{Item}
use Rattle.acc_schedule.specs.Content.{Content}
use Rattle.acc_schedule_runs.specs.Disks.{fresh_disks}
use Rattle.acc_schedule_runs.specs.Laws.{NobodyIsDown}
use Rattle.acc_schedule_runs.specs.Fronts.{Begins}
use Rattle.acc_schedule_runs.specs.Limits.{EndsAt}
use Rattle.acc_cluster.specs.declared.ending.Ended.{Ended}
use Rattle.acc_cluster.specs.Steps.{IfLimit}
use Rattle.acc_run.specs.Given.{numbered}
use Rattle.acc_run.proofs.Whole.{limit_told}
use Rattle.acc_free_ending.specs.Finish.{HasFinished, HasStopped}
use Rattle.acc_free_ending.specs.Moves.{IsFreeFront}
use Rattle.acc_free.specs.Given.{GivesBackAtLimit}
use Rattle.acc_free.proofs.running.run_on.Goals as goal

none_begins : (items : List Item) → Begins [] items
none_begins items = record { later = items; items_are = sym (append-nil items) }

-- a free run that begins with these items begins with none too
from_none : (strict : Bool) (plan : Content) (entered front : List Item) (which : Which) (number : ℕ) → EndsAt (IsFreeFront strict plan entered) front which number
    → EndsAt (IsFreeFront strict plan []) front which number
from_none strict plan entered front which number e =
    let f = e.front in
    record {
      next = e.next;
      front =
          record {
            reached = f.reached;
            serving = f.serving;
            went = f.went;
            behind = none_begins f.reached.own;
            begins = f.begins;
            stayed = f.stayed;
          };
      within = e.within;
      passed = e.passed;
    }

-- in a strict run, or in any
either : (P : Bool → Type 0) (strict : Bool) → (strict ≡ true → P true) → P false → P strict
either P true strictly some = strictly refl
either P false strictly some = some

-- what holds of each way that the rounds ended
ok_told : {X E : Type 0} (P : Type 0) (r : Result X E) (x : X) → r ≡ Ok x → OnOk r P → P
ok_told {X} {E} P r x is h = subst (λ (q : Result X E). OnOk q P) is h

err_told : {X E : Type 0} (P : E → Type 0) (r : Result X E) (e : E) → r ≡ Err e → IfErr r P → P e
err_told {X} {E} P r e is h = subst (λ (q : Result X E). IfErr q P) is h

-- what a limit leaves
abbrev Leaves : {D : Type 0} → Ghosts D → Bool → Content → List (ℕ × D) → List (ℕ × D) → Which → ℕ → Type 0
Leaves port strict plan before after which number =
    (front : List Item) × EndsAt (IsFreeFront strict plan []) front which number × GivesBackAtLimit port plan front before after

module _ {D : Type 0} (port : Ghosts D) (plan : Content) (entered : List Item) (ended : Ended D) where
  abbrev Ends : Bool → Which → ℕ → Type 0
  Ends strict which number = EndsAt (IsFreeFront strict plan (reverse entered)) (reverse ended.items) which number

  abbrev Stops : Which → ℕ → Type 0
  Stops which number = Ends false which number × HasStopped port plan entered ended

  module _ (strict : Bool) (before after : List (ℕ × D)) (given : after ≡ before ++ map numbered ended.disks.items) where
    limited : (error : RunError) → (strict ≡ true → IfLimit (Ends true) error) → IfLimit Stops error → IfLimit (Leaves port strict plan before after) error
    limited (Limit which number) strictly some =
        let front = reverse ended.items in
        let ends : Ends strict which number = either (λ (test : Bool). Ends test which number) strict strictly some.0 in (
          front,
          from_none strict plan (reverse entered) front which number ends,
          record {
            reached = some.1.reached;
            serving = some.1.serving;
            ahead = some.1.ahead;
            back = record { disks = ended.disks.items; given = given; disks_are = some.1.disks_are; kept = some.1.kept };
          },
        )
    limited OutOfMemory strictly some = tt

    -- as the rounds told it
    told : {X : Type 0} (gone : Result X RunError) (error : RunError) → gone ≡ Err error → (strict ≡ true → IfErr gone (IfLimit (Ends true)))
        → IfErr gone (IfLimit Stops) → IfLimit (Leaves port strict plan before after) error
    told gone error is strictly some =
        limited error (λ on. err_told (IfLimit (Ends true)) gone error is (strictly on)) (err_told (IfLimit Stops) gone error is some)

pub finish-requires-clause-standing : goal.finish-requires-clause-standing
finish-requires-clause-standing g c = (c.in_ok-rests.ensures.rested.stopped, c.in_ok-rests.ensures.rested.resting)

pub returns-clause-stayed : goal.returns-clause-stayed
returns-clause-stayed g c = λ is.
    let r = c.in_ok-rests.ensures.rested in
    ok_told (NobodyIsDown (reverse c.in_ok-ended.ended.items)) c.in_ok-ended.gone c.in_ok-gone.field-0 c.in_ok-gone.was
    (c.in_ok-ended.ensures.strict r.stopped fresh_disks r.resting (r.strictly is) (λ a. refl) (r.up is))

pub returns-clause-served : goal.returns-clause-served
returns-clause-served g c =
    let f =
    ok_told (HasFinished g.M.D.Disk c.args.plan.now c.in_ok-rests.entered.items c.in_ok-ended.ended) c.in_ok-ended.gone c.in_ok-gone.field-0
    c.in_ok-gone.was c.in_ok-ended.ensures.ok in
    f.served

pub returns-clause-within : goal.returns-clause-within
returns-clause-within g c =
    let f =
    ok_told (HasFinished g.M.D.Disk c.args.plan.now c.in_ok-rests.entered.items c.in_ok-ended.ended) c.in_ok-ended.gone c.in_ok-gone.field-0
    c.in_ok-gone.was c.in_ok-ended.ensures.ok in
    f.within

pub returns-clause-given : goal.returns-clause-given
returns-clause-given g c =
    let f =
    ok_told (HasFinished g.M.D.Disk c.args.plan.now c.in_ok-rests.entered.items c.in_ok-ended.ended) c.in_ok-ended.gone c.in_ok-gone.field-0 c.in_ok-gone.was
    c.in_ok-ended.ensures.ok in
    record {
      last = f.last;
      serving = f.serving;
      items_are = f.last_is;
      back = record {
        disks = c.in_ok-ended.ended.disks.items;
        given = c.in_ok-give_back.ensures.given ∙ ap (λ before. before ++ map numbered c.in_ok-ended.ended.disks.items) c.entered_by.ensures.given;
        disks_are = f.disks_are;
        kept = f.kept;
      };
    }

pub returns-in_err-gone-clause-limit : goal.returns-in_err-gone-clause-limit
returns-in_err-gone-clause-limit g c =
    let r = c.in_ok-rests.ensures.rested in
    let d = g.M.D.Disk in
    let plan = c.args.plan.now in
    let before = g.M.DiskMaker.given c.args.disks.now in
    let after = g.M.DiskMaker.given c.give_back.new.disks in
    let error = c.in_err-gone.field-0.0 in
    limit_told (Leaves d g.J.Planned.strict plan before after) error c.from_residual-in_err-gone.result c.from_residual-in_err-gone.ensures.1
    (told d plan c.in_ok-rests.entered.items c.in_ok-ended.ended g.J.Planned.strict before after
    (c.in_ok-give_back.ensures.given ∙ ap (λ given. given ++ map numbered c.in_ok-ended.ended.disks.items) c.entered_by.ensures.given)
    c.in_ok-ended.gone error c.in_err-gone.was
    (λ is. c.in_ok-ended.ensures.strict_limit r.stopped fresh_disks r.resting (r.strictly is) (λ a. refl) (r.up is))
    c.in_ok-ended.ensures.limit)

-- want of memory tells of no limit
pub returns-in_err-ended-clause-limit : goal.returns-in_err-ended-clause-limit
returns-in_err-ended-clause-limit g c =
    let before = g.M.DiskMaker.given c.args.disks.now in
    let after = g.M.DiskMaker.given c.entered_by.new.disks in
    limit_told (Leaves g.M.D.Disk g.J.Planned.strict c.args.plan.now before after) OutOfMemory c.from_residual-in_err-ended.result
    c.from_residual-in_err-ended.ensures.1 tt

pub returns-in_err-give_back-clause-limit : goal.returns-in_err-give_back-clause-limit
returns-in_err-give_back-clause-limit g c =
    let before = g.M.DiskMaker.given c.args.disks.now in
    let after = g.M.DiskMaker.given c.give_back.new.disks in
    limit_told (Leaves g.M.D.Disk g.J.Planned.strict c.args.plan.now before after) OutOfMemory c.from_residual-in_err-give_back.result
    c.from_residual-in_err-give_back.ensures.1 tt
