use Rattle.std.proofs.Common.{◌≡◌, true, false, Result, Ok, Err, sym, ◌∙◌}
use Rattle.std.specs.Prelude.{OnOk, OnErr}
use Rattle.std.specs.Result.{is_err}
use Rattle.std.proofs.lemmas.Bool.{true≢false}
use Rattle.acc_desk.proofs.Marked.{either, all_seated}
use Rattle.acc_desk.proofs.serving.serve.Goals as goal

-- what holds where no error came
on_ok : {A E P : Type 0} (r : Result A E) → is_err r ≡ false → OnOk r P → P
on_ok (Ok a) none h = h
on_ok (Err e) none h = absurd (true≢false none)

-- what holds in both cases
on_both : {A E P : Type 0} (r : Result A E) → OnOk r P → OnErr r P → P
on_both (Ok a) h other = h
on_both (Err e) other h = h

weaker : {A E P Q : Type 0} (r : Result A E) → (P → Q) → OnOk r P → OnOk r Q
weaker (Ok a) f h = f h
weaker (Err e) f h = h

pub returns-clause-sound : goal.returns-clause-sound
returns-clause-sound g c = λ none. on_ok c.rounds-served.result (sym c.is_err.ensures.value ∙ none) c.rounds-served.ensures.ok

-- what holds after an error
when_err : {A E P : Type 0} (r : Result A E) → is_err r ≡ true → OnErr r P → P
when_err (Ok a) some h = absurd (true≢false (sym some))
when_err (Err e) some h = h

weaker_err : {A E P Q : Type 0} (r : Result A E) → (P → Q) → OnErr r P → OnErr r Q
weaker_err (Ok a) f h = h
weaker_err (Err e) f h = f h

pub returns-clause-refused : goal.returns-clause-refused
returns-clause-refused g c = λ some. when_err c.rounds-served.result (sym c.is_err.ensures.value ∙ some) c.rounds-served.ensures.err

pub returns-clause-seated : goal.returns-clause-seated
returns-clause-seated g c =
    on_both c.rounds-served.result (weaker c.rounds-served.result (λ sound k d low. (sound k d low).seated) c.rounds-served.ensures.ok)
    (weaker_err c.rounds-served.result (all_seated g.D.Disk g.J.Planned.strict c.args.plan.now c.args.tape.now c.rounds-served.new.desks.items) c.rounds-served.ensures.err)

pub returns-clause-marked : goal.returns-clause-marked
returns-clause-marked g c = either c.rounds-served.result c.args.desks.items c.rounds-served.new.desks.items c.rounds-served.ensures.marked
