use Rattle.std.proofs.Common.{MatchOption, Option, Bor, sym, ◌∙◌, subst}
use Rattle.acc_deps.specs.declared.records.View.{View}
use Rattle.acc_recover.specs.Rank.{HasNone, GoesFirst}
use Rattle.acc_recover.proofs.First.{first_stays, first_yields, first_alone}
use Rattle.acc_recover.proofs.ranking.first_of.Goals as goal
use Rattle.acc_recover.proofs.ranking.first_of.Goals.{in_default-via-in-Some+else-goes_before, in_default-via-in_default}

pub returns-in-Some : goal.returns-in-Some
returns-in-Some c = λ views h.
    first_stays c.args.view.now c.in-Some.first.now views
    (subst (λ (o : Option (Bor View)). MatchOption o (HasNone views) (λ first. GoesFirst views first.now)) c.in-Some.is h)
    (sym c.goes_before.ensures ∙ c.if-goes_before.true)

pub returns-in_default : goal.returns-in_default
returns-in_default c = λ views h.
    elim c.in_default.branch [
      | in_default-via-in-Some+else-goes_before w ↦
          first_yields c.args.view.now w.in-Some.first.now views
          (subst (λ (o : Option (Bor View)). MatchOption o (HasNone views) (λ first. GoesFirst views first.now)) w.in-Some.is h)
          (sym w.goes_before.ensures ∙ w.if-goes_before.false) (sym c.has_record.ensures ∙ c.if-has_record.true)
      | in_default-via-in_default w ↦
          first_alone c.args.view.now views
          (subst (λ (o : Option (Bor View)). MatchOption o (HasNone views) (λ first. GoesFirst views first.now)) w.in_default.is h)
          (sym c.has_record.ensures ∙ c.if-has_record.true)
    ]
