use Rattle.std.proofs.Common.{◌≡◌, ◌+◌, ◌-◌, ℕ, List, Bool, subst, sym, ap, ◌∙◌, arith}
use Rattle.acc_txn.specs.declared.parts.BodyParts.{BodyParts}
use Rattle.acc_report_line.specs.declared.line.Line.{Line}
use Rattle.acc_audit.specs.Fronts.{before}
use Rattle.acc_audit.specs.Kept.{Holds}
use Rattle.acc_audit.specs.Rules.{rule_of, IsFirstFault}
use Rattle.acc_audit.proofs.FaultFacts.{all_kept, before-more, first_fault, kept_more}
use Rattle.acc_audit.proofs.LookupFacts.{stood_rise}
use Rattle.acc_audit.proofs.StepFacts.{holds_sized}
use Rattle.acc_audit.proofs.judge.fault_in.Goals as goal

pub loop-place-init : goal.loop-place-init
loop-place-init c = record {
  holds = c.requires.holds;
  kept = λ earlier rule low breaks. absurd (omega (arith, low));
}

pub step-requires-clause-sized : goal.step-requires-clause-sized
step-requires-clause-sized c =
    let all = c.args.against.now in
    holds_sized all.numbers.now all.bodies.now (before all.lines.now c.loop-place.place) c.loop-place.place c.loop-place.front c.requires.as_many c.loop-place.invariant.holds

pub step-requires-clause-rise : goal.step-requires-clause-rise
step-requires-clause-rise c =
    let looks = c.requires.looks in
    stood_rise looks.users c.args.against.now.bodies.now c.args.against.now.lookup.now looks.index.rise looks.stands

pub loop-place-preserved : goal.loop-place-preserved
loop-place-preserved c =
    let names : List (List ℕ) = c.args.against.now.numbers.now in
    let bodies : List BodyParts = c.args.against.now.bodies.now in
    let lines : List Line = c.args.against.now.lines.now in
    let place = c.loop-place.place in
    let line = c.index-lines-place.result in
    let before_it = c.loop-place.invariant in
    let rule = c.in_ok-rule.ensures.rule (before lines place) before_it.holds c.requires.looks ∙ ap (λ (last : Bool). rule_of names bodies lines (before lines place) last line) c.is_last-last.ensures in
    record {
      holds = subst (λ (ls : List Line). Holds names bodies ls (place + 1) c.step.new.front) (before-more lines place line c.loop-place-test.true c.index-lines-place.is) (c.in_ok-rule.ensures.holds c.in-None.is (before lines place) before_it.holds);
      kept = kept_more names bodies lines place line c.loop-place-test.true c.index-lines-place.is before_it.kept (sym c.in-None.is ∙ rule);
    }

pub returns-in-Some : goal.returns-in-Some
returns-in-Some c =
    let names : List (List ℕ) = c.args.against.now.numbers.now in
    let bodies : List BodyParts = c.args.against.now.bodies.now in
    let lines : List Line = c.args.against.now.lines.now in
    let place : ℕ = c.loop-place.place in
    let line = c.index-lines-place.result in
    let before_it = c.loop-place.invariant in
    let rule = c.in_ok-rule.ensures.rule (before lines place) before_it.holds c.requires.looks ∙ ap (λ (last : Bool). rule_of names bodies lines (before lines place) last line) c.is_last-last.ensures in
    let one_less : place ≡ place + 1 - 1 = omega arith in (
      omega arith,
      subst (λ (p : ℕ). IsFirstFault names bodies lines p c.in-Some.rule) one_less
          (first_fault names bodies lines place c.in-Some.rule line c.loop-place-test.true c.index-lines-place.is before_it.kept (sym c.in-Some.is ∙ rule)),
    )

pub returns : goal.returns
returns c =
    let all = c.args.against.now in
    all_kept all.numbers.now all.bodies.now all.lines.now c.loop-place.place c.requires.some (omega (arith, c.loop-place-test.false)) c.loop-place.invariant.kept
