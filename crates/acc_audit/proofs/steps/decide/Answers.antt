use Rattle.std.proofs.Common.{◌<◌, ◌+◌, ◌||◌, ℕ, List, Bool, false, length, refl, subst, sym, ap, ◌∙◌}
use Rattle.std.specs.List.{list_any}
use Rattle.acc_txn.specs.declared.parts.BodyParts.{BodyParts}
use Rattle.acc_message.specs.declared.note.Path.{Path}
use Rattle.acc_report_line.specs.declared.line.Line.{Line}
use Rattle.acc_report_line.specs.declared.line.Line.TheVariants.{Decide}
use Rattle.acc_audit.specs.Said.{decides_another, decides_otherwise}
use Rattle.acc_audit.specs.Rules.{is_missed, rules}
use Rattle.acc_audit.proofs.NumberFacts.{numbered}
use Rattle.acc_audit.proofs.DecisionFacts.{disagreement, noted}
use Rattle.acc_audit.proofs.LookupFacts.{lookup_is}
use Rattle.acc_audit.proofs.MarkFacts.{marks_kept, marks_tell}
use Rattle.acc_audit.proofs.MissedFacts.{missed_is}
use Rattle.acc_audit.proofs.RuleFacts.{agreed, all_known, not_all_known}
use Rattle.acc_audit.proofs.steps.decide.Goals as goal

pub decide_marked-requires-clause-timestamps : goal.decide_marked-requires-clause-timestamps
decide_marked-requires-clause-timestamps c =
    subst (λ (n : ℕ). c.args.decision.now.number < n) (sym c.requires.as_many.1) (numbered c.args.numbers.now c.args.decision.now.name.now c.args.decision.now.number c.requires.number).0

pub returns-else-known-clause-rule : goal.returns-else-known-clause-rule
returns-else-known-clause-rule c = λ (bodies : List BodyParts) (earlier lines : List Line) (path : Path) many marks are lookup.
    let d = c.args.decision.now in
    ap (λ (b : Bool). rules b false (list_any (decides_otherwise d.name.now d.t) earlier || list_any (decides_another d.name.now d.t) earlier) (list_any (is_missed c.args.numbers.now bodies d.name.now d.t d.deps.now) lines) false false c.args.last)
    (not_all_known c.args.numbers.now d.name.now d.deps.now c.mark-known.result c.mark-known.ensures.known c.if-known.false)

pub returns-in_ok-rule-clause-rule : goal.returns-in_ok-rule-clause-rule
returns-in_ok-rule-clause-rule c = λ (bodies : List BodyParts) (earlier lines : List Line) (path : Path) many marks are lookup.
    let d = c.args.decision.now in
    let names : List (List ℕ) = c.args.numbers.now in
    let deps : List (List ℕ) = d.deps.now in
    let new : List ℕ = c.as_slice.result.now in
    let tell = λ (m : ℕ) (within : m < length names).
    marks_tell names deps marks.0 new d.place (c.as_slice.ensures.value ∙ c.mark-known.ensures.marked c.if-known.true marks.0 marks.1) marks.2 m within in
    let known = all_known names d.name.now deps d.number c.mark-known.result c.requires.number c.mark-known.ensures.known c.if-known.true in
    let disagrees = disagreement names earlier c.args.decisions.now d.number d.name.now d.t c.requires.number are in
    let within : d.number < length bodies = subst (λ (n : ℕ). d.number < n) (sym many) (numbered names d.name.now d.number c.requires.number).0 in
    let missed =
    lookup_is lookup.users bodies c.args.lookup.now d.number d.t new (d.place + 1) lookup.stands within
    ∙ missed_is names bodies lines lookup.users d.number d.name.now d.t deps new (d.place + 1) c.requires.differ c.requires.number lookup.index tell in
    c.in_ok-rule.ensures.rule ∙ (λ i. rules (known i) false (disagrees i) (missed i) false false c.args.last)

pub returns-in_ok-rule-clause-marks : goal.returns-in_ok-rule-clause-marks
returns-in_ok-rule-clause-marks c = λ none marks.
    let d = c.args.decision.now in
    marks_kept c.args.numbers.now d.deps.now marks.0 c.mark-known.new.marks.items d.place (c.mark-known.ensures.marked c.if-known.true marks.0 marks.1) marks.2

pub returns-in_ok-rule-clause-noted : goal.returns-in_ok-rule-clause-noted
returns-in_ok-rule-clause-noted c = λ none (earlier : List Line) (path : Path) are.
    let d = c.args.decision.now in
    let names : List (List ℕ) = c.args.numbers.now in
    noted names earlier (Decide d.name.now d.t path d.deps.now) c.args.decisions.now c.decide_marked.new.decisions d.number d.name.now d.t c.requires.differ c.requires.number refl are
    (sym (disagreement names earlier c.args.decisions.now d.number d.name.now d.t c.requires.number are) ∙ agreed _ _ c.args.last c.in_ok-rule.rule c.in_ok-rule.ensures.rule none)
    (c.in_ok-rule.ensures.timestamps none) (c.in_ok-rule.ensures.owners none)

pub returns-else-known-clause-marks : goal.returns-else-known-clause-marks
returns-else-known-clause-marks c = λ none marks. absurd cc

pub returns-else-known-clause-noted : goal.returns-else-known-clause-noted
returns-else-known-clause-noted c = λ none (earlier : List Line) (path : Path) are. absurd cc
