use Rattle.std.proofs.Common.{◌≡◌, Bool, true, false, List, ◌∷◌, ℕ, ◌∙◌, ap, subst}
use Rattle.acc_quorum.specs.Answers.{Answer}
use Rattle.acc_tally.specs.declared.tally.Tally.{Tally}
use Rattle.acc_tally.specs.Stands.{StandsFor as Counted, Counts}
use Rattle.acc_deps.specs.declared.records.View.{View}
use Rattle.acc_recover.proofs.Judging.{not_first}
use Rattle.acc_recover.proofs.Ruled.{counts_with, rules_all, waits_all}
use Rattle.acc_recover.proofs.recovery.Recovery.on_view.Goals as goal

pub returns-then-not-branch-clause-ok : goal.returns-then-not-branch-clause-ok
returns-then-not-branch-clause-ok c = λ x y a to s e.
    not_first c.args.topology.now x y c.args.self.now c.args.store to c.args.view.now a c.eq-unchanged.result c.first.new.self s e
    (counts_with c.args.self.now.tally c.in_ok-tally.tally c.first.new.self _ c.in_ok-first.field-0 false c.in_ok-tally.ensures c.if-not-branch.true c.in_ok-first.ensures.ok)

pub returns-then-majority_everywhere-clause-ok : goal.returns-then-majority_everywhere-clause-ok
returns-then-majority_everywhere-clause-ok c =
    rules_all c.args.topology.now c.requires.valid c.args.self.now c.args.store c.args.view.now c.eq-unchanged.result c.majority_everywhere.result c.first.new.self
    c.ruling.result _ c.as_slice.result.now c.as_slice.ensures c.eq-unchanged.ensures
    (counts_with c.args.self.now.tally c.in_ok-tally.tally c.first.new.self _ c.in_ok-first.field-0 true c.in_ok-tally.ensures c.if-not-branch.false c.in_ok-first.ensures.ok)
    c.majority_everywhere.ensures c.if-majority_everywhere.true c.ruling.ensures

pub returns-clause-ok : goal.returns-clause-ok
returns-clause-ok c =
    waits_all c.args.topology.now c.requires.valid c.args.self.now c.args.store c.args.view.now c.eq-unchanged.result c.majority_everywhere.result c.first.new.self
    c.insert.new.self c.eq-unchanged.ensures
    (counts_with c.args.self.now.tally c.in_ok-tally.tally c.first.new.self _ c.in_ok-first.field-0 true c.in_ok-tally.ensures c.if-not-branch.false c.in_ok-first.ensures.ok)
    c.majority_everywhere.ensures c.if-majority_everywhere.false
    (c.in_ok-insert.ensures.ok ∙ ap (λ (v : View). v ∷ c.args.self.now.views) c.in_ok-copy.ensures)
