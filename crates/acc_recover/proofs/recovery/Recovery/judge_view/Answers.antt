use Rattle.std.proofs.Common.{true, false, ◌∷◌, refl}
use Rattle.std.proofs.lemmas.Result.{IfOk-weaker}
use Rattle.acc_recover.specs.declared.judged.Judged.TheVariants.{Wait}
use Rattle.acc_recover.proofs.Judging.{not_first}
use Rattle.acc_recover.proofs.Ruled.{counts_with, rules_all, waits_all, would, would_all, JudgesAll, WouldJudgeAll}
use Rattle.acc_recover.proofs.recovery.Recovery.judge_view.Goals as goal

pub returns-then-not-branch : goal.returns-then-not-branch
returns-then-not-branch c = λ x y a to s e.
    would c.args.topology.now x c.args.self.now a _ Wait
    (not_first c.args.topology.now x y c.args.self.now c.args.store to c.args.view.now a c.eq-unchanged.result c.first.new.self s e
    (counts_with c.args.self.now.tally c.in_ok-tally.tally c.first.new.self _ c.in_ok-first.field-0 false c.in_ok-tally.ensures c.if-not-branch.true c.in_ok-first.ensures.ok))

pub returns-then-majority_everywhere : goal.returns-then-majority_everywhere
returns-then-majority_everywhere c =
    let layout = c.args.topology.now in
    let r = c.args.self.now in
    IfOk-weaker c.ruling.result (JudgesAll layout r r c.args.store c.args.view.now) (WouldJudgeAll layout r c.args.store c.args.view.now)
    (λ judged h. would_all layout r r c.args.store c.args.view.now judged h)
    (rules_all layout c.requires.valid r c.args.store c.args.view.now c.eq-unchanged.result c.majority_everywhere.result c.first.new.self
    c.ruling.result r c.as_slice.result.now c.as_slice.ensures c.eq-unchanged.ensures
    (counts_with r.tally c.in_ok-tally.tally c.first.new.self _ c.in_ok-first.field-0 true c.in_ok-tally.ensures c.if-not-branch.false c.in_ok-first.ensures.ok)
    c.majority_everywhere.ensures c.if-majority_everywhere.true c.ruling.ensures)

pub returns : goal.returns
returns c =
    let layout = c.args.topology.now in
    let r = c.args.self.now in
    let views = c.args.view.now ∷ r.views in
    would_all layout r (record { id = r.id; ballot = r.ballot; body = r.body; shards = r.shards; tally = c.first.new.self; views = views }) c.args.store c.args.view.now Wait
    (waits_all layout c.requires.valid r c.args.store c.args.view.now c.eq-unchanged.result c.majority_everywhere.result c.first.new.self
    views c.eq-unchanged.ensures
    (counts_with r.tally c.in_ok-tally.tally c.first.new.self _ c.in_ok-first.field-0 true c.in_ok-tally.ensures c.if-not-branch.false c.in_ok-first.ensures.ok)
    c.majority_everywhere.ensures c.if-majority_everywhere.false refl)
