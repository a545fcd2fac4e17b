use Rattle.std.proofs.Common.{ap, ◌∙◌}
use Rattle.std.proofs.lemmas.List.{take_all}
use Rattle.acc_report.specs.Report.{number_in}
use Rattle.acc_report.proofs.Steps.{number_in_more}
use Rattle.acc_report.proofs.names.numbers_in.Goals as goal

pub loop-entry-preserved : goal.loop-entry-preserved
loop-entry-preserved c = λ x.
    number_in_more c.as_slice-entry-items.result.now c.loop-entry.entry-index _ _ _ x c.loop-entry-test.true (c.in_ok-enter.ensures x) (c.loop-entry.invariant x)

pub returns : goal.returns
returns c = λ x.
    c.loop-entry.invariant x
    ∙ ap (λ entries. number_in entries x) (take_all c.loop-entry.entry-index c.as_slice-entry-items.result.now c.loop-entry-test.false)
    ∙ ap (λ entries. number_in entries x) c.as_slice-entry-items.ensures
