use Rattle.std.proofs.Common.{ap, ◌∙◌}
use Rattle.acc_record.specs.declared.record.Record.{Record}
use Rattle.acc_execute.specs.Owned.{with_proposed, with_decided}
use Rattle.acc_execute.proofs.own.copy_of.Goals as goal

pub returns : goal.returns
returns c =
    let there = c.args.there.now in
    c.in_ok-copy_all.ensures ∙ ap (λ (r : Record). with_decided there (with_proposed there r)) (c.get_mut.ensures.value ∙ c.in_ok-copy.ensures)
