use Rattle.std.proofs.Common.{sym, ◌∙◌, ap, arith}
use Rattle.acc_message.specs.Items.{noted_in}
use Rattle.acc_message.specs.Shown.{with_sent}
use Rattle.acc_heal_laws.specs.Stages.{ballot_in}
use Rattle.acc_heal.proofs.Newest.{newest_at}
use Rattle.acc_heal.proofs.turns.newest_ballot.Goals as goal

pub returns-in-Step : goal.returns-in-Step
returns-in-Step c =
    let told = c.shown.ensures.0 in
    c.ballot_in.ensures
    ∙ sym
    (newest_at c.args.id c.args.items.now.items _ (with_sent c.shown.result told) (omega (arith, c.len-count.ensures, c.if-count-eq0.false)) c.shown.ensures.1
    ∙ ap (λ shown. ballot_in c.args.id (noted_in (with_sent shown told))) c.in-Step.is)

pub returns-in-Skipped : goal.returns-in-Skipped
returns-in-Skipped c =
    let told = c.shown.ensures.0 in
    sym
    (newest_at c.args.id c.args.items.now.items _ (with_sent c.shown.result told) (omega (arith, c.len-count.ensures, c.if-count-eq0.false)) c.shown.ensures.1
    ∙ ap (λ shown. ballot_in c.args.id (noted_in (with_sent shown told))) c.in-Skipped.is)

pub returns-in-Down : goal.returns-in-Down
returns-in-Down c =
    let told = c.shown.ensures.0 in
    sym
    (newest_at c.args.id c.args.items.now.items _ (with_sent c.shown.result told) (omega (arith, c.len-count.ensures, c.if-count-eq0.false)) c.shown.ensures.1
    ∙ ap (λ shown. ballot_in c.args.id (noted_in (with_sent shown told))) c.in-Down.is)
