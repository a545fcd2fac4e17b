use Rattle.std.proofs.Common.{◌≡◌, ℕ, ◌<◌, ◌^◌, List, sym, ap, subst, ◌∙◌}
use Rattle.std.specs.Prelude.{All}
use Rattle.acc_message.specs.declared.message.Message.{Message}
use Rattle.acc_message_code.specs.Short.{IsShortMessage}
use Rattle.acc_message_code.specs.Weight.{weight_of_all}
use Rattle.acc_recover.specs.declared.judged.Judged.{Judged}
use Rattle.acc_recover.specs.Stands.{WouldJudgeAs}
use Rattle.acc_node.proofs.Sending.{choice_sends}
use Rattle.acc_node.proofs.step_weight.weigh_judged.Goals as goal

pub messages_length-requires-clause-short : goal.messages_length-requires-clause-short
messages_length-requires-clause-short c =
    let layout = c.args.topology.now in
    let recovery = c.args.recovery.now in
    let q = c.requires in
    let h = subst (λ (j : Judged). WouldJudgeAs layout c.args.id q.attempt q.reaction j) c.in-Go.is q.judges in
    let sent = choice_sends layout c.args.id recovery c.in-Go.choice c.ballot-ballot.result c.body.result.now _ c.in_ok-emitted-in-Go.emitted
    (λ a s. c.ballot-ballot.ensures layout c.args.id a s) (λ a s. c.body.ensures layout c.args.id a s) c.in_ok-emitted-in-Go.ensures q.attempt q.reaction q.stands h in
    subst (All IsShortMessage) (sym (c.as_slice.ensures ∙ sent)) q.short

pub messages_length-requires-clause-fits : goal.messages_length-requires-clause-fits
messages_length-requires-clause-fits c =
    let layout = c.args.topology.now in
    let recovery = c.args.recovery.now in
    let q = c.requires in
    let h = subst (λ (j : Judged). WouldJudgeAs layout c.args.id q.attempt q.reaction j) c.in-Go.is q.judges in
    let sent = choice_sends layout c.args.id recovery c.in-Go.choice c.ballot-ballot.result c.body.result.now _ c.in_ok-emitted-in-Go.emitted
    (λ a s. c.ballot-ballot.ensures layout c.args.id a s) (λ a s. c.body.ensures layout c.args.id a s) c.in_ok-emitted-in-Go.ensures q.attempt q.reaction q.stands h in
    subst (λ (list : List Message). weight_of_all list < 2 ^ 64) (sym (c.as_slice.ensures ∙ sent)) q.fits

pub returns-in-Go : goal.returns-in-Go
returns-in-Go c = λ a r s judges.
    let layout = c.args.topology.now in
    let recovery = c.args.recovery.now in
    let h = subst (λ (j : Judged). WouldJudgeAs layout c.args.id a r j) c.in-Go.is judges in
    let sent = choice_sends layout c.args.id recovery c.in-Go.choice c.ballot-ballot.result c.body.result.now _ c.in_ok-emitted-in-Go.emitted
    (λ b t. c.ballot-ballot.ensures layout c.args.id b t) (λ b t. c.body.ensures layout c.args.id b t) c.in_ok-emitted-in-Go.ensures a r s h in
    c.messages_length.ensures ∙ ap weight_of_all (c.as_slice.ensures ∙ sent)
