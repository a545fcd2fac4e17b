use Rattle.std.proofs.Common.{◌≡◌, true, sym, ◌∙◌}
use Rattle.acc_short.proofs.Tells.{messages_tell}
use Rattle.acc_short.proofs.message.are_sendable.Goals as goal

pub are_light-requires : goal.are_light-requires
are_light-requires c =
    let each : c.each_is_short.result ≡ true = c.if-not-each_is_short.false in
    messages_tell c.args.messages.now (sym c.each_is_short.ensures ∙ each)

pub returns-clause-short : goal.returns-clause-short
returns-clause-short c = λ light.
    let each : c.each_is_short.result ≡ true = c.if-not-each_is_short.false in
    messages_tell c.args.messages.now (sym c.each_is_short.ensures ∙ each)
