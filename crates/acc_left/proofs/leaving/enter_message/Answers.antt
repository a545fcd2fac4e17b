use Rattle.std.proofs.Common.{sym, ◌∙◌, ap, option_copied}
use Rattle.std.proofs.lemmas.Result.{on_ok_weaker}
use Rattle.acc_left.proofs.LeaveFacts.{message_put}
use Rattle.acc_left.proofs.leaving.enter_message.Goals as goal

pub put_taken-requires : goal.put_taken-requires
put_taken-requires c =
    let told = c.requires.told in
    c.requires.short told.0 c.args.number c.in-Some.m.now told.1 (sym (c.message.ensures told.0 told.1) ∙ ap option_copied c.in-Some.is)

pub returns-in_ok-put_mark-in-Some : goal.returns-in_ok-put_mark-in-Some
returns-in_ok-put_mark-in-Some c =
    on_ok_weaker c.put_taken.result
    (λ put entered payloads tells is.
    message_put c.args.version payloads c.args.journal.now c.put_mark.new.out c.put_taken.new.out c.has_payload.result c.in-Some.m.now _ is c.has_payload.ensures
    c.in_ok-put_mark-in-Some.ensures put (sym (c.message.ensures entered tells) ∙ ap option_copied c.in-Some.is)) c.put_taken.ensures
