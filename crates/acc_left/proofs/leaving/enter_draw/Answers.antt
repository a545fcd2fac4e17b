use Rattle.std.proofs.Common.{sym, ◌∙◌}
use Rattle.std.proofs.lemmas.Result.{on_ok_weaker}
use Rattle.acc_left.proofs.LeaveFacts.{draw_put}
use Rattle.acc_left.proofs.leaving.enter_draw.Goals as goal

pub returns-in_ok-put_mark-in-Some : goal.returns-in_ok-put_mark-in-Some
returns-in_ok-put_mark-in-Some c =
    on_ok_weaker c.put_draw.result
    (λ put payloads is.
    draw_put c.args.version payloads c.args.journal.now c.put_mark.new.out c.put_draw.new.out c.has_payload.result c.args.purpose c.args.txn c.in-Some.stamp _ is c.has_payload.ensures
    c.in_ok-put_mark-in-Some.ensures put (sym c.drawn_by.ensures ∙ c.in-Some.is)) c.put_draw.ensures
