-- A step sent what stands in the range of its head, and what isn't a step sent nothing.
use Rattle.std.proofs.Common.{sym, ◌∙◌}
use Rattle.acc_message.proofs.Joined.{sent_read, none_read}
use Rattle.acc_message.proofs.head.sent_by_head.Goals as goal

pub returns-then-is_step : goal.returns-then-is_step
returns-then-is_step c = λ notes item at.
    sent_read c.args.heads.now _ c.args.place c.requires.place notes c.args.messages.now c.sent_at.result.now item (sym c.is_step.ensures ∙ c.if-is_step.true) c.sent_at.ensures at

pub returns : goal.returns
returns c = λ notes item at.
    none_read c.args.heads.now _ c.args.place c.requires.place notes c.args.messages.now item (sym c.is_step.ensures ∙ c.if-is_step.false) at
