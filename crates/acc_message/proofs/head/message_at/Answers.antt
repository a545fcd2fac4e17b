-- The item at a place sent what its head says.
use Rattle.std.proofs.Common.{arith, ◌∙◌}
use Rattle.acc_message.proofs.Joined.{sent_there, nothing_behind, lent}
use Rattle.acc_message.proofs.head.message_at.Goals as goal

pub returns-then-place-heads : goal.returns-then-place-heads
returns-then-place-heads c = λ notes.
    nothing_behind c.args.heads.now notes c.args.messages.now c.args.place c.args.index (omega (arith, c.if-place-heads.true))

pub returns : goal.returns
returns c = λ notes.
    lent c.sent_by_head.result.now c.args.index _ c.get.result c.get.ensures.lookup.1 c.get.ensures.lookup.3
    ∙ sent_there c.args.heads.now notes c.args.messages.now c.sent_by_head.result.now c.args.place c.args.index (omega (arith, c.if-place-heads.false)) (c.sent_by_head.ensures notes)
