use Rattle.std.proofs.Common.{◌≡◌, ◌≤◌, length, take}
use Rattle.acc_tape.specs.Messages.{messages_from}
use Rattle.acc_tape.specs.Kept.{after_messages}
use Rattle.acc_tape.proofs.board.note_messages.Given as goal

abbrev pub invariant-loop-index : goal.invariant-loop-index
invariant-loop-index g l = record {
  noted : l.posts ≡ after_messages (messages_from l.place 0 l.is_lost (take l.index (g.E.Posted.sent_to l.item))) l.initial.posts;
  within : l.index ≤ length (g.E.Posted.sent_to l.item);
}
