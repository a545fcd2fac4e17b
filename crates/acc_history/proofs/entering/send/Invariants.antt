use Rattle.std.proofs.Common.{◌≡◌, ◌+◌, ◌++◌, take}
use Rattle.acc_history.specs.Entering.{postings_of}
use Rattle.acc_history.proofs.entering.send.Given as goal

abbrev pub invariant-loop-index : goal.invariant-loop-index
invariant-loop-index l = record {
  sent : l.waiting.sent ≡ l.initial.waiting.sent ++ postings_of l.place 0 l.is_lost (take l.index l.messages);
  downs : l.waiting.downs ≡ l.initial.waiting.downs;
  room : l.waiting.room + l.index ≡ l.initial.waiting.room;
}
