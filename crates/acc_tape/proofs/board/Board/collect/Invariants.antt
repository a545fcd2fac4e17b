-- The oldest messages were found, as many as turns were made.
use Rattle.std.proofs.Common.{◌≡◌, All, length}
use Rattle.std.specs.Prelude.{vec_capacity}
use Rattle.acc_tape.specs.Messages.{AreOldest, IsSentBy, behind_all, behind_last, posts_in}
use Rattle.acc_tape.proofs.board.Board.collect.Given as goal

abbrev pub invariant-loop : goal.invariant-loop
invariant-loop g l = record {
  same : l.self ≡ l.initial.self;
  capacity : vec_capacity l.found ≡ vec_capacity l.initial.found;
  count : length l.found.items ≡ l.counter;
  last : behind_last l.last ≡ behind_all 0 (posts_in l.found.items);
  oldest : AreOldest g.E.Posted.took g.E.Posted.sent_to g.E.Posted.is_lost l.initial.self.items l.actor 0 (posts_in l.found.items);
  sent : All (IsSentBy g.E.Posted.is_sent l.initial.self.items) l.found.items;
}
