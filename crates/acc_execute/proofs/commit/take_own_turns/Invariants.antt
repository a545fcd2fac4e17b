-- The turns so far are taken.
use Rattle.std.proofs.Common.{◌≡◌, take}
use Rattle.acc_opening.specs.Turns.{changes_in}
use Rattle.acc_execute.specs.Opened.{executed}
use Rattle.acc_execute.proofs.commit.take_own_turns.Given as goal

abbrev pub invariant-loop-turn : goal.invariant-loop-turn
invariant-loop-turn l = l.own ≡ executed (changes_in (take l.turn-index l.turns)) l.id l.initial.own
