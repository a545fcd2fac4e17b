-- The cells were sent to the attempts so far.
use Rattle.std.proofs.Common.{◌≡◌, ◌++◌, map, take}
use Rattle.acc_message.specs.declared.answer.ReadAnswer.TheVariants.{Values}
use Rattle.acc_message.specs.StoreRules.{read_ok}
use Rattle.acc_opening.proofs.releasing.send_cells.Given as goal

abbrev pub invariant-loop-ballot : goal.invariant-loop-ballot
invariant-loop-ballot l = l.sent ≡ l.fn.sent ++ map (λ b. read_ok l.own l.id b (Values l.read)) (take l.ballot-index l.ballots)
