-- Behind an earlier run nothing was entered yet, and its transactions are begun.
use Rattle.std.proofs.Common.{ap, ◌∙◌}
use Rattle.acc_message.specs.Growing.{Growing}
use Rattle.acc_history.proofs.Behind.{holds_behind}
use Rattle.acc_history.proofs.history.History.behind.Goals as goal

pub returns-clause-stands : goal.returns-clause-stands
returns-clause-stands c = λ earlier up known. record {
  holds = holds_behind earlier up _ _ (ap (λ (l : Growing). l.items) c.new-items.ensures) c.in_ok-waiting.ensures;
  begun = λ txn. c.in_ok-begun.ensures txn ∙ known txn;
}
