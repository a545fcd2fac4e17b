use Rattle.acc_examples.proofs.Stepped.{opened_in_turn-holds, opened_in_turn-waiting}
use Rattle.acc_examples.proofs.actors.opened_in_turn.Goals as goal

pub returns : goal.returns
returns c = record { answers = opened_in_turn-holds; waiting = opened_in_turn-waiting }
