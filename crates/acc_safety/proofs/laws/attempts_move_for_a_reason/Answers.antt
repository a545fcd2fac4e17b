use Rattle.acc_safety.proofs.NodeMoved.{attempt_moves}
use Rattle.acc_safety.proofs.NodeSent.{node_sends, node_notes}
use Rattle.acc_safety.proofs.laws.attempts_move_for_a_reason.Goals as goal

pub returns-clause-moves : goal.returns-clause-moves
returns-clause-moves c = attempt_moves

pub returns-clause-sends : goal.returns-clause-sends
returns-clause-sends c = node_sends

pub returns-clause-notes : goal.returns-clause-notes
returns-clause-notes c = node_notes
