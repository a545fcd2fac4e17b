use Rattle.acc_world.proofs.TellsAttempts.{asked_last, first_since}
use Rattle.acc_world.proofs.attempt_laws.attempts_are_told_by_messages.Goals as goal

pub returns : goal.returns
returns c = record { phase = asked_last; answers = first_since }
