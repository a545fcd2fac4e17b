use Rattle.acc_safety.proofs.Attempted.{answers_of, origin_of}
use Rattle.acc_safety.proofs.Polled.{polled}
use Rattle.acc_safety.proofs.laws.answers_come_from_stores.Goals as goal

pub returns-clause-taken : goal.returns-clause-taken
returns-clause-taken c = answers_of

pub returns-clause-origin : goal.returns-clause-origin
returns-clause-origin c = origin_of

pub returns-clause-polled : goal.returns-clause-polled
returns-clause-polled c = polled
