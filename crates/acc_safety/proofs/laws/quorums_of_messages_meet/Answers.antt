use Rattle.acc_safety.proofs.Meetings.{majorities_meet, fast_meets_majority, fast_meets_fast, fast_meets_possible_fast, lost_meets_fast, impossible_meets_fast}
use Rattle.acc_safety.proofs.laws.quorums_of_messages_meet.Goals as goal

pub returns-clause-majorities : goal.returns-clause-majorities
returns-clause-majorities c = majorities_meet

pub returns-clause-fast_and_majority : goal.returns-clause-fast_and_majority
returns-clause-fast_and_majority c = fast_meets_majority

pub returns-clause-fast : goal.returns-clause-fast
returns-clause-fast c = fast_meets_fast

pub returns-clause-possible : goal.returns-clause-possible
returns-clause-possible c = fast_meets_possible_fast

pub returns-clause-lost : goal.returns-clause-lost
returns-clause-lost c = lost_meets_fast

pub returns-clause-ruled_out : goal.returns-clause-ruled_out
returns-clause-ruled_out c = impossible_meets_fast
