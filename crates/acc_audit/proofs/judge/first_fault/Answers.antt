use Rattle.std.proofs.Common.{◌≡◌, length, arith}
use Rattle.std.proofs.lemmas.Bool.Decides.{nat_tests}
use Rattle.acc_audit.proofs.FaultFacts.{empty_fault}
use Rattle.acc_audit.proofs.judge.first_fault.Goals as goal

pub returns-then-is_empty : goal.returns-then-is_empty
returns-then-is_empty c =
    let none : length c.args.lines.now ≡ 0 = grind (arith, nat_tests, c.if-is_empty.ensures) in
    (omega arith, empty_fault c.args.numbers.now c.args.bodies.now c.args.lines.now none)

pub fault_in-requires-clause-some : goal.fault_in-requires-clause-some
fault_in-requires-clause-some c = grind (arith, nat_tests, c.if-is_empty.ensures)

pub fault_in-requires-clause-holds : goal.fault_in-requires-clause-holds
fault_in-requires-clause-holds c = c.in_ok-front.ensures c.args.bodies.now

pub fault_in-requires-clause-looks : goal.fault_in-requires-clause-looks
fault_in-requires-clause-looks c = record { users = c.in_ok-users.users; index = c.in_ok-users.ensures; stands = c.in_ok-lookup.ensures }
