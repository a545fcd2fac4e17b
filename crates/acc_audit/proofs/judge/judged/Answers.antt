use Rattle.std.proofs.Common.{Some, None, length, refl, ap, ◌∙◌}
use Rattle.acc_audit.proofs.NumberFacts.{once_differ}
use Rattle.acc_audit.proofs.RuleFacts.{found_same}
use Rattle.acc_audit.proofs.judge.judged.Goals as goal

pub first_fault-requires-clause-as_many : goal.first_fault-requires-clause-as_many
first_fault-requires-clause-as_many c = ap length c.as_slice.ensures ∙ c.requires.as_many

pub first_fault-requires-clause-differ : goal.first_fault-requires-clause-differ
first_fault-requires-clause-differ c = once_differ c.args.names.now c.stand_once.ensures

pub returns-in-Some : goal.returns-in-Some
returns-in-Some c =
    found_same c.args.names.now c.args.names.now c.as_slice.result.now c.args.bodies.now c.as_slice-2.result.now c.args.lines.now c.in_ok-fault.fault (Some (c.in-Some.line, c.in-Some.rule)) refl c.as_slice.ensures c.as_slice-2.ensures c.in-Some.is c.in_ok-fault.ensures

pub returns-in-None : goal.returns-in-None
returns-in-None c =
    found_same c.args.names.now c.args.names.now c.as_slice.result.now c.args.bodies.now c.as_slice-2.result.now c.args.lines.now c.in_ok-fault.fault None refl c.as_slice.ensures c.as_slice-2.ensures c.in-None.is c.in_ok-fault.ensures
