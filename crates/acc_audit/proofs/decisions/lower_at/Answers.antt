use Rattle.std.proofs.Common.{◌<◌, List, ℕ, Option, subst, sym}
use Rattle.acc_stamp.specs.declared.stamps.Stamp.{Stamp}
use Rattle.acc_audit.proofs.NumberFacts.{numbered}
use Rattle.acc_audit.proofs.LeastFacts.{lowered_at, lowered_none}
use Rattle.acc_audit.proofs.decisions.lower_at.Goals as goal

pub lower-requires : goal.lower-requires
lower-requires c =
    subst (λ (n : ℕ). c.in-Some.number < n) (sym c.requires.as_many) (numbered c.args.numbers.now c.args.name.now c.in-Some.number (sym c.in-Some.ensures)).0

pub returns-in-Some : goal.returns-in-Some
returns-in-Some c = λ (was : List ℕ → Option Stamp) are.
    lowered_at was c.args.numbers.now c.in-Some.number c.args.name.now c.args.t c.args.least.now.items c.lower.new.least.items c.requires.differ (sym c.in-Some.ensures) are c.lower.ensures

pub returns-in-None : goal.returns-in-None
returns-in-None c = λ (was : List ℕ → Option Stamp) are.
    lowered_none was c.args.numbers.now c.args.name.now c.args.t c.args.least.now.items c.in-None.ensures are
