use Rattle.std.proofs.Common.{List, ℕ, Option, map, ap, ◌∙◌}
use Rattle.acc_stamp.specs.declared.stamps.Stamp.{Stamp}
use Rattle.acc_audit.specs.Said.{timestamp_of}
use Rattle.acc_audit.specs.Kept.{lowered}
use Rattle.acc_audit.proofs.decisions.lower_by.Goals as goal

pub returns-in-Some : goal.returns-in-Some
returns-in-Some c = λ (was : List ℕ → Option Stamp) are.
    c.lower_at.ensures was are
    ∙ ap (λ (said : Option (List ℕ × Stamp)). map (λ (name : List ℕ). lowered (was name) (timestamp_of name said)) c.args.numbers.now) c.in-Some.ensures

pub returns-in-None : goal.returns-in-None
returns-in-None c = λ (was : List ℕ → Option Stamp) are.
    are ∙ ap (λ (said : Option (List ℕ × Stamp)). map (λ (name : List ℕ). lowered (was name) (timestamp_of name said)) c.args.numbers.now) c.in-None.ensures
