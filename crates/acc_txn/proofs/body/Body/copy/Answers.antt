use Rattle.std.proofs.Common.{◌≡◌, subst, sym}
use Rattle.acc_txn.specs.Rules.{IsBody}
use Rattle.acc_txn.specs.Uses.{footprint_of}
use Rattle.acc_txn.specs.Short.{IsCodeOf}
use Rattle.acc_txn.proofs.body.Body.copy.Goals as goal

pub invariant_of-result : goal.invariant_of-result
invariant_of-result c =
    subst (λ content. IsBody content.parts × (content.uses ≡ footprint_of content.parts) × IsCodeOf content.parts content.code) (sym c.in_ok-try_clone.ensures) c.self.invariant
