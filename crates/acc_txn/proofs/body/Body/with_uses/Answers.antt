use Rattle.std.proofs.Common.{◌≡◌, subst, sym}
use Rattle.acc_txn.specs.Rules.{IsBody}
use Rattle.acc_txn.specs.Uses.{footprint_of}
use Rattle.acc_txn.specs.Short.{IsCodeOf}
use Rattle.acc_txn.proofs.body.Body.with_uses.Goals as goal

pub invariant_of-result : goal.invariant_of-result
invariant_of-result c =
    subst (λ content. IsBody content.parts × (content.uses ≡ footprint_of content.parts) × IsCodeOf content.parts content.code) (sym c.in_ok-new.ensures.ok) (c.requires.keeps_rules, c.requires.uses, c.in_ok-code.ensures)
