use Rattle.std.proofs.Common.{sym, ◌∙◌}
use Rattle.acc_code.proofs.BodyFacts.{read_rules}
use Rattle.acc_code.proofs.body.take_fields.Goals as goal

pub new_unchecked-requires : goal.new_unchecked-requires
new_unchecked-requires c =
    read_rules _ _ c.in_ok-parts.parts c.in_ok-parts.ensures.bytes c.in_ok-parts.ensures.exact (sym c.has_key.ensures ∙ c.if-not-has_key.false)
