use Rattle.std.proofs.Common.{◌≡◌, ◌∙◌, length, rules, arith}
use Rattle.std.proofs.lemmas.Grind.{common_steps}
use Rattle.acc_base.proofs.ShortOrder.{front_is}
use Rattle.acc_base.proofs.short.front.Goals as goal

pub returns-clause-value : goal.returns-clause-value
returns-clause-value c =
    let long : length c.args.bytes.now ≡ 14 = first_of (search rules, grind (arith, common_steps)) in
    c.from_be_bytes.ensures ∙ front_is c.args.bytes.now long
