use Rattle.std.proofs.Common.{◌≡◌, ◌∙◌, length, rules, arith}
use Rattle.std.proofs.lemmas.Grind.{common_steps}
use Rattle.acc_base.proofs.ShortOrder.{back_is}
use Rattle.acc_base.proofs.short.back.Goals as goal

pub returns : goal.returns
returns c =
    let long : length c.args.bytes.now ≡ 14 = first_of (search rules, grind (arith, common_steps)) in
    c.from_be_bytes.ensures ∙ back_is c.args.bytes.now long
