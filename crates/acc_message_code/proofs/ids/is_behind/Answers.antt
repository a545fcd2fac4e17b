-- The last of them is the greatest.
use Rattle.std.proofs.Common.{◌≡◌, ◌∙◌, sym, rules}
use Rattle.acc_stamp.specs.Stamp.{id_lt}
use Rattle.acc_message_code.proofs.Rising.{behind, rising_snoc}
use Rattle.acc_message_code.proofs.ids.is_behind.Goals as goal

pub returns-in-Some-clause-value : goal.returns-in-Some-clause-value
returns-in-Some-clause-value c =
    let e : c.lt.result ≡ id_lt c.in-Some.last.now c.args.id = search rules in
    e ∙ sym (behind c.args.front.now c.in-Some.last.now c.args.id c.requires c.in-Some.ensures.value)

pub returns-in-Some-clause-rises : goal.returns-in-Some-clause-rises
returns-in-Some-clause-rises c =
    λ h. rising_snoc c.args.front.now c.args.id c.requires (sym (returns-in-Some-clause-value c) ∙ h)
