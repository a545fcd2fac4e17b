use Rattle.std.proofs.Common.{false, ap, sym, ◌∙◌, option_copied}
use Rattle.std.proofs.lemmas.Bool.{true≢false}
use Rattle.acc_left.proofs.BodyFacts.{body_is, body_none}
use Rattle.acc_left.proofs.stores.brings.Goals as goal

pub returns-in-Some : goal.returns-in-Some
returns-in-Some c =
    body_is _ c.in-Some.other.now c.args.body.now c.are_same.result (sym c.brought.ensures ∙ ap option_copied c.in-Some.is) c.are_same.ensures

pub returns-in-None : goal.returns-in-None
returns-in-None c = body_none _ c.args.body.now false (sym c.brought.ensures ∙ ap option_copied c.in-None.is) (λ e. true≢false (sym e))
