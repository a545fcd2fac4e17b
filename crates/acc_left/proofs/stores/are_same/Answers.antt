use Rattle.std.proofs.Common.{List, ℕ, ap, ◌∙◌}
use Rattle.std.specs.Str.{bytes_eq}
use Rattle.acc_txn.specs.BodySpelling.{body_bytes}
use Rattle.acc_left.proofs.BodyFacts.{same_code}
use Rattle.acc_left.proofs.stores.are_same.Goals as goal

pub returns : goal.returns
returns c =
    same_code c.args.one.now c.args.other.now c.eq.result c.code.ensures.numbered c.code-2.ensures.numbered
    (c.eq.ensures ∙ ap (λ (l : List ℕ). bytes_eq l c.code-2.result.now) c.code.ensures.spelled ∙ ap (bytes_eq (body_bytes c.args.one.now)) c.code-2.ensures.spelled)
