use Rattle.std.proofs.Common.{◌≡◌, ◌++◌, sym, subst, ap, ◌∙◌}
use Rattle.std.specs.Str.{IsUtf8}
use Rattle.acc_print.specs.Canonical.{canonical_text}
use Rattle.acc_print.proofs.CanonicalUtf8.{canonical-IsUtf8}
use Rattle.acc_print.proofs.body.print.Goals as goal

pub returns-clause-utf8 : goal.returns-clause-utf8
returns-clause-utf8 c =
    let is : c.from_vec.result ≡ canonical_text c.args.body.now =
    c.from_vec.ensures ∙ c.in_ok-push_body.ensures ∙ ap (λ text. text ++ canonical_text c.parts.result.now) c.new-text.ensures.items
    ∙ ap canonical_text c.parts.ensures.parts in
    subst IsUtf8 (sym is) (canonical-IsUtf8 c.args.body.now c.parts.ensures.keeps_rules)
