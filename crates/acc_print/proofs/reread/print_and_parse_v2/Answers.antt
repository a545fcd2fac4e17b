use Rattle.std.proofs.Common.{true, ◌∙◌, sym, subst}
use Rattle.acc_lang.specs.Grammar.{IsTextOf}
use Rattle.acc_print.proofs.reread.print_and_parse_v2.Goals as goal

pub returns-in-Ok-parse_v2 : goal.returns-in-Ok-parse_v2
returns-in-Ok-parse_v2 c =
    let is = c.in-Ok.ensures.cases.0 ∙ c.as_slice.ensures ∙ c.in_ok-text.ensures.canonical in
    c.in-Ok-parse_v2.ensures.only c.args.body.now (subst (λ text. IsTextOf true text c.args.body.now) (sym is) c.canonical_text_is_read.ensures.grammar)

pub unreachable-requires-in-Err-At : goal.unreachable-requires-in-Err-At
unreachable-requires-in-Err-At c =
    let is = c.in-Ok.ensures.cases.0 ∙ c.as_slice.ensures ∙ c.in_ok-text.ensures.canonical in
    let none = c.in-Err-At.ensures.only c.args.body.now (subst (λ text. IsTextOf true text c.args.body.now) (sym is) c.canonical_text_is_read.ensures.grammar) in
    cc
