use Rattle.std.proofs.Common.{false, ◌∙◌, sym, subst}
use Rattle.acc_lang.specs.Grammar.{IsTextOf}
use Rattle.acc_print.proofs.reread.print_and_parse.Goals as goal

pub returns-in-Ok-parse : goal.returns-in-Ok-parse
returns-in-Ok-parse c =
    let is = c.in-Ok.ensures.cases.0 ∙ c.as_slice.ensures ∙ c.in_ok-text.ensures.canonical in
    c.in-Ok-parse.ensures.only c.args.body.now (subst (λ text. IsTextOf false text c.args.body.now) (sym is) (c.canonical_text_is_read.ensures.grammar_v1 c.requires))

pub unreachable-requires-in-Err-At : goal.unreachable-requires-in-Err-At
unreachable-requires-in-Err-At c =
    let is = c.in-Ok.ensures.cases.0 ∙ c.as_slice.ensures ∙ c.in_ok-text.ensures.canonical in
    let none = c.in-Err-At.ensures.only c.args.body.now (subst (λ text. IsTextOf false text c.args.body.now) (sym is) (c.canonical_text_is_read.ensures.grammar_v1 c.requires)) in
    cc
