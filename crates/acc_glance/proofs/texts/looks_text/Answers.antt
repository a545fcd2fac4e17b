use Rattle.std.proofs.Common.{ℕ, List, ◌++◌, ◌∙◌, ap}
use Rattle.acc_glance.specs.Texts.{seen_text, seens_text_from}
use Rattle.acc_glance.proofs.Lines.{line_more, lines_over}
use Rattle.acc_glance.proofs.texts.looks_text.Goals as goal

pub loop-number-init : goal.loop-number-init
loop-number-init c =
    ap (λ (t : List ℕ). t ++ seens_text_from 0 c.as_slice-seen-items.result.now) c.new-text.ensures.items ∙ ap (seens_text_from 0) c.as_slice-seen-items.ensures

pub loop-number-preserved : goal.loop-number-preserved
loop-number-preserved c =
    line_more c.as_slice-seen-items.result.now c.args.seens.now c.loop-number.number c.seen-item.result c.loop-number.text.items c.push_seen.new.text.items c.loop-number-test.true
    (c.in_ok-push_seen.ensures ∙ ap (λ s. c.loop-number.text.items ++ seen_text c.loop-number.number s) c.seen-item.is) c.loop-number.invariant

pub returns : goal.returns
returns c =
    c.from_vec.ensures
    ∙ lines_over c.as_slice-seen-items.result.now c.args.seens.now c.loop-number.number c.loop-number.text.items c.loop-number-test.false c.loop-number.invariant
