-- The lines so far are written, and the others follow.
use Rattle.std.proofs.Common.{◌≡◌, ◌++◌, drop}
use Rattle.acc_glance.specs.Texts.{seens_text, seens_text_from}
use Rattle.acc_glance.proofs.texts.looks_text.Given as goal

abbrev pub invariant-loop-number : goal.invariant-loop-number
invariant-loop-number l = l.text.items ++ seens_text_from l.number (drop l.number l.seen-items) ≡ seens_text l.seens
