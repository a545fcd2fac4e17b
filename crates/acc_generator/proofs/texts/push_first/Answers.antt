use Rattle.std.proofs.Common.{ℕ, List, ◌++◌, ap, ◌∙◌, append_assoc}
use Rattle.std.proofs.lemmas.Result.{on_ok_weaker}
use Rattle.acc_generator.specs.Texts.{end_text}
use Rattle.acc_generator.proofs.texts.push_first.Goals as goal

pub returns : goal.returns
returns c =
    on_ok_weaker c.push_end.result (λ e. e ∙ ap (λ (t : List ℕ). t ++ end_text c.args.key) c.in_ok-write.ensures.bytes ∙ append_assoc _ _ (end_text c.args.key)) c.push_end.ensures
