use Rattle.std.proofs.Common.{Option, Some, refl, sym, ap, ◌∙◌}
use Rattle.std.proofs.lemmas.Result.{IfErr-weaker}
use Rattle.acc_node.specs.Stands.{IsSame}
use Rattle.acc_node.proofs.Keys.{written_same}
use Rattle.acc_node.proofs.node.Node.hear_at.Goals as goal

pub returns-in-Some-clause-err : goal.returns-in-Some-clause-err
returns-in-Some-clause-err c =
    IfErr-weaker c.hear.result _ _
    (λ _ same.
    record {
      clock = refl;
      begun = λ _. refl;
      clients = λ _. refl;
      attempts = written_same c.args.self.now.attempts (c.get_mut.follows.lender c.hear.new.self) c.args.id c.hear.new.self (c.get_mut.follows.holds c.hear.new.self).0 (sym c.in-Some.ensures.value ∙ ap Some (sym (same ∙ c.get_mut-in-Some.ensures.value)));
    })
    c.hear.ensures.err
