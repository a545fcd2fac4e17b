use Rattle.std.proofs.Common.{max, refl, ap, ◌∙◌, rules}
use Rattle.std.specs.BTreeSet.{contains}
use Rattle.std.specs.Ordering.{nat_cmp}
use Rattle.acc_left.specs.declared.nodes.Told.{Told}
use Rattle.acc_left.proofs.NodeFacts.{begun_more, begun_same, tell_drawn, tell_marked}
use Rattle.acc_left.proofs.nodes.Told.enter.Goals as goal
use Rattle.acc_left.proofs.nodes.Told.enter.Goals.{then-eq+in_ok-insert-in-Draws, else-eq}

pub returns-in-Mark : goal.returns-in-Mark
returns-in-Mark c = λ start items tells. tell_marked start items c.args.payload.now c.args.self.now _ c.in-Mark.is tells refl refl refl

pub returns-after-eq : goal.returns-after-eq
returns-after-eq c = λ start items tells.
    elim c.if-eq.branch [
      | then-eq+in_ok-insert-in-Draws w ↦
          tell_drawn start items c.args.payload.now c.in-Draws.draw c.args.self.now _ c.in-Draws.is tells (ap (λ (t : Told). t.marked) w.self-is)
          (c.max-self.ensures ∙ ap (λ (t : Told). max t.greatest c.in-Draws.draw.h) w.self-is)
          (λ txn.
          ap (λ (t : Told). contains nat_cmp t.begun txn) w.self-is
          ∙ begun_more c.in-Draws.draw c.args.self.now.begun _ (search rules) w.in_ok-insert-in-Draws.ensures.updates txn)
      | else-eq w ↦
          tell_drawn start items c.args.payload.now c.in-Draws.draw c.args.self.now _ c.in-Draws.is tells (ap (λ (t : Told). t.marked) w.self-is)
          (c.max-self.ensures ∙ ap (λ (t : Told). max t.greatest c.in-Draws.draw.h) w.self-is)
          (λ txn.
          ap (λ (t : Told). contains nat_cmp t.begun txn) w.self-is ∙ begun_same c.in-Draws.draw c.args.self.now.begun (search rules) txn)
    ]
