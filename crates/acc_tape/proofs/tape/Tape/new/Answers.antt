use Rattle.std.proofs.Common.{◌∙◌, sym, subst, [], ◌∷◌, ◌++◌}
use Rattle.atomic_table.specs.Table.{opening}
use Rattle.acc_tape.specs.declared.content.Limits.{Limits}
use Rattle.acc_tape.specs.Rule.{Holds, first_view}
use Rattle.acc_tape.proofs.Steps.{starts}
use Rattle.acc_tape.proofs.tape.Tape.new.Goals as goal

pub new-requires-2 : goal.new-requires-2
new-requires-2 g c =
    let limits : Limits = record { items = c.args.items; weight = c.args.weight } in
    subst (λ slots. Holds g.E.Posted.actor_of limits (opening (0 ∷ 0 ∷ []) slots (first_view limits)))
    (sym (c.push_reserved.ensures.items ∙ (λ k. c.in_ok-slots.ensures.items k ++ c.in_ok-board.ensures k ∷ [])))
    (starts g.E.Posted.actor_of limits)
