-- What the key's entry holds.
use Rattle.std.proofs.Common.{ap, sym, ◌∙◌, Option, None, unwrap_or}
use Rattle.acc_value.specs.declared.value.Value.{Value}
use Rattle.acc_value.specs.Cells.{cells_of}
use Rattle.acc_value.proofs.EntryFacts.{cells_of-entries}
use Rattle.acc_value.proofs.map.CellMap.get.Goals as goal

pub returns-in-Some : goal.returns-in-Some
returns-in-Some c =
    c.as_ref.ensures.value
    ∙ ap (λ (o : Option (Option Value)). unwrap_or o None) c.in-Some.ensures.value
    ∙ sym (cells_of-entries c.self.inside.entries c.args.key.now)
    ∙ ap (λ m. cells_of m c.args.key.now) c.self.view_is

pub returns-in-None : goal.returns-in-None
returns-in-None c =
    ap (λ (o : Option (Option Value)). unwrap_or o None) c.in-None.ensures.value
    ∙ sym (cells_of-entries c.self.inside.entries c.args.key.now)
    ∙ ap (λ m. cells_of m c.args.key.now) c.self.view_is
