use Rattle.std.proofs.Common.{sym, ap, ◌∙◌}
use Rattle.serde_json.specs.View.{view, members_view}
use Rattle.serde_json.specs.declared.value.Value.{Value}
use Rattle.acc_left.specs.Documents.{without_steps}
use Rattle.acc_left.proofs.DocumentFacts.{fields_put}
use Rattle.acc_left.proofs.document.with_journals.Goals as goal

pub returns-in_ok-insert-in-Object-2 : goal.returns-in_ok-insert-in-Object-2
returns-in_ok-insert-in-Object-2 c =
    fields_put c.in-Object.fields c.insert.new.self c.insert-in-Object.new.self c.args.journals c.new.result c.in_ok-schedule-in-Object.schedule c.in_ok-name-in-Object.name c.in_ok-schedule-in-Object.ensures.ok
    c.in_ok-name-in-Object.ensures.ok c.new.ensures.items c.in_ok-insert-in-Object.ensures.entries c.in_ok-insert-in-Object-2.ensures.entries
    ∙ ap (λ (v : Value). without_steps (view v) (members_view c.args.journals.entries)) (sym c.in-Object.is)
