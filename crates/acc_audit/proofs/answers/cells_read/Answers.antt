use Rattle.std.proofs.Common.{◌≡◌, true, List, subst}
use Rattle.std.specs.List.{list_any}
use Rattle.acc_value.specs.declared.key.Key.{Key}
use Rattle.acc_value.specs.Key.{key_eq}
use Rattle.acc_value.specs.Cells.{cell_of, cells_of}
use Rattle.acc_txn.specs.declared.parts.Let.{Let}
use Rattle.acc_audit.proofs.AnswerFacts.{all_read}
use Rattle.acc_audit.proofs.answers.cells_read.Goals as goal

pub returns : goal.returns
returns c =
    let cells = cells_of c.args.cells.now in
    let bound = subst (λ (lets : List Let). (q : Key) → list_any (λ l. key_eq q l.key) lets ≡ true → cell_of c.in_ok-known.known q ≡ cells_of c.args.cells.now q) c.as_slice.ensures c.in_ok-known.ensures in
    all_read c.args.parts.now cells c.in_ok-known.known c.add_selected.new.known bound c.in_ok-add_selected.ensures
