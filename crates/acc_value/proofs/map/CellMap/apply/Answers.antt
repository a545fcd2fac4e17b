-- The map is that of the cells which its entries hold.
use Rattle.std.proofs.Common.{sym, ap, ◌∙◌, cond, get_or, unwrap_or}
use Rattle.acc_value.specs.Key.{key_eq}
use Rattle.acc_value.specs.Pairs.{find}
use Rattle.acc_value.specs.Cells.{cells_of, map_of}
use Rattle.acc_value.proofs.EntryFacts.{cells_of-entries, same_cells, on_err, alone, only_write}
use Rattle.acc_value.proofs.map.CellMap.apply.Goals as goal

pub returns-in_err-reserve-clause-err : goal.returns-in_err-reserve-clause-err
returns-in_err-reserve-clause-err c =
    on_err c.from_residual-in_err-reserve.result
    (same_cells (map_of c.reserve.new.entries.entries) (map_of c.self.inside.entries.entries)
    (λ q. cells_of-entries c.reserve.new.entries q ∙ c.reserve.ensures.same q ∙ sym (cells_of-entries c.self.inside.entries q))
    ∙ c.self.view_is)

pub returns-clause-ok : goal.returns-clause-ok
returns-clause-ok c = λ key.
    let before = cells_of-entries c.self.inside.entries key in
    cells_of-entries c.write_cells.new.entries key
    ∙ c.write_cells.ensures key
    ∙ ap (unwrap_or (find c.pairs-pairs.result.now key)) (c.reserve.ensures.same key ∙ sym before ∙ ap (λ m. cells_of m key) c.self.view_is)
    ∙ ap (λ writes. unwrap_or (find writes key) (cells_of c.args.self.now key)) c.pairs-pairs.ensures.pairs

pub returns-in_err-write_one-clause-err : goal.returns-in_err-write_one-clause-err
returns-in_err-write_one-clause-err c =
    on_err c.from_residual.result
    (same_cells (map_of c.write_one.new.entries.entries) (map_of c.self.inside.entries.entries)
    (λ q. cells_of-entries c.write_one.new.entries q ∙ c.in_err-write_one.ensures.err q ∙ sym (cells_of-entries c.self.inside.entries q))
    ∙ c.self.view_is)

pub returns-in-len1-clause-ok : goal.returns-in-len1-clause-ok
returns-in-len1-clause-ok c = λ key.
    let pairs = c.pairs-pairs.result.now in
    let k = get_or pairs 0 c.index-pairs-0.result in
    let x = get_or pairs 0 c.index-pairs-0-then-pairs-lt2.result in
    let is = alone pairs c.index-pairs-0.result c.index-pairs-0-then-pairs-lt2.result c.in-len1.len_at_least c.in-len1.len_below in
    cells_of-entries c.write_one.new.entries key
    ∙ c.in_ok-write_one.ensures.ok key
    ∙ ap (cond (key_eq k.0 key) x.1) (sym (cells_of-entries c.self.inside.entries key) ∙ ap (λ m. cells_of m key) c.self.view_is)
    ∙ only_write (cells_of c.args.self.now) (k.0, x.1) key
    ∙ ap (λ writes. unwrap_or (find writes key) (cells_of c.args.self.now key)) (sym is ∙ c.pairs-pairs.ensures.pairs)
