use Rattle.std.proofs.Common.{ap, ◌∙◌}
use Rattle.std.specs.FinMap.{get-empty}
use Rattle.acc_value.specs.Key.{key_cmp}
use Rattle.acc_value.specs.Cells.{cells_of, map_of}
use Rattle.acc_value.proofs.map.CellMap.new.Goals as goal

pub returns : goal.returns
returns c = λ key. ap (λ entries. cells_of (map_of entries) key) c.new.ensures.empty ∙ get-empty key_cmp key
