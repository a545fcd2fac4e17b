-- The cells of keys.
use Rattle.std.proofs.Common.{Option}
use Rattle.acc_value.specs.declared.value.Value.{Value}

-- what a key holds, null where it holds nothing
abbrev pub Cell : Type 0
Cell = Option Value
