-- The entries of a map's keys. One that holds null is reserved for a value, and is no cell.
use Rattle.std.specs.Prelude.{Bool, List, Option, None, unwrap_or, is_none, is_some, ◌||◌, IsTrue}
use Rattle.std.specs.List.{list_all}
use Rattle.std.specs.BTreeMap as tree
use Rattle.acc_value.specs.declared.key.Key.{Key}
use Rattle.acc_value.specs.declared.value.Value.{Value}
use Rattle.acc_value.specs.Key.{key_cmp}

abbrev pub Entries : Type 0
Entries = tree.BTreeMap Key (Option Value)

-- the cell that a key's entry holds
abbrev pub held : Entries → Key → Option Value
held entries key = unwrap_or (tree.get key_cmp entries key) None

-- the key has an entry
abbrev pub has_entry : Entries → Key → Bool
has_entry entries key = is_some (tree.get key_cmp entries key)

-- each key that gets a value has an entry
abbrev pub IsReserved : Entries → List (Key × Option Value) → Type 0
IsReserved entries writes = IsTrue (list_all (λ w. is_none w.1 || has_entry entries w.0) writes)
