-- The keys that a body reads and writes.
use Rattle.std.specs.Prelude.{Bool, true, false, List, [], ◌∷◌, ◌++◌, map}
use Rattle.std.specs.List.{fold, list_any}
use Rattle.acc_value.specs.declared.key.Key.{Key}
use Rattle.acc_value.specs.Key.{key_eq}
use Rattle.acc_value.specs.Footprint.{used}
use Rattle.acc_txn.specs.declared.parts.Select.{Select}
use Rattle.acc_txn.specs.declared.parts.Select.TheVariants.{Nothing, Names, Get}
use Rattle.acc_txn.specs.declared.parts.Update.{Update}
use Rattle.acc_txn.specs.declared.parts.Update.TheVariants.{Set, Delete}
use Rattle.acc_txn.specs.declared.parts.BodyParts.{BodyParts}

-- the key of a select that reads one
abbrev pub selected_keys : Select → List Key
selected_keys Nothing = []
selected_keys (Names names) = []
selected_keys (Get key) = key ∷ []

abbrev pub updated_key : Update → Key
updated_key (Set key value) = key
updated_key (Delete key) = key

-- the keys that LETs name, and the one that a select by key names
abbrev pub read_keys : BodyParts → List Key
read_keys parts = map (λ l. l.key) parts.lets ++ selected_keys parts.select

-- the keys that updates name, also after conditions that may turn out false
abbrev pub written_keys : BodyParts → List Key
written_keys parts = map updated_key parts.updates

-- a footprint with these keys more, all of them read or all of them written
abbrev pub with_keys : Bool → List (Key × Bool) → List Key → List (Key × Bool)
with_keys writes uses keys = fold (λ so_far key. used so_far key writes) uses keys

abbrev pub footprint_of : BodyParts → List (Key × Bool)
footprint_of parts = with_keys true (with_keys false [] (read_keys parts)) (written_keys parts)

-- whether a body reads the key
abbrev pub is_read : BodyParts → Key → Bool
is_read parts key = list_any (key_eq key) (read_keys parts)

-- whether some update of a body writes the key
abbrev pub is_updated : BodyParts → Key → Bool
is_updated parts key = list_any (key_eq key) (written_keys parts)
