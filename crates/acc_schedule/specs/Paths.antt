-- Where in a document something stands.
use Rattle.std.specs.Prelude.{ℕ, ◌==◌, List, [], ◌∷◌, codes, decimal, flat_map, if◌then◌else◌}

-- the names of fields and the places in arrays, from the root inwards
abbrev pub Path : Type 0
Path = List (List ℕ)

-- a JSON pointer
abbrev pub pointer : Path → List ℕ
pointer path = flat_map (λ part. 47 ∷ part) path

-- how a path prints
abbrev pub path_text : Path → List ℕ
path_text [] = codes "-"
path_text (part ∷ parts) = pointer (part ∷ parts)

-- a tilde is spelled `~0`, a slash `~1`
abbrev pub escaped_byte : ℕ → List ℕ
escaped_byte byte = if byte == 126 then codes "~0" else if byte == 47 then codes "~1" else byte ∷ []

abbrev pub escaped : List ℕ → List ℕ
escaped name = flat_map escaped_byte name

-- a field of the root
abbrev pub field_path : List ℕ → Path
field_path name = name ∷ []

-- an element of such a field
abbrev pub item_path : List ℕ → ℕ → Path
item_path list place = list ∷ decimal place ∷ []

-- a field of such an element
abbrev pub part_path : List ℕ → ℕ → List ℕ → Path
part_path list place name = list ∷ decimal place ∷ name ∷ []
