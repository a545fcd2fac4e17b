-- The bodies that the texts of generated transactions say.
use Rattle.std.specs.Prelude.{ℕ, ◌%◌, nat_lt, if◌then◌else◌, pos, false, [], ◌∷◌, ◌++◌, codes}
use Rattle.acc_value.specs.declared.key.Key.{Key}
use Rattle.acc_txn.specs.declared.parts.Select.TheVariants.{Nothing, Names}
use Rattle.acc_txn.specs.declared.parts.Term.TheVariants.{Number, Name}
use Rattle.acc_txn.specs.declared.parts.Part.{Part}
use Rattle.acc_txn.specs.declared.parts.Update.TheVariants.{Set}
use Rattle.acc_txn.specs.declared.parts.BodyParts.{BodyParts}
use Rattle.acc_generator.specs.Draws.{draw_after}
use Rattle.acc_generator.specs.Texts.{state_before, two_digits}

abbrev pub key_of : ℕ → Key
key_of n = record { table = codes "t"; key = codes "k" ++ two_digits n }

abbrev pub number_part : ℕ → Part
number_part n = record { minus = false; term = Number (pos n) }

-- sets a key to its number
abbrev pub first_body : ℕ → BodyParts
first_body key = record { lets = []; select = Nothing; guards = []; updates = Set (key_of key) (number_part key ∷ []) ∷ [] }

-- the cell of the only name
abbrev pub cell_part : Part
cell_part = record { minus = false; term = Name 0 }

-- answers the cell of a key, and sets another key to it and a number more
abbrev pub later_body : ℕ → ℕ → ℕ → BodyParts
later_body read written added = record {
  lets = record { name = codes "r"; key = key_of read } ∷ [];
  select = Names (0 ∷ []);
  guards = [];
  updates = Set (key_of written) (cell_part ∷ number_part added ∷ []) ∷ [];
}

-- the body of the transaction of this number, with the draws that follow on a state
unfoldable pub body_from : ℕ → ℕ → BodyParts
body_from state number =
    if nat_lt number 64 then first_body number
    else later_body (draw_after state 0 % 64) (draw_after state 1 % 64) (draw_after state 2 % 100)

abbrev pub body_of : ℕ → ℕ → BodyParts
body_of seed number = body_from (state_before seed number) number
