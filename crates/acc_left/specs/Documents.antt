-- A document with the journals that its run left.
--     left_data d images      the document with no step and with these journals
--     IsLine d text      the text is this data as compact JSON, and a line feed
use Rattle.std.specs.Prelude.{◌≡◌, ◌≤◌, ℕ, List, [], ◌∷◌, ◌++◌, false, Some, IsUtf8, codes}
use Rattle.json.specs.Lex.{tokens}
use Rattle.json.specs.Print.{print}
use Rattle.serde_json.specs.Data.{Data, null, boolean, number, string, array, object, no_items, Members, no_members, put, depth}
use Rattle.serde_json.specs.Read.{max_depth, read}
use Rattle.serde_json.specs.Written.{compact_text, has_float, IsInOrder}
use Rattle.hex.specs.Hex.{encode_lower}
use Rattle.acc_schedule.specs.Actors.{actor_text}
use Rattle.acc_left.specs.declared.image.Image.{Image}

-- an object with this value in the field of this name; what is no object stays
abbrev pub with_field : List ℕ → Data → Data → Data
with_field name value null = null
with_field name value (boolean b) = boolean b
with_field name value (number n) = number n
with_field name value (string s) = string s
with_field name value (array items) = array items
with_field name value (object members) = object (put name value members)

-- from each actor, as it prints, to its journal in digits
abbrev pub journal_members : List Image → Members
journal_members [] = no_members
journal_members (image ∷ images) = put (actor_text image.actor) (string (encode_lower image.bytes)) (journal_members images)

-- the document with no step and with this object for its journals
abbrev pub without_steps : Data → Members → Data
without_steps d journals = with_field (codes "journals") (object journals) (with_field (codes "schedule") (array no_items) d)

abbrev pub left_data : Data → List Image → Data
left_data d images = without_steps d (journal_members images)

pub record IsLine (d : Data) (text : List ℕ) : Type 0 where
  pub json : List ℕ
  pub utf8 : IsUtf8 json
  pub line : text ≡ json ++ 10 ∷ []
  -- the text of data without a float, which no accepted document has
  pub exact : has_float d ≡ false → json ≡ compact_text d
  pub compact : json ≡ print (tokens json)
  pub order : IsInOrder json d
  pub reads : depth d ≤ max_depth → read json ≡ Some d
