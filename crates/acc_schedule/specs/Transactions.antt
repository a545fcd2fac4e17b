-- The transactions of a document: their names, their homes and their texts.
use Rattle.std.specs.Prelude.{ℕ, ◌&&◌, ◌||◌, List, [], ◌∷◌, length, map, take, Bool, false, not, codes, nat_le, option_map, unwrap_or}
use Rattle.std.specs.Char.{is_ascii_digit, is_ascii_lowercase}
use Rattle.std.specs.List.{list_all, list_any}
use Rattle.std.specs.Str.{bytes_eq}
use Rattle.serde_json.specs.Data.{Data}
use Rattle.acc_txn.specs.declared.parts.BodyParts.{BodyParts}
use Rattle.acc_schedule.specs.declared.error.PlanKind.TheVariants.{Shape, Limit, Name}
use Rattle.acc_schedule.specs.Paths.{Path, field_path, item_path, part_path}
use Rattle.acc_base.specs.Faults.{◌then◌, must, each}
use Rattle.acc_schedule.specs.Faults.{Fault, bad}
use Rattle.acc_schedule.specs.Fields.{field, is_text, is_whole, items, list_fault, natural, number, object_fault, text}
use Rattle.acc_schedule.specs.Texts.{text_fault, text_body}

-- ---- names

-- a small letter or a digit
abbrev pub is_name_byte : ℕ → Bool
is_name_byte byte = is_ascii_lowercase byte || is_ascii_digit byte

-- 1 to 16 small letters and digits, a letter first
abbrev pub is_name : List ℕ → Bool
is_name [] = false
is_name (first ∷ others) = is_ascii_lowercase first && nat_le (length others) 15 && list_all is_name_byte others

-- none of the names before is this one
abbrev pub is_new : List (List ℕ) → List ℕ → Bool
is_new before name = not (list_any (bytes_eq name) before)

abbrev pub name_fault : List (List ℕ) → Path → Data → Fault
name_fault before path d =
    must (is_text d) (bad Shape path) then must (is_name (text d) && is_new before (text d)) (bad Name path)

-- ---- homes

-- the number of a node
abbrev pub is_one_of : (ℕ → Bool) → Data → Bool
is_one_of is_node d = unwrap_or (option_map is_node (natural d)) false

abbrev pub home_fault : (ℕ → Bool) → Path → Data → Fault
home_fault is_node path d = must (is_whole d) (bad Shape path) then must (is_one_of is_node d) (bad Name path)

-- ---- texts

abbrev pub body_fault : ℕ → Path → Data → Fault
body_fault version path d =
    must (is_text d) (bad Shape path) then must (nat_le (length (text d)) 8192) (bad Limit path) then text_fault version path (text d)

-- ---- transactions

abbrev pub name_of : Data → List ℕ
name_of d = text (field (codes "name") d)

abbrev pub names_of : Data → List (List ℕ)
names_of d = map name_of (items d)

abbrev pub transaction_fault : ℕ → (ℕ → Bool) → List (List ℕ) → ℕ → Data → Fault
transaction_fault version is_node before place d =
    object_fault (codes "name" ∷ codes "node" ∷ codes "text" ∷ []) [] (item_path (codes "txns") place) d
    then name_fault before (part_path (codes "txns") place (codes "name")) (field (codes "name") d)
    then home_fault is_node (part_path (codes "txns") place (codes "node")) (field (codes "node") d)
    then body_fault version (part_path (codes "txns") place (codes "text")) (field (codes "text") d)

abbrev pub transactions_fault : ℕ → (ℕ → Bool) → Data → Fault
transactions_fault version is_node d =
    list_fault 10000 (field_path (codes "txns")) d
    then each (λ place. transaction_fault version is_node (take place (names_of d)) place) 0 (items d)

-- ---- what they say

abbrev pub home_of : Data → ℕ
home_of d = number (field (codes "node") d)

abbrev pub body_of : ℕ → Data → BodyParts
body_of version d = text_body version (text (field (codes "text") d))

abbrev pub homes_of : Data → List ℕ
homes_of d = map home_of (items d)

abbrev pub bodies_of : ℕ → Data → List BodyParts
bodies_of version d = map (body_of version) (items d)
