-- The canonical text of a body. Reserved words are in capitals, and a space parts each two tokens, but for these: `,` and `;`
-- follow directly, `.` stands between its two words directly, brackets touch what they enclose, and a minus sign its number.
-- Where the grammar leaves a `;` open it is left out. A part that may follow another begins with its space.
use Rattle.std.specs.Prelude.{ℕ, Bool, true, false, ◌==◌, if◌then◌else◌, List, [], ◌∷◌, ◌++◌, slice_get, flat_map, codes}
use Rattle.std.specs.Option.{option_map_or}
use Rattle.std.specs.List.{join_by}
use Rattle.std.specs.Fmt.{signed_decimal}
use Rattle.acc_value.specs.declared.key.Key.{Key}
use Rattle.acc_txn.specs.declared.parts.Let.{Let}
use Rattle.acc_txn.specs.declared.parts.Select.{Select}
use Rattle.acc_txn.specs.declared.parts.Select.TheVariants.{Nothing, Names, Get}
use Rattle.acc_txn.specs.declared.parts.Operator.{Operator}
use Rattle.acc_txn.specs.declared.parts.Operator.TheVariants.{Equal, Differs, Less, AtMost, More, AtLeast}
use Rattle.acc_txn.specs.declared.parts.Term.{Term}
use Rattle.acc_txn.specs.declared.parts.Term.TheVariants.{Number, Name, Null, Text}
use Rattle.acc_txn.specs.declared.parts.Part.{Part}
use Rattle.acc_txn.specs.declared.parts.Condition.{Condition}
use Rattle.acc_txn.specs.declared.parts.Condition.TheVariants.{Compare, IsNull, IsNotNull}
use Rattle.acc_txn.specs.declared.parts.Update.{Update}
use Rattle.acc_txn.specs.declared.parts.Update.TheVariants.{Set, Delete}
use Rattle.acc_txn.specs.declared.parts.BodyParts.{BodyParts}

-- ---- keys

-- a quote inside a quoted text is written twice
abbrev pub quoted_byte : ℕ → List ℕ
quoted_byte byte = if byte == 39 then codes "''" else byte ∷ []

abbrev pub quoted : List ℕ → List ℕ
quoted text = codes "'" ++ flat_map quoted_byte text ++ codes "'"

unfoldable pub where_text : Key → List ℕ
where_text key = codes " WHERE k = " ++ quoted key.key

unfoldable pub get_text : Key → List ℕ
get_text key = codes "SELECT v FROM " ++ key.table ++ where_text key

unfoldable pub let_text : Let → List ℕ
let_text l = codes " LET " ++ l.name ++ codes " = (" ++ get_text l.key ++ codes ");"

-- ---- sums

-- the name that the LET of this number binds
abbrev pub name_of : List Let → ℕ → List ℕ
name_of lets number = option_map_or (λ l. l.name) (slice_get lets number) []

-- the cell of a name
abbrev pub cell_text : List Let → ℕ → List ℕ
cell_text lets number = name_of lets number ++ codes ".v"

abbrev pub term_text : List Let → Term → List ℕ
term_text lets (Number number) = signed_decimal number
term_text lets (Name number) = cell_text lets number
term_text lets Null = codes "NULL"
term_text lets (Text text) = quoted text

abbrev pub sign_text : Bool → List ℕ
sign_text true = codes " - "
sign_text false = codes " + "

-- a term after the first, with its sign
abbrev pub signed_text : List Let → Part → List ℕ
signed_text lets part = sign_text part.minus ++ term_text lets part.term

-- the first term has no sign
abbrev pub sum_text : List Let → List Part → List ℕ
sum_text lets [] = []
sum_text lets (part ∷ parts) = term_text lets part.term ++ flat_map (signed_text lets) parts

-- ---- conditions, updates and the select

abbrev pub operator_text : Operator → List ℕ
operator_text Equal = codes " = "
operator_text Differs = codes " != "
operator_text Less = codes " < "
operator_text AtMost = codes " <= "
operator_text More = codes " > "
operator_text AtLeast = codes " >= "

abbrev pub condition_text : List Let → Condition → List ℕ
condition_text lets (Compare op left right) = sum_text lets left ++ operator_text op ++ sum_text lets right
condition_text lets (IsNull number) = cell_text lets number ++ codes " IS NULL"
condition_text lets (IsNotNull number) = cell_text lets number ++ codes " IS NOT NULL"

unfoldable pub set_text : List Let → Key → List Part → List ℕ
set_text lets key sum = codes " UPDATE " ++ key.table ++ codes " SET v = " ++ sum_text lets sum ++ where_text key ++ codes ";"

unfoldable pub delete_text : Key → List ℕ
delete_text key = codes " DELETE FROM " ++ key.table ++ where_text key ++ codes ";"

abbrev pub update_text : List Let → Update → List ℕ
update_text lets (Set key sum) = set_text lets key sum
update_text lets (Delete key) = delete_text key

abbrev pub select_text : List Let → Select → List ℕ
select_text lets Nothing = []
select_text lets (Names numbers) = codes " SELECT " ++ join_by (cell_text lets) (codes ", ") numbers ++ codes ";"
select_text lets (Get key) = codes " " ++ get_text key ++ codes ";"

-- ---- the body

-- the updates, with the IF around them where there are conditions
abbrev pub action_text : List Let → List Condition → List Update → List ℕ
action_text lets [] updates = flat_map (update_text lets) updates
action_text lets (guard ∷ guards) updates =
    codes " IF " ++ join_by (condition_text lets) (codes " AND ") (guard ∷ guards) ++ codes " THEN" ++ flat_map (update_text lets) updates ++ codes " END IF"

abbrev pub canonical_text : BodyParts → List ℕ
canonical_text parts =
    codes "BEGIN TRANSACTION" ++ flat_map let_text parts.lets ++ select_text parts.lets parts.select
    ++ action_text parts.lets parts.guards parts.updates ++ codes " COMMIT TRANSACTION"
