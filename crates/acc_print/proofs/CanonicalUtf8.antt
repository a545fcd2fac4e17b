-- The canonical text of a body is UTF-8.
use Rattle.std.proofs.Common.{◌≡◌, ℕ, zero, suc, Bool, true, false, not, ◌||◌, List, [], ◌∷◌, ◌++◌, refl}
use Rattle.std.specs.Prelude.{codes, nat_lt}
use Rattle.std.specs.List.{flat_map, join_by, list_any, list_all}
use Rattle.std.specs.Str.{IsUtf8, IsAscii}
use Rattle.std.proofs.lemmas.Bool.{or_parts, and_parts, not-false, ltb-true}
use Rattle.std.proofs.lemmas.Str.{IsUtf8-append, IsUtf8-nil, IsUtf8-from_ascii}
use Rattle.std.proofs.lemmas.Str.Ascii.{IsAscii-cons, IsAscii-nil}
use Rattle.acc_value.specs.declared.key.Key.{Key}
use Rattle.acc_txn.specs.declared.parts.Let.{Let}
use Rattle.acc_txn.specs.declared.parts.Select.{Select}
use Rattle.acc_txn.specs.declared.parts.Select.TheVariants.{Nothing, Names, Get}
use Rattle.acc_txn.specs.declared.parts.Operator.{Operator}
use Rattle.acc_txn.specs.declared.parts.Operator.TheVariants.{Equal, Differs, Less, AtMost, More, AtLeast}
use Rattle.acc_txn.specs.declared.parts.Term.{Term}
use Rattle.acc_txn.specs.declared.parts.Term.TheVariants.{Number, Name, Null, Text}
use Rattle.acc_txn.specs.declared.parts.Part.{Part}
use Rattle.acc_txn.specs.declared.parts.Condition.{Condition}
use Rattle.acc_txn.specs.declared.parts.Condition.TheVariants.{Compare, IsNull, IsNotNull}
use Rattle.acc_txn.specs.declared.parts.Update.{Update}
use Rattle.acc_txn.specs.declared.parts.Update.TheVariants.{Set, Delete}
use Rattle.acc_txn.specs.declared.parts.BodyParts.{BodyParts}
use Rattle.acc_txn.specs.Words.{is_name, is_key, is_key_text, is_text_value}
use Rattle.acc_txn.specs.Uses.{selected_keys, updated_key}
use Rattle.acc_txn.specs.Rules.{has_bad_name, has_bad_key, is_bad_text, mentions_bad_text, condition_has, update_has, IsBody}
use Rattle.acc_print.specs.Canonical.{quoted, where_text, get_text, let_text, name_of, cell_text, term_text, sign_text, signed_text, sum_text, operator_text, condition_text, set_text, delete_text, update_text, select_text, action_text, canonical_text}
use Rattle.acc_txn.proofs.Keeps.{IsBody-keeps}
use Rattle.acc_print.proofs.QuotedUtf8.{content-IsUtf8}
use Rattle.acc_print.proofs.WordUtf8.{name-IsUtf8, key_text-IsUtf8, value-IsUtf8, number-IsUtf8}

ascii : (text : List ℕ) → list_all (λ byte. nat_lt byte 128) text ≡ true → IsAscii text
ascii [] h = IsAscii-nil
ascii (byte ∷ bytes) h =
    let parts = and_parts (nat_lt byte 128) (list_all (λ b. nat_lt b 128) bytes) h in
    IsAscii-cons byte bytes (ltb-true byte 128 parts.0) (ascii bytes parts.1)

-- words that are written out are UTF-8, as computing shows
written : (text : List ℕ) → list_all (λ byte. nat_lt byte 128) text ≡ true → IsUtf8 text
written text h = IsUtf8-from_ascii text (ascii text h)

joined : (a b : List ℕ) → IsUtf8 a → IsUtf8 b → IsUtf8 (a ++ b)
joined a b x y = IsUtf8-append a b x y

-- ---- lists

module _ {X : Type 0} (text : X → List ℕ) (is_bad : X → Bool) (each : (x : X) → is_bad x ≡ false → IsUtf8 (text x)) where
  each-IsUtf8 : (xs : List X) → list_any is_bad xs ≡ false → IsUtf8 (flat_map text xs)
  each-IsUtf8 [] h = IsUtf8-nil
  each-IsUtf8 (x ∷ xs) h =
      let parts = or_parts (is_bad x) (list_any is_bad xs) h in
      joined (text x) (flat_map text xs) (each x parts.0) (each-IsUtf8 xs parts.1)

module _ {X : Type 0} (text : X → List ℕ) (each : (x : X) → IsUtf8 (text x)) where
  all-IsUtf8 : (xs : List X) → IsUtf8 (flat_map text xs)
  all-IsUtf8 [] = IsUtf8-nil
  all-IsUtf8 (x ∷ xs) = joined (text x) (flat_map text xs) (each x) (all-IsUtf8 xs)

module _ {X : Type 0} (text : X → List ℕ) (is_bad : X → Bool) (each : (x : X) → is_bad x ≡ false → IsUtf8 (text x)) (between : List ℕ) (h : IsUtf8 between) where
  join_good-IsUtf8 : (xs : List X) → list_any is_bad xs ≡ false → IsUtf8 (join_by text between xs)
  join_good-IsUtf8 [] good = IsUtf8-nil
  join_good-IsUtf8 (x ∷ xs) good =
      let parts = or_parts (is_bad x) (list_any is_bad xs) good in
      joined (text x) _ (each x parts.0) (each-IsUtf8 (λ y. between ++ text y) is_bad (λ y fine. joined between (text y) h (each y fine)) xs parts.1)

join-IsUtf8 : {X : Type 0} (text : X → List ℕ) → ((x : X) → IsUtf8 (text x)) → (between : List ℕ) → IsUtf8 between → (xs : List X) → IsUtf8 (join_by text between xs)
join-IsUtf8 text each between h [] = IsUtf8-nil
join-IsUtf8 text each between h (x ∷ xs) =
    joined (text x) _ (each x) (all-IsUtf8 (λ y. between ++ text y) (λ y. joined between (text y) h (each y)) xs)

-- ---- keys

quoted-IsUtf8 : (text : List ℕ) → IsUtf8 text → IsUtf8 (quoted text)
quoted-IsUtf8 text h = joined _ (codes "'") (joined (codes "'") _ (written (codes "'") refl) (content-IsUtf8 text h)) (written (codes "'") refl)

where-IsUtf8 : (key : Key) → is_key key ≡ true → IsUtf8 (where_text key)
unfolding where_text
where-IsUtf8 key h =
    joined (codes " WHERE k = ") (quoted key.key) (written (codes " WHERE k = ") refl) (quoted-IsUtf8 key.key (key_text-IsUtf8 key.key (and_parts (is_name key.table) (is_key_text key.key) h).1))

table-IsUtf8 : (key : Key) → is_key key ≡ true → IsUtf8 key.table
table-IsUtf8 key h = name-IsUtf8 key.table (and_parts (is_name key.table) (is_key_text key.key) h).0

get-IsUtf8 : (key : Key) → is_key key ≡ true → IsUtf8 (get_text key)
unfolding get_text
get-IsUtf8 key h =
    joined (codes "SELECT v FROM " ++ key.table) (where_text key) (joined (codes "SELECT v FROM ") key.table (written (codes "SELECT v FROM ") refl) (table-IsUtf8 key h)) (where-IsUtf8 key h)

let-IsUtf8 : (l : Let) → is_name l.name ≡ true → is_key l.key ≡ true → IsUtf8 (let_text l)
unfolding let_text
let-IsUtf8 l named keyed =
    let name = joined (codes " LET ") l.name (written (codes " LET ") refl) (name-IsUtf8 l.name named) in
    let open_ = joined (codes " LET " ++ l.name) (codes " = (") name (written (codes " = (") refl) in
    joined _ (codes ");") (joined _ (get_text l.key) open_ (get-IsUtf8 l.key keyed)) (written (codes ");") refl)

lets-IsUtf8 : (lets : List Let) → list_any (λ l. not (is_name l.name)) lets ≡ false → list_any (λ l. not (is_key l.key)) lets ≡ false → IsUtf8 (flat_map let_text lets)
lets-IsUtf8 [] named keyed = IsUtf8-nil
lets-IsUtf8 (l ∷ lets) named keyed =
    let names = or_parts (not (is_name l.name)) (list_any (λ other. not (is_name other.name)) lets) named in
    let keys = or_parts (not (is_key l.key)) (list_any (λ other. not (is_key other.key)) lets) keyed in
    joined (let_text l) (flat_map let_text lets) (let-IsUtf8 l (not-false _ names.0) (not-false _ keys.0)) (lets-IsUtf8 lets names.1 keys.1)

-- ---- sums

name_of-IsUtf8 : (lets : List Let) → has_bad_name lets ≡ false → (number : ℕ) → IsUtf8 (name_of lets number)
name_of-IsUtf8 [] h number = IsUtf8-nil
name_of-IsUtf8 (l ∷ lets) h zero = name-IsUtf8 l.name (not-false _ (or_parts (not (is_name l.name)) (has_bad_name lets) h).0)
name_of-IsUtf8 (l ∷ lets) h (suc number) = name_of-IsUtf8 lets (or_parts (not (is_name l.name)) (has_bad_name lets) h).1 number

module _ (lets : List Let) (named : has_bad_name lets ≡ false) where
  cell-IsUtf8 : (number : ℕ) → IsUtf8 (cell_text lets number)
  cell-IsUtf8 number = joined (name_of lets number) (codes ".v") (name_of-IsUtf8 lets named number) (written (codes ".v") refl)

  term-IsUtf8 : (term : Term) → is_bad_text term ≡ false → IsUtf8 (term_text lets term)
  term-IsUtf8 (Number number) good = number-IsUtf8 number
  term-IsUtf8 (Name number) good = cell-IsUtf8 number
  term-IsUtf8 Null good = written (codes "NULL") refl
  term-IsUtf8 (Text text) good = quoted-IsUtf8 text (value-IsUtf8 text (not-false (is_text_value text) good))

  sign-IsUtf8 : (minus : Bool) → IsUtf8 (sign_text minus)
  sign-IsUtf8 true = written (codes " - ") refl
  sign-IsUtf8 false = written (codes " + ") refl

  signed-IsUtf8 : (part : Part) → is_bad_text part.term ≡ false → IsUtf8 (signed_text lets part)
  signed-IsUtf8 part good = joined (sign_text part.minus) (term_text lets part.term) (sign-IsUtf8 part.minus) (term-IsUtf8 part.term good)

  sum-IsUtf8 : (sum : List Part) → mentions_bad_text sum ≡ false → IsUtf8 (sum_text lets sum)
  sum-IsUtf8 [] good = IsUtf8-nil
  sum-IsUtf8 (part ∷ parts) good =
      let p = or_parts (is_bad_text part.term) (mentions_bad_text parts) good in
      joined (term_text lets part.term) (flat_map (signed_text lets) parts) (term-IsUtf8 part.term p.0)
      (each-IsUtf8 (signed_text lets) (λ part. is_bad_text part.term) signed-IsUtf8 parts p.1)

  -- ---- conditions, updates and the select

  operator-IsUtf8 : (op : Operator) → IsUtf8 (operator_text op)
  operator-IsUtf8 Equal = written (codes " = ") refl
  operator-IsUtf8 Differs = written (codes " != ") refl
  operator-IsUtf8 Less = written (codes " < ") refl
  operator-IsUtf8 AtMost = written (codes " <= ") refl
  operator-IsUtf8 More = written (codes " > ") refl
  operator-IsUtf8 AtLeast = written (codes " >= ") refl

  condition-IsUtf8 : (condition : Condition) → condition_has mentions_bad_text condition ≡ false → IsUtf8 (condition_text lets condition)
  condition-IsUtf8 (Compare op left right) good =
      let sides = or_parts (mentions_bad_text left) (mentions_bad_text right) good in
      joined (sum_text lets left ++ operator_text op) (sum_text lets right)
      (joined (sum_text lets left) (operator_text op) (sum-IsUtf8 left sides.0) (operator-IsUtf8 op)) (sum-IsUtf8 right sides.1)
  condition-IsUtf8 (IsNull number) good = joined (cell_text lets number) (codes " IS NULL") (cell-IsUtf8 number) (written (codes " IS NULL") refl)
  condition-IsUtf8 (IsNotNull number) good = joined (cell_text lets number) (codes " IS NOT NULL") (cell-IsUtf8 number) (written (codes " IS NOT NULL") refl)

  set-IsUtf8 : (key : Key) (sum : List Part) → is_key key ≡ true → mentions_bad_text sum ≡ false → IsUtf8 (set_text lets key sum)
  unfolding set_text
  set-IsUtf8 key sum keyed good =
      let table = joined (codes " UPDATE ") key.table (written (codes " UPDATE ") refl) (table-IsUtf8 key keyed) in
      let column = joined (codes " UPDATE " ++ key.table) (codes " SET v = ") table (written (codes " SET v = ") refl) in
      let value = joined (codes " UPDATE " ++ key.table ++ codes " SET v = ") (sum_text lets sum) column (sum-IsUtf8 sum good) in
      let chosen = joined (codes " UPDATE " ++ key.table ++ codes " SET v = " ++ sum_text lets sum) (where_text key) value (where-IsUtf8 key keyed) in
      joined (codes " UPDATE " ++ key.table ++ codes " SET v = " ++ sum_text lets sum ++ where_text key) (codes ";") chosen (written (codes ";") refl)

  delete-IsUtf8 : (key : Key) → is_key key ≡ true → IsUtf8 (delete_text key)
  unfolding delete_text
  delete-IsUtf8 key keyed =
      let table = joined (codes " DELETE FROM ") key.table (written (codes " DELETE FROM ") refl) (table-IsUtf8 key keyed) in
      joined (codes " DELETE FROM " ++ key.table ++ where_text key) (codes ";")
      (joined (codes " DELETE FROM " ++ key.table) (where_text key) table (where-IsUtf8 key keyed)) (written (codes ";") refl)

  update-IsUtf8 : (update : Update) → not (is_key (updated_key update)) ≡ false → update_has mentions_bad_text update ≡ false → IsUtf8 (update_text lets update)
  update-IsUtf8 (Set key sum) keyed good = set-IsUtf8 key sum (not-false _ keyed) good
  update-IsUtf8 (Delete key) keyed good = delete-IsUtf8 key (not-false _ keyed)

  updates-IsUtf8 : (updates : List Update) → list_any (λ update. not (is_key (updated_key update))) updates ≡ false → list_any (update_has mentions_bad_text) updates ≡ false
      → IsUtf8 (flat_map (update_text lets) updates)
  updates-IsUtf8 [] keyed good = IsUtf8-nil
  updates-IsUtf8 (update ∷ updates) keyed good =
      let keys = or_parts (not (is_key (updated_key update))) _ keyed in
      let texts = or_parts (update_has mentions_bad_text update) _ good in
      joined (update_text lets update) (flat_map (update_text lets) updates) (update-IsUtf8 update keys.0 texts.0) (updates-IsUtf8 updates keys.1 texts.1)

  select-IsUtf8 : (select : Select) → list_any (λ key. not (is_key key)) (selected_keys select) ≡ false → IsUtf8 (select_text lets select)
  select-IsUtf8 Nothing h = IsUtf8-nil
  select-IsUtf8 (Names numbers) h =
      joined (codes " SELECT " ++ join_by (cell_text lets) (codes ", ") numbers) (codes ";")
      (joined (codes " SELECT ") (join_by (cell_text lets) (codes ", ") numbers) (written (codes " SELECT ") refl)
      (join-IsUtf8 (cell_text lets) cell-IsUtf8 (codes ", ") (written (codes ", ") refl) numbers)) (written (codes ";") refl)
  select-IsUtf8 (Get key) h =
      joined (codes " " ++ get_text key) (codes ";")
      (joined (codes " ") (get_text key) (written (codes " ") refl) (get-IsUtf8 key (not-false _ (or_parts (not (is_key key)) false h).0))) (written (codes ";") refl)

  -- ---- the body

  action-IsUtf8 : (guards : List Condition) (updates : List Update) → list_any (λ update. not (is_key (updated_key update))) updates ≡ false
      → list_any (condition_has mentions_bad_text) guards ≡ false → list_any (update_has mentions_bad_text) updates ≡ false → IsUtf8 (action_text lets guards updates)
  action-IsUtf8 [] updates h asked set = updates-IsUtf8 updates h set
  action-IsUtf8 (guard ∷ guards) updates h asked set =
      let all = join_by (condition_text lets) (codes " AND ") (guard ∷ guards) in
      let conditions = joined (codes " IF ") all (written (codes " IF ") refl)
      (join_good-IsUtf8 (condition_text lets) (condition_has mentions_bad_text) condition-IsUtf8 (codes " AND ") (written (codes " AND ") refl) (guard ∷ guards) asked) in
      let then_ = joined (codes " IF " ++ all) (codes " THEN") conditions (written (codes " THEN") refl) in
      let made = joined (codes " IF " ++ all ++ codes " THEN") (flat_map (update_text lets) updates) then_ (updates-IsUtf8 updates h set) in
      joined (codes " IF " ++ all ++ codes " THEN" ++ flat_map (update_text lets) updates) (codes " END IF") made (written (codes " END IF") refl)

pub canonical-IsUtf8 : (parts : BodyParts) → IsBody parts → IsUtf8 (canonical_text parts)
canonical-IsUtf8 parts h =
    let kept = IsBody-keeps parts h in
    let worded = or_parts (has_bad_name parts.lets) (has_bad_key parts) kept.worded in
    let keyed = or_parts (list_any (λ l. not (is_key l.key)) parts.lets || list_any (λ key. not (is_key key)) (selected_keys parts.select)) _ worded.1 in
    let read = or_parts (list_any (λ l. not (is_key l.key)) parts.lets) _ keyed.0 in
    let texts = or_parts (list_any (condition_has mentions_bad_text) parts.guards) (list_any (update_has mentions_bad_text) parts.updates) kept.texts in
    let lets = flat_map let_text parts.lets in
    let select = select_text parts.lets parts.select in
    let action = action_text parts.lets parts.guards parts.updates in
    let bound = joined (codes "BEGIN TRANSACTION") lets (written (codes "BEGIN TRANSACTION") refl) (lets-IsUtf8 parts.lets worded.0 read.0) in
    let answered = joined (codes "BEGIN TRANSACTION" ++ lets) select bound (select-IsUtf8 parts.lets worded.0 parts.select read.1) in
    let acted = joined (codes "BEGIN TRANSACTION" ++ lets ++ select) action answered (action-IsUtf8 parts.lets worded.0 parts.guards parts.updates keyed.1 texts.0 texts.1) in
    joined (codes "BEGIN TRANSACTION" ++ lets ++ select ++ action) (codes " COMMIT TRANSACTION") acted (written (codes " COMMIT TRANSACTION") refl)
