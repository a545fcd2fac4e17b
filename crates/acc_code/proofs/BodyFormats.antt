-- The parts of a body, and bodies: what is read is what is spelled.
use Rattle.std.proofs.Common.{◌≡◌, ℕ, zero, suc, ◌≤◌, Bool, true, false, not, List, [], ◌++◌, length, append_assoc, map, Option, Some, None, refl, sym, ap, subst, ◌∙◌, arith}
use Rattle.std.specs.Prelude.{◌==◌}
use Rattle.std.specs.List.{list_any, AllByRecursion}
use Rattle.std.specs.Str.{bytes_eq}
use Rattle.acc_wire.specs.Spelling.{u8_bytes, text_bytes}
use Rattle.acc_wire.specs.Reading.{◌>>=◌}
use Rattle.acc_wire.proofs.Fields.{IsField}
use Rattle.acc_value.specs.declared.key.Key.{Key}
use Rattle.acc_txn.specs.declared.parts.Let.{Let}
use Rattle.acc_txn.specs.declared.parts.Select.{Select}
use Rattle.acc_txn.specs.declared.parts.Select.TheVariants.{Nothing, Names, Get}
use Rattle.acc_txn.specs.declared.parts.Operator.{Operator}
use Rattle.acc_txn.specs.declared.parts.Operator.TheVariants.{Equal, Differs, Less, AtMost, More, AtLeast}
use Rattle.acc_txn.specs.declared.parts.Part.{Part}
use Rattle.acc_txn.specs.declared.parts.Condition.{Condition}
use Rattle.acc_txn.specs.declared.parts.Condition.TheVariants.{Compare, IsNull, IsNotNull}
use Rattle.acc_txn.specs.declared.parts.Update.{Update}
use Rattle.acc_txn.specs.declared.parts.Update.TheVariants.{Set, Delete}
use Rattle.acc_txn.specs.Uses.{with_keys, updated_key}
use Rattle.acc_code.specs.Spelling.{listed, key_bytes}
use Rattle.acc_txn.specs.BodySpelling.{let_bytes, select_bytes, sum_bytes, operator_number, condition_bytes, update_bytes}
use Rattle.acc_code.specs.BodyReading.{use_at, let_uses, new_name_at, let_at, lets_at, select_behind, select_at, operator_of, condition_behind, condition_at, conditions_at, update_with, update_at, next_update_at, least_updates, updates_at, read_uses}
use Rattle.acc_code.proofs.Formats.{made_field, made_of_two, tagged_field, done_field, same_field, passing_field, listed_field}
use Rattle.acc_code.proofs.CellFormats.{alike_field}
use Rattle.acc_code.proofs.BodyFits.{FitsUse, FitsNewName, FitsLet, FitsName, FitsSelect, FitsSum, FitsCondition, FitsUpdate, FitsNextUpdate, FitLets, FitConditions, FitUpdates}
use Rattle.acc_code.proofs.SumFormats.{word_field, use_field, let_number_field, sum_field}

-- ---- LETs

new_name_field : (front : List Let) → IsField (FitsNewName front) text_bytes (new_name_at front)
unfolding new_name_at
new_name_field front = passing_field (λ name. not (list_any (λ l. bytes_eq l.name name) front)) word_field

abbrev make_let : List ℕ → Key → Let
make_let name key = record { name = name; key = key }

let_field : (front : List Let) → IsField (FitsLet front) let_bytes (let_at front)
unfolding let_bytes let_at
let_field front =
    same_field (made_of_two make_let (λ l. text_bytes l.name ++ key_bytes l.key) (λ n k f g. refl) (new_name_field front) (λ _ _. use_field (let_uses front) false)) (record {
      to = λ l m. subst (FitsLet front) (sym m.4) (m.2, m.3);
      from = λ l f. (l.name, l.key, f.0, f.1, refl);
      bytes_are = λ l f. refl;
    })

pub lets_field : IsField FitLets (listed let_bytes) lets_at
unfolding lets_at
lets_field = listed_field let_field 0 16 (omega arith)

-- ---- selects

abbrev select_tag : Select → ℕ
select_tag Nothing = 0
select_tag (Names names) = 1
select_tag (Get key) = 2

abbrev select_tail : Select → List ℕ
select_tail Nothing = []
select_tail (Names names) = listed u8_bytes names
select_tail (Get key) = key_bytes key

select_bytes_are : (s : Select) → u8_bytes (select_tag s) ++ select_tail s ≡ select_bytes s
unfolding select_bytes
select_bytes_are Nothing = refl
select_bytes_are (Names names) = refl
select_bytes_are (Get key) = refl

select_within : (s : Select) → (0 ≤ select_tag s) × (select_tag s ≤ 2)
select_within Nothing = (omega arith, omega arith)
select_within (Names names) = (omega arith, omega arith)
select_within (Get key) = (omega arith, omega arith)

abbrev FitNames : List Let → List ℕ → Type 0
FitNames lets names = (1 ≤ length names) × (length names ≤ 16) × AllByRecursion (FitsName (length lets)) names

nothing_only : (s : Select) → select_tag s ≡ 0 → s ≡ Nothing
nothing_only Nothing e = refl
nothing_only (Names names) e = absurd (omega (arith, e))
nothing_only (Get key) e = absurd (omega (arith, e))

names_only : (lets : List Let) (s : Select) → FitsSelect lets s → select_tag s ≡ 1 → (names : List ℕ) × FitNames lets names × (s ≡ Names names)
names_only lets Nothing fits e = absurd (omega (arith, e))
names_only lets (Names names) fits e = (names, fits, refl)
names_only lets (Get key) fits e = absurd (omega (arith, e))

get_only : (lets : List Let) (s : Select) → FitsSelect lets s → select_tag s ≡ 2 → (key : Key) × FitsUse (let_uses lets) false key × (s ≡ Get key)
get_only lets Nothing fits e = absurd (omega (arith, e))
get_only lets (Names names) fits e = absurd (omega (arith, e))
get_only lets (Get key) fits e = (key, fits, refl)

select_behind_field : (lets : List Let) (n : ℕ) → (0 ≤ n) × (n ≤ 2) → IsField (λ s. FitsSelect lets s × (select_tag s ≡ n)) select_tail (select_behind lets n)
select_behind_field lets zero h = same_field (done_field Nothing) (record {
  to = λ s e. subst (λ (x : Select). FitsSelect lets x × (select_tag x ≡ 0)) (sym e) (tt, refl);
  from = λ s f. nothing_only s f.1;
  bytes_are = λ s f. ap select_tail (sym (nothing_only s f.1));
})
select_behind_field lets (suc zero) h = same_field (made_field Names select_tail (λ n fits. refl) (alike_field (let_number_field (length lets)) 1 16 (omega arith))) (record {
  to = λ s m. subst (λ (x : Select). FitsSelect lets x × (select_tag x ≡ 1)) (sym m.2) (m.1, refl);
  from = λ s f. names_only lets s f.0 f.1;
  bytes_are = λ s f. refl;
})
select_behind_field lets (suc (suc zero)) h = same_field (made_field Get select_tail (λ n fits. refl) (use_field (let_uses lets) false)) (record {
  to = λ s m. subst (λ (x : Select). FitsSelect lets x × (select_tag x ≡ 2)) (sym m.2) (m.1, refl);
  from = λ s f. get_only lets s f.0 f.1;
  bytes_are = λ s f. refl;
})
select_behind_field lets (suc (suc (suc n))) h = absurd (omega (arith, h.1))

pub select_field : (lets : List Let) → IsField (FitsSelect lets) select_bytes (select_at lets)
unfolding select_at
select_field lets = same_field (tagged_field 0 2 select_tag select_tail (omega arith) (λ s fits. select_within s) (select_behind_field lets)) (record { to = λ s h. h; from = λ s h. h; bytes_are = λ s h. select_bytes_are s })

-- ---- conditions

abbrev condition_number : Condition → ℕ
condition_number (Compare op left right) = operator_number op
condition_number (IsNull name) = 7
condition_number (IsNotNull name) = 8

abbrev condition_tail : Condition → List ℕ
condition_tail (Compare op left right) = sum_bytes left ++ sum_bytes right
condition_tail (IsNull name) = u8_bytes name
condition_tail (IsNotNull name) = u8_bytes name

condition_bytes_are : (c : Condition) → u8_bytes (condition_number c) ++ condition_tail c ≡ condition_bytes c
unfolding condition_bytes
condition_bytes_are (Compare op left right) = sym (append_assoc (u8_bytes (operator_number op)) (sum_bytes left) (sum_bytes right))
condition_bytes_are (IsNull name) = refl
condition_bytes_are (IsNotNull name) = refl

operator_within : (op : Operator) → (1 ≤ operator_number op) × (operator_number op ≤ 8)
operator_within Equal = (omega arith, omega arith)
operator_within Differs = (omega arith, omega arith)
operator_within Less = (omega arith, omega arith)
operator_within AtMost = (omega arith, omega arith)
operator_within More = (omega arith, omega arith)
operator_within AtLeast = (omega arith, omega arith)

condition_within : (c : Condition) → (1 ≤ condition_number c) × (condition_number c ≤ 8)
condition_within (Compare op left right) = operator_within op
condition_within (IsNull name) = (omega arith, omega arith)
condition_within (IsNotNull name) = (omega arith, omega arith)

operator_of-number : (op : Operator) → operator_of (operator_number op) ≡ Some op
operator_of-number Equal = refl
operator_of-number Differs = refl
operator_of-number Less = refl
operator_of-number AtMost = refl
operator_of-number More = refl
operator_of-number AtLeast = refl

abbrev found : {A : Type 0} → A → Option A
found x = Some x

same_operator : (a b : Operator) → operator_number a ≡ operator_number b → a ≡ b
same_operator a b e = let f : found a ≡ found b = sym (operator_of-number a) ∙ ap operator_of e ∙ operator_of-number b in cc

no_operator : {A : Type 0} (n : ℕ) (op : Operator) → operator_of n ≡ None → n ≡ operator_number op → A
no_operator n op none e = let f : None ≡ found op = sym none ∙ ap operator_of e ∙ operator_of-number op in absurd cc

compare_only : (lets : ℕ) (op : Operator) (c : Condition) → FitsCondition lets c → condition_number c ≡ operator_number op → (left : List Part) × (right : List Part) × FitsSum lets left × FitsSum lets right × (c ≡ Compare op left right)
compare_only lets op (Compare other left right) fits e = (left, right, fits.0, fits.1, ap (λ (o : Operator). Compare o left right) (same_operator other op e))
compare_only lets op (IsNull name) fits e = no_operator 7 op refl e
compare_only lets op (IsNotNull name) fits e = no_operator 8 op refl e

compare_field : (lets n : ℕ) (op : Operator) → n ≡ operator_number op → IsField (λ c. FitsCondition lets c × (condition_number c ≡ n)) condition_tail (condition_behind lets n (Some op))
compare_field lets n op same = same_field (made_of_two (Compare op) condition_tail (λ l r f g. refl) (sum_field lets) (λ _ _. sum_field lets)) (record {
  to = λ c m. subst (λ (x : Condition). FitsCondition lets x × (condition_number x ≡ n)) (sym m.4) ((m.2, m.3), sym same);
  from = λ c f. compare_only lets op c f.0 (f.1 ∙ same);
  bytes_are = λ c f. refl;
})

null_only : (lets : ℕ) (c : Condition) → FitsCondition lets c → condition_number c ≡ 7 → (name : ℕ) × FitsName lets name × (c ≡ IsNull name)
null_only lets (Compare op left right) fits e = no_operator 7 op refl (sym e)
null_only lets (IsNull name) fits e = (name, fits, refl)
null_only lets (IsNotNull name) fits e = absurd (omega (arith, e))

not_null_only : (lets : ℕ) (c : Condition) → FitsCondition lets c → condition_number c ≡ 8 → (name : ℕ) × FitsName lets name × (c ≡ IsNotNull name)
not_null_only lets (Compare op left right) fits e = no_operator 8 op refl (sym e)
not_null_only lets (IsNull name) fits e = absurd (omega (arith, e))
not_null_only lets (IsNotNull name) fits e = (name, fits, refl)

condition_behind_field : (lets n : ℕ) → (1 ≤ n) × (n ≤ 8) → IsField (λ c. FitsCondition lets c × (condition_number c ≡ n)) condition_tail (condition_behind lets n (operator_of n))
condition_behind_field lets zero h = absurd (omega (arith, h.0))
condition_behind_field lets (suc zero) h = compare_field lets 1 Equal refl
condition_behind_field lets (suc (suc zero)) h = compare_field lets 2 Differs refl
condition_behind_field lets (suc (suc (suc zero))) h = compare_field lets 3 Less refl
condition_behind_field lets (suc (suc (suc (suc zero)))) h = compare_field lets 4 AtMost refl
condition_behind_field lets (suc (suc (suc (suc (suc zero))))) h = compare_field lets 5 More refl
condition_behind_field lets (suc (suc (suc (suc (suc (suc zero)))))) h = compare_field lets 6 AtLeast refl
condition_behind_field lets (suc (suc (suc (suc (suc (suc (suc zero))))))) h = same_field (made_field IsNull condition_tail (λ n fits. refl) (let_number_field lets)) (record {
  to = λ c m. subst (λ (x : Condition). FitsCondition lets x × (condition_number x ≡ 7)) (sym m.2) (m.1, refl);
  from = λ c f. null_only lets c f.0 f.1;
  bytes_are = λ c f. refl;
})
condition_behind_field lets (suc (suc (suc (suc (suc (suc (suc (suc zero)))))))) h = same_field (made_field IsNotNull condition_tail (λ n fits. refl) (let_number_field lets)) (record {
  to = λ c m. subst (λ (x : Condition). FitsCondition lets x × (condition_number x ≡ 8)) (sym m.2) (m.1, refl);
  from = λ c f. not_null_only lets c f.0 f.1;
  bytes_are = λ c f. refl;
})
condition_behind_field lets (suc (suc (suc (suc (suc (suc (suc (suc (suc n))))))))) h = absurd (omega (arith, h.1))

condition_field : (lets : ℕ) → IsField (FitsCondition lets) condition_bytes (condition_at lets)
unfolding condition_at
condition_field lets = same_field (tagged_field {k = λ n. condition_behind lets n (operator_of n)} 1 8 condition_number condition_tail (omega arith) (λ c fits. condition_within c) (condition_behind_field lets)) (record { to = λ c h. h; from = λ c h. h; bytes_are = λ c h. condition_bytes_are c })

pub conditions_field : (lets : ℕ) → IsField (FitConditions lets) (listed condition_bytes) (conditions_at lets)
unfolding conditions_at
conditions_field lets = alike_field (condition_field lets) 0 16 (omega arith)

-- ---- updates

abbrev update_number : Update → ℕ
update_number (Set key value) = 1
update_number (Delete key) = 2

abbrev update_tail : Update → List ℕ
update_tail (Set key value) = key_bytes key ++ sum_bytes value
update_tail (Delete key) = key_bytes key

update_bytes_are : (u : Update) → u8_bytes (update_number u) ++ update_tail u ≡ update_bytes u
unfolding update_bytes
update_bytes_are (Set key value) = sym (append_assoc (u8_bytes 1) (key_bytes key) (sum_bytes value))
update_bytes_are (Delete key) = refl

update_within : (u : Update) → (1 ≤ update_number u) × (update_number u ≤ 2)
update_within (Set key value) = (omega arith, omega arith)
update_within (Delete key) = (omega arith, omega arith)

set_only : (lets : ℕ) (uses : List (Key × Bool)) (u : Update) → FitsUpdate lets uses u → update_number u ≡ 1 → (key : Key) × (value : List Part) × FitsUse uses true key × FitsSum lets value × (u ≡ Set key value)
set_only lets uses (Set key value) fits e = (key, value, fits.0, fits.1, refl)
set_only lets uses (Delete key) fits e = absurd (omega (arith, e))

delete_only : (lets : ℕ) (uses : List (Key × Bool)) (u : Update) → FitsUpdate lets uses u → update_number u ≡ 2 → (key : Key) × FitsUse uses true key × (u ≡ Delete key)
delete_only lets uses (Set key value) fits e = absurd (omega (arith, e))
delete_only lets uses (Delete key) fits e = (key, fits, refl)

update_behind_field : (lets : ℕ) (uses : List (Key × Bool)) (n : ℕ) → (1 ≤ n) × (n ≤ 2) → IsField (λ u. FitsUpdate lets uses u × (update_number u ≡ n)) update_tail (λ v. use_at uses true v >>= λ key. update_with lets key.0 (n == 1) key.1)
update_behind_field lets uses zero h = absurd (omega (arith, h.0))
update_behind_field lets uses (suc zero) h = same_field (made_of_two Set update_tail (λ k v f g. refl) (use_field uses true) (λ _ _. sum_field lets)) (record {
  to = λ u m. subst (λ (x : Update). FitsUpdate lets uses x × (update_number x ≡ 1)) (sym m.4) ((m.2, m.3), refl);
  from = λ u f. set_only lets uses u f.0 f.1;
  bytes_are = λ u f. refl;
})
update_behind_field lets uses (suc (suc zero)) h = same_field (made_field Delete update_tail (λ k fits. refl) (use_field uses true)) (record {
  to = λ u m. subst (λ (x : Update). FitsUpdate lets uses x × (update_number x ≡ 2)) (sym m.2) (m.1, refl);
  from = λ u f. delete_only lets uses u f.0 f.1;
  bytes_are = λ u f. refl;
})
update_behind_field lets uses (suc (suc (suc n))) h = absurd (omega (arith, h.1))

update_field : (lets : ℕ) (uses : List (Key × Bool)) → IsField (FitsUpdate lets uses) update_bytes (update_at lets uses)
unfolding update_at
update_field lets uses = same_field (tagged_field {k = λ n v. use_at uses true v >>= λ key. update_with lets key.0 (n == 1) key.1} 1 2 update_number update_tail (omega arith) (λ u fits. update_within u) (update_behind_field lets uses)) (record { to = λ u h. h; from = λ u h. h; bytes_are = λ u h. update_bytes_are u })

pub updates_field : (lets : List Let) (select : Select) (guards : List Condition) → IsField (FitUpdates lets select guards) (listed update_bytes) (updates_at (length lets) (read_uses lets select) (least_updates guards))
unfolding updates_at
updates_field lets select guards =
    listed_field {Fits = FitsNextUpdate (length lets) (read_uses lets select)} {at = next_update_at (length lets) (read_uses lets select)} (λ front. update_field (length lets) (with_keys true (read_uses lets select) (map updated_key front))) (least_updates guards) 16 (omega arith)
