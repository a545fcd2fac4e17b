-- What a body without text values answers has none, where the cells before it have none.
use Rattle.std.proofs.Common.{◌≡◌, ℕ, zero, suc, Bool, true, false, cond, List, [], ◌∷◌, map, Option, Some, None, ℤ, Result, Ok, Err, unwrap_or, refl}
use Rattle.std.specs.Prelude.{IfOk}
use Rattle.std.specs.declared.cmp.Ordering.TheVariants.{Less, Equal, Greater}
use Rattle.std.specs.FinMap.Entries.{by_order}
use Rattle.std.specs.List.{fold, list_any, AllByRecursion}
use Rattle.std.proofs.lemmas.Bool.{true≢false, or_parts}
use Rattle.acc_value.specs.declared.key.Key.{Key}
use Rattle.acc_value.specs.declared.value.Value.{Value}
use Rattle.acc_value.specs.Key.{key_cmp, key_eq}
use Rattle.acc_value.specs.Pairs.{find, put}
use Rattle.acc_txn.specs.declared.evaluate.Overflow.{Overflow}
use Rattle.acc_txn.specs.declared.parts.Let.{Let}
use Rattle.acc_txn.specs.declared.parts.Select.{Select}
use Rattle.acc_txn.specs.declared.parts.Select.TheVariants.{Nothing, Names, Get}
use Rattle.acc_txn.specs.declared.parts.Term.{Term}
use Rattle.acc_txn.specs.declared.parts.Term.TheVariants.{Number, Name, Null, Text}
use Rattle.acc_txn.specs.declared.parts.Part.{Part}
use Rattle.acc_txn.specs.declared.parts.Update.{Update}
use Rattle.acc_txn.specs.declared.parts.Update.TheVariants.{Set, Delete}
use Rattle.acc_txn.specs.declared.parts.BodyParts.{BodyParts}
use Rattle.acc_txn.specs.declared.outcome.Outcome.{Outcome}
use Rattle.acc_txn.specs.Uses.{updated_key}
use Rattle.acc_txn.specs.Rules.{condition_has, update_has}
use Rattle.acc_txn.specs.Meaning.{bound_cells, named, term_cell, total_of, as_cell, sum_of, updated_cell, with_key, write_of, in_front, writes_of, all_hold, final, selected, done, decided, outcome_of}
use Rattle.acc_lang.specs.Texts.{is_text_term, has_text_term, has_text_value}
use Rattle.acc_payloads.specs.Texts.{is_text_cell}

-- null or a number
abbrev pub IsPlain : Option Value → Type 0
IsPlain cell = is_text_cell cell ≡ false

abbrev pub ArePlainPairs : List (Key × Option Value) → Type 0
ArePlainPairs pairs = AllByRecursion (λ p. IsPlain p.1) pairs

pub record IsPlainOutcome (o : Outcome) : Type 0 where
  pub values : AllByRecursion IsPlain o.reply.values
  pub writes : ArePlainPairs o.writes

abbrev pub IsPlainBody : BodyParts → Type 0
IsPlainBody body = has_text_value body ≡ false

-- ---- sums

total_plain : (total : Result (Option ℤ) Overflow) → IfOk (as_cell total) IsPlain
total_plain (Err error) = tt
total_plain (Ok None) = refl
total_plain (Ok (Some number)) = refl

named_plain : (bound : List (Option Value)) (name : ℕ) → AllByRecursion IsPlain bound → IsPlain (named bound name)
named_plain [] zero h = refl
named_plain [] (suc name) h = refl
named_plain (cell ∷ bound) zero h = h.0
named_plain (cell ∷ bound) (suc name) h = named_plain bound name h.1

term_plain : (bound : List (Option Value)) (term : Term) → AllByRecursion IsPlain bound → is_text_term term ≡ false → IsPlain (term_cell bound term)
term_plain bound (Number number) h t = refl
term_plain bound (Name name) h t = named_plain bound name h
term_plain bound Null h t = refl
term_plain bound (Text text) h t = absurd (true≢false t)

sum_plain : (bound : List (Option Value)) (expr : List Part) → AllByRecursion IsPlain bound → has_text_term expr ≡ false → IfOk (sum_of bound expr) IsPlain
sum_plain bound [] h t = refl
sum_plain bound (first ∷ []) h t = term_plain bound first.term h (or_parts (is_text_term first.term) false t).0
sum_plain bound (first ∷ second ∷ rest) h t = total_plain (total_of bound first (second ∷ rest))

updated_plain : (bound : List (Option Value)) (update : Update) → AllByRecursion IsPlain bound → update_has has_text_term update ≡ false → IfOk (updated_cell bound update) IsPlain
updated_plain bound (Set key value) h t = sum_plain bound value h t
updated_plain bound (Delete key) h t = refl

-- ---- pairs

put_plain : (pairs : List (Key × Option Value)) (key : Key) (cell : Option Value) → ArePlainPairs pairs → IsPlain cell → ArePlainPairs (put pairs key cell)
put_plain [] key cell h c = (c, tt)
put_plain (p ∷ pairs) key cell h c =
    elim (key_cmp key p.0) as (λ o. ArePlainPairs (by_order o ((key, cell) ∷ p ∷ pairs) ((p.0, cell) ∷ pairs) (p ∷ put pairs key cell))) [
      | Less ↦ (c, h)
      | Equal ↦ (c, h.1)
      | Greater ↦ (h.0, put_plain pairs key cell h.1 c)
    ]

pub put_each : {X : Type 0} (pair : X → Key × Option Value) (xs : List X) (so_far : List (Key × Option Value))
    → AllByRecursion (λ x. IsPlain (pair x).1) xs → ArePlainPairs so_far → ArePlainPairs (fold (λ so_far x. put so_far (pair x).0 (pair x).1) so_far xs)
put_each pair [] so_far h all = all
put_each pair (x ∷ xs) so_far h all = put_each pair xs (put so_far (pair x).0 (pair x).1) h.1 (put_plain so_far (pair x).0 (pair x).1 all h.0)

-- what is found in a list of cells, or else another cell
pub found_plain : (pairs : List (Key × Option Value)) (key : Key) (other : Option Value) → ArePlainPairs pairs → IsPlain other → IsPlain (unwrap_or (find pairs key) other)
found_plain [] key other h k = k
found_plain (p ∷ pairs) key other h k =
    elim (key_eq key p.0) as (λ same. IsPlain (unwrap_or (cond same (Some p.1) (find pairs key)) other)) [
      | true ↦ h.0
      | false ↦ found_plain pairs key other h.1 k
    ]

-- ---- writes

with_key_plain : (key : Key) (cell : Result (Option Value) Overflow) → IfOk cell IsPlain → IfOk (with_key key cell) (λ p. IsPlain p.1)
with_key_plain key (Ok cell) h = h
with_key_plain key (Err error) h = tt

in_front_plain : (write : Result (Key × Option Value) Overflow) (later : Result (List (Key × Option Value)) Overflow) → IfOk write (λ p. IsPlain p.1) → IfOk later ArePlainPairs
    → IfOk (in_front write later) ArePlainPairs
in_front_plain (Err error) later h k = tt
in_front_plain (Ok write) (Err error) h k = tt
in_front_plain (Ok write) (Ok later) h k = (h, k)

writes_plain : (bound : List (Option Value)) (updates : List Update) → AllByRecursion IsPlain bound → list_any (update_has has_text_term) updates ≡ false
    → IfOk (writes_of bound updates) ArePlainPairs
writes_plain bound [] b h = tt
writes_plain bound (update ∷ updates) b h =
    let parts = or_parts (update_has has_text_term update) (list_any (update_has has_text_term) updates) h in
    in_front_plain (write_of bound update) (writes_of bound updates)
    (with_key_plain (updated_key update) (updated_cell bound update) (updated_plain bound update b parts.0))
    (writes_plain bound updates b parts.1)

-- ---- selected cells

bound_plain : (lets : List Let) (cells : Key → Option Value) → ((key : Key) → IsPlain (cells key)) → AllByRecursion IsPlain (bound_cells lets cells)
bound_plain [] cells h = tt
bound_plain (l ∷ lets) cells h = (h l.key, bound_plain lets cells h)

names_plain : (bound : List (Option Value)) (names : List ℕ) → AllByRecursion IsPlain bound → AllByRecursion IsPlain (map (named bound) names)
names_plain bound [] h = tt
names_plain bound (name ∷ names) h = (named_plain bound name h, names_plain bound names h)

selected_plain : (bound : List (Option Value)) (cells : Key → Option Value) (select : Select) → ((key : Key) → IsPlain (cells key)) → AllByRecursion IsPlain bound
    → AllByRecursion IsPlain (selected bound cells select)
selected_plain bound cells Nothing h k = tt
selected_plain bound cells (Names names) h k = names_plain bound names k
selected_plain bound cells (Get key) h k = (h key, tt)

-- ---- outcomes

done_plain : (values : List (Option Value)) (writes : Result (List (Key × Option Value)) Overflow) → AllByRecursion IsPlain values → IfOk writes ArePlainPairs
    → IsPlainOutcome (done values (final writes))
done_plain values (Err error) h k = record { values = tt; writes = tt }
done_plain values (Ok writes) h k = record { values = h; writes = put_each (λ write. write) writes [] k tt }

decided_plain : (values : List (Option Value)) (held : Result Bool Overflow) (writes : Result (List (Key × Option Value)) Overflow) → AllByRecursion IsPlain values
    → IfOk writes ArePlainPairs → IsPlainOutcome (decided values held writes)
decided_plain values (Err error) writes h k = record { values = tt; writes = tt }
decided_plain values (Ok false) writes h k = record { values = h; writes = tt }
decided_plain values (Ok true) writes h k = done_plain values writes h k

pub answer_plain : (body : BodyParts) (cells : Key → Option Value) → IsPlainBody body → ((key : Key) → IsPlain (cells key)) → IsPlainOutcome (outcome_of body cells)
answer_plain body cells plain h =
    let bound = bound_cells body.lets cells in
    let parts = or_parts (list_any (condition_has has_text_term) body.guards) (list_any (update_has has_text_term) body.updates) plain in
    decided_plain (selected bound cells body.select) (all_hold bound body.guards) (writes_of bound body.updates)
    (selected_plain bound cells body.select h (bound_plain body.lets cells h))
    (writes_plain bound body.updates (bound_plain body.lets cells h) parts.1)
