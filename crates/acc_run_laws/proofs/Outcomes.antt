-- What a body answers is short enough for the format, where the cells before it hold such texts as a cell may hold.
use Rattle.std.proofs.Common.{ℕ, zero, suc, ◌+◌, ◌<◌, ◌≤◌, Bool, true, false, cond, List, [], ◌∷◌, length, map, Option, Some, None, ℤ, Result, Ok, Err, unwrap_or, arith}
use Rattle.std.specs.Prelude.{IfOk}
use Rattle.std.specs.declared.cmp.Ordering.TheVariants.{Less, Equal, Greater}
use Rattle.std.specs.FinMap.Entries.{by_order}
use Rattle.std.specs.List.{fold, AllByRecursion}
use Rattle.acc_value.specs.declared.key.Key.{Key}
use Rattle.acc_value.specs.declared.value.Value.{Value}
use Rattle.acc_value.specs.Key.{key_cmp, key_eq}
use Rattle.acc_value.specs.Pairs.{find, put}
use Rattle.acc_txn.specs.declared.evaluate.Overflow.{Overflow}
use Rattle.acc_txn.specs.declared.parts.Let.{Let}
use Rattle.acc_txn.specs.declared.parts.Select.{Select}
use Rattle.acc_txn.specs.declared.parts.Select.TheVariants.{Nothing, Names, Get}
use Rattle.acc_txn.specs.declared.parts.Term.{Term}
use Rattle.acc_txn.specs.declared.parts.Term.TheVariants.{Number, Name, Null, Text}
use Rattle.acc_txn.specs.declared.parts.Part.{Part}
use Rattle.acc_txn.specs.declared.parts.Update.{Update}
use Rattle.acc_txn.specs.declared.parts.Update.TheVariants.{Set, Delete}
use Rattle.acc_txn.specs.declared.parts.BodyParts.{BodyParts}
use Rattle.acc_txn.specs.Uses.{updated_key}
use Rattle.acc_txn.specs.Rules.{IsBody}
use Rattle.acc_txn.specs.Meaning.{bound_cells, named, term_cell, total_of, as_cell, sum_of, updated_cell, with_key, write_of, in_front, writes_of, all_hold, final, selected, overflowed, done, decided, outcome_of}
use Rattle.acc_code.specs.Short.{IsShortKey, IsShortSelect, IsShortTerm, IsShortUpdate, HoldsText, AreShortCells, IsShortOutcome}
use Rattle.acc_code.proofs.BodyFacts.{short_body}

-- ---- sums

total_holds : (total : Result (Option ℤ) Overflow) → IfOk (as_cell total) HoldsText
total_holds (Err error) = tt
total_holds (Ok None) = tt
total_holds (Ok (Some number)) = tt

named_holds : (bound : List (Option Value)) (name : ℕ) → AllByRecursion HoldsText bound → HoldsText (named bound name)
named_holds [] zero h = tt
named_holds [] (suc name) h = tt
named_holds (cell ∷ bound) zero h = h.0
named_holds (cell ∷ bound) (suc name) h = named_holds bound name h.1

term_holds : (bound : List (Option Value)) (term : Term) → AllByRecursion HoldsText bound → IsShortTerm term → HoldsText (term_cell bound term)
term_holds bound (Number number) h t = tt
term_holds bound (Name name) h t = named_holds bound name h
term_holds bound Null h t = tt
term_holds bound (Text text) h t = t

sum_holds : (bound : List (Option Value)) (expr : List Part) → AllByRecursion HoldsText bound → AllByRecursion (λ part. IsShortTerm part.term) expr → IfOk (sum_of bound expr) HoldsText
sum_holds bound [] h t = tt
sum_holds bound (first ∷ []) h t = term_holds bound first.term h t.0
sum_holds bound (first ∷ second ∷ rest) h t = total_holds (total_of bound first (second ∷ rest))

updated_holds : (bound : List (Option Value)) (update : Update) → AllByRecursion HoldsText bound → IsShortUpdate update → IfOk (updated_cell bound update) HoldsText
updated_holds bound (Set key value) h t = sum_holds bound value h t.1.terms
updated_holds bound (Delete key) h t = tt

-- ---- pairs

abbrev pub IsShortPair : Key × Option Value → Type 0
IsShortPair p = IsShortKey p.0 × HoldsText p.1

keys_of : (pairs : List (Key × Option Value)) → AllByRecursion IsShortPair pairs → AllByRecursion (λ p. IsShortKey p.0) pairs
keys_of [] h = tt
keys_of (p ∷ pairs) h = (h.0.0, keys_of pairs h.1)

texts_of : (pairs : List (Key × Option Value)) → AllByRecursion IsShortPair pairs → AllByRecursion (λ p. HoldsText p.1) pairs
texts_of [] h = tt
texts_of (p ∷ pairs) h = (h.0.1, texts_of pairs h.1)

pub short_cells : (pairs : List (Key × Option Value)) → AllByRecursion IsShortPair pairs → length pairs < 256 → AreShortCells pairs
short_cells pairs h few = record { count = few; keys = keys_of pairs h; texts = texts_of pairs h }

pub no_cells : AreShortCells []
no_cells = record { count = omega arith; keys = tt; texts = tt }

put_short : (pairs : List (Key × Option Value)) (key : Key) (cell : Option Value) → AllByRecursion IsShortPair pairs → IsShortPair (key, cell) → AllByRecursion IsShortPair (put pairs key cell)
put_short [] key cell h c = (c, tt)
put_short (p ∷ pairs) key cell h c =
    elim (key_cmp key p.0) as (λ o. AllByRecursion IsShortPair (by_order o ((key, cell) ∷ p ∷ pairs) ((p.0, cell) ∷ pairs) (p ∷ put pairs key cell))) [
      | Less ↦ (c, h)
      | Equal ↦ ((h.0.0, c.1), h.1)
      | Greater ↦ (h.0, put_short pairs key cell h.1 c)
    ]

put_one : (pairs : List (Key × Option Value)) (key : Key) (cell : Option Value) → length (put pairs key cell) ≤ length pairs + 1
put_one [] key cell = omega arith
put_one (p ∷ pairs) key cell =
    elim (key_cmp key p.0) as (λ o. length (by_order o ((key, cell) ∷ p ∷ pairs) ((p.0, cell) ∷ pairs) (p ∷ put pairs key cell)) ≤ length (p ∷ pairs) + 1) [
      | Less ↦ omega arith
      | Equal ↦ omega arith
      | Greater ↦ let one = put_one pairs key cell in omega (arith, one)
    ]

-- pairs that are put one after another
pub record ArePut (most : ℕ) (pairs : List (Key × Option Value)) : Type 0 where
  pub all : AllByRecursion IsShortPair pairs
  pub few : length pairs ≤ most

pub put_each : {X : Type 0} (pair : X → Key × Option Value) (xs : List X) (so_far : List (Key × Option Value)) (most : ℕ)
    → AllByRecursion (λ x. IsShortPair (pair x)) xs → AllByRecursion IsShortPair so_far → length so_far + length xs ≤ most
    → ArePut most (fold (λ so_far x. put so_far (pair x).0 (pair x).1) so_far xs)
put_each pair [] so_far most h all few = record { all = all; few = omega (arith, few) }
put_each pair (x ∷ xs) so_far most h all few =
    let one = put_one so_far (pair x).0 (pair x).1 in
    put_each pair xs (put so_far (pair x).0 (pair x).1) most h.1 (put_short so_far (pair x).0 (pair x).1 all h.0) (omega (arith, one, few))

-- what is found in a list of cells, and else something that holds such a text too
pub found_holds : (pairs : List (Key × Option Value)) (key : Key) (other : Option Value) → AllByRecursion (λ p. HoldsText p.1) pairs → HoldsText other → HoldsText (unwrap_or (find pairs key) other)
found_holds [] key other h k = k
found_holds (p ∷ pairs) key other h k =
    elim (key_eq key p.0) as (λ same. HoldsText (unwrap_or (cond same (Some p.1) (find pairs key)) other)) [
      | true ↦ h.0
      | false ↦ found_holds pairs key other h.1 k
    ]

-- ---- writes

abbrev ShortWrites : ℕ → List (Key × Option Value) → Type 0
ShortWrites most writes = AllByRecursion IsShortPair writes × (length writes ≤ most)

updated_key_short : (update : Update) → IsShortUpdate update → IsShortKey (updated_key update)
updated_key_short (Set key value) h = h.0
updated_key_short (Delete key) h = h

with_key_short : (key : Key) (cell : Result (Option Value) Overflow) → IsShortKey key → IfOk cell HoldsText → IfOk (with_key key cell) IsShortPair
with_key_short key (Ok cell) k h = (k, h)
with_key_short key (Err error) k h = tt

in_front_short : (write : Result (Key × Option Value) Overflow) (later : Result (List (Key × Option Value)) Overflow) (most : ℕ) → IfOk write IsShortPair → IfOk later (ShortWrites most) → IfOk (in_front write later) (ShortWrites (suc most))
in_front_short (Err error) later most h k = tt
in_front_short (Ok write) (Err error) most h k = tt
in_front_short (Ok write) (Ok later) most h k = ((h, k.0), omega (arith, k.1))

writes_short : (bound : List (Option Value)) (updates : List Update) → AllByRecursion HoldsText bound → AllByRecursion IsShortUpdate updates → IfOk (writes_of bound updates) (ShortWrites (length updates))
writes_short bound [] b h = (tt, omega arith)
writes_short bound (update ∷ updates) b h =
    in_front_short (write_of bound update) (writes_of bound updates) (length updates)
    (with_key_short (updated_key update) (updated_cell bound update) (updated_key_short update h.0) (updated_holds bound update b h.0))
    (writes_short bound updates b h.1)

-- ---- selected cells

abbrev ShortValues : List (Option Value) → Type 0
ShortValues values = (length values < 256) × AllByRecursion HoldsText values

bound_hold : (lets : List Let) (cells : Key → Option Value) → ((key : Key) → HoldsText (cells key)) → AllByRecursion HoldsText (bound_cells lets cells)
bound_hold [] cells h = tt
bound_hold (l ∷ lets) cells h = (h l.key, bound_hold lets cells h)

names_hold : (bound : List (Option Value)) (names : List ℕ) (most : ℕ) → length names < most → AllByRecursion HoldsText bound → (length (map (named bound) names) < most) × AllByRecursion HoldsText (map (named bound) names)
names_hold bound [] most lt h = (lt, tt)
names_hold bound (name ∷ names) zero lt h = absurd (omega (arith, lt))
names_hold bound (name ∷ names) (suc most) lt h =
    let rest = names_hold bound names most (omega (arith, lt)) h in (omega (arith, rest.0), (named_holds bound name h, rest.1))

selected_hold : (bound : List (Option Value)) (cells : Key → Option Value) (select : Select) → IsShortSelect select → ((key : Key) → HoldsText (cells key)) → AllByRecursion HoldsText bound → ShortValues (selected bound cells select)
selected_hold bound cells Nothing short h k = (omega arith, tt)
selected_hold bound cells (Names names) short h k = names_hold bound names 256 short k
selected_hold bound cells (Get key) short h k = (omega arith, (h key, tt))

-- ---- outcomes

overflow_short : IsShortOutcome overflowed
overflow_short = record { values = omega arith; texts = tt; writes = no_cells }

put_cells : (most : ℕ) (pairs : List (Key × Option Value)) → most < 256 → ArePut most pairs → AreShortCells pairs
put_cells most pairs lt h = short_cells pairs h.all (omega (arith, lt, h.few))

done_short : (values : List (Option Value)) (writes : Result (List (Key × Option Value)) Overflow) (most : ℕ) → most < 256 → ShortValues values → IfOk writes (ShortWrites most) → IsShortOutcome (done values (final writes))
done_short values (Err error) most lt h k = overflow_short
done_short values (Ok writes) most lt h k = record {
  values = h.0;
  texts = h.1;
  writes = put_cells most _ lt (put_each (λ write. write) writes [] most k.0 tt (omega (arith, k.1)));
}

decided_short : (values : List (Option Value)) (held : Result Bool Overflow) (writes : Result (List (Key × Option Value)) Overflow) (most : ℕ) → most < 256 → ShortValues values → IfOk writes (ShortWrites most) → IsShortOutcome (decided values held writes)
decided_short values (Err error) writes most lt h k = overflow_short
decided_short values (Ok false) writes most lt h k = record { values = h.0; texts = h.1; writes = no_cells }
decided_short values (Ok true) writes most lt h k = done_short values writes most lt h k

pub answer_short : (body : BodyParts) (cells : Key → Option Value) → IsBody body → ((key : Key) → HoldsText (cells key)) → IsShortOutcome (outcome_of body cells)
answer_short body cells rules h =
    let short = short_body body rules in
    let bound = bound_cells body.lets cells in
    decided_short (selected bound cells body.select) (all_hold bound body.guards) (writes_of bound body.updates) (length body.updates) short.updates_count
    (selected_hold bound cells body.select short.select h (bound_hold body.lets cells h))
    (writes_short bound body.updates (bound_hold body.lets cells h) short.updates)
