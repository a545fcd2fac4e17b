-- What a body answers fits the format of outcomes, where the cells before it do.
use Rattle.std.proofs.Common.{◌≡◌, ℕ, zero, suc, ◌+◌, ◌<◌, ◌≤◌, Bool, true, false, cond, List, [], ◌∷◌, length, map, Option, Some, None, ℤ, pos, negsuc, Result, Ok, Err, unwrap_or, refl, arith}
use Rattle.std.specs.Prelude.{IfOk, leb, ◌+ℤ◌, ◌-ℤ◌}
use Rattle.std.specs.Int.{w64}
use Rattle.std.specs.Int.RustNames.{FitsSigned}
use Rattle.std.specs.declared.cmp.Ordering.TheVariants.{Less, Equal, Greater}
use Rattle.std.specs.FinMap.Entries.{by_order}
use Rattle.std.specs.List.{fold, AllByRecursion}
use Rattle.std.specs.Cmp.{first_so, second_so}
use Rattle.std.proofs.lemmas.Bool.{leb-true}
use Rattle.acc_value.specs.declared.key.Key.{Key}
use Rattle.acc_value.specs.declared.value.Value.{Value}
use Rattle.acc_value.specs.declared.value.Value.TheVariants.{Number as NumberValue, Text as TextValue}
use Rattle.acc_value.specs.Key.{key_cmp, key_eq}
use Rattle.acc_value.specs.Pairs.{IsRising, find, put}
use Rattle.acc_value.specs.Cells.{cell_of}
use Rattle.acc_value.proofs.Rising.{IsRising-put}
use Rattle.acc_txn.specs.declared.evaluate.Overflow.{Overflow}
use Rattle.acc_txn.specs.declared.parts.Let.{Let}
use Rattle.acc_txn.specs.declared.parts.Select.{Select}
use Rattle.acc_txn.specs.declared.parts.Select.TheVariants.{Nothing, Names, Get}
use Rattle.acc_txn.specs.declared.parts.Term.{Term}
use Rattle.acc_txn.specs.declared.parts.Term.TheVariants.{Number, Name, Null, Text}
use Rattle.acc_txn.specs.declared.parts.Part.{Part}
use Rattle.acc_txn.specs.declared.parts.Update.{Update}
use Rattle.acc_txn.specs.declared.parts.Update.TheVariants.{Set, Delete}
use Rattle.acc_txn.specs.declared.parts.BodyParts.{BodyParts}
use Rattle.acc_txn.specs.Uses.{updated_key}
use Rattle.acc_txn.specs.Meaning.{bound_cells, named, term_cell, in_64_bits, summand, fitting, plus, and_plus, total_of, as_cell, sum_of, updated_cell, with_key, write_of, in_front, writes_of, all_hold, final, selected, overflowed, done, decided, outcome_of}
use Rattle.acc_code.specs.Short.{IsShortKey, IsShortSelect, IsShortUpdate, HoldsText, IsCell, AreCells, IsOutcome, IsTerm, AreTerms, SetsTerms, IsNumberedBody}
use Rattle.acc_code.proofs.BodyFacts.{short_body}
use Rattle.acc_code.proofs.Shortness.{text_of_cell}

-- ---- sums

in_width : (z : ℤ) → in_64_bits z ≡ true → FitsSigned w64 z
in_width (pos n) h = let le = leb-true n 9223372036854775807 (second_so true (leb n 9223372036854775807) h) in record { sfits = omega (arith, le) }
in_width (negsuc n) h = let le = leb-true n 9223372036854775807 (first_so (leb n 9223372036854775807) true h) in record { sfits = omega (arith, le) }

abbrev IsSum : Option ℤ → Type 0
IsSum None = Unit {0}
IsSum (Some number) = FitsSigned w64 number

where_fitting : (fits : Bool) (z : ℤ) (error : Overflow) → (fits ≡ true → FitsSigned w64 z) → IfOk (cond fits (Ok (Some z)) (Err error)) IsSum
where_fitting true z error h = h refl
where_fitting false z error h = tt

fitting_fits : (z : ℤ) → IfOk (fitting z) IsSum
fitting_fits z = where_fitting (in_64_bits z) z (record {}) (in_width z)

plus_fits : (so_far : Option ℤ) (minus : Bool) (term : Option ℤ) → IfOk (plus so_far minus term) IsSum
plus_fits None minus term = tt
plus_fits (Some a) minus None = tt
plus_fits (Some a) true (Some b) = fitting_fits (a -ℤ b)
plus_fits (Some a) false (Some b) = fitting_fits (a +ℤ b)

and_plus_fits : (bound : List (Option Value)) (so_far : Result (Option ℤ) Overflow) (part : Part) → IfOk (and_plus bound so_far part) IsSum
and_plus_fits bound (Err error) part = tt
and_plus_fits bound (Ok so_far) part = plus_fits so_far part.minus (summand (term_cell bound part.term))

total_fits : (bound : List (Option Value)) (expr : List Part) (so_far : Result (Option ℤ) Overflow) → IfOk so_far IsSum → IfOk (fold (and_plus bound) so_far expr) IsSum
total_fits bound [] so_far h = h
total_fits bound (part ∷ expr) so_far h = total_fits bound expr (and_plus bound so_far part) (and_plus_fits bound so_far part)

as_cell_fits : (total : Result (Option ℤ) Overflow) → IfOk total IsSum → IfOk (as_cell total) IsCell
as_cell_fits (Err error) h = tt
as_cell_fits (Ok None) h = tt
as_cell_fits (Ok (Some number)) h = h

summand_fits : (cell : Option Value) → IsCell cell → IsSum (summand cell)
summand_fits None h = tt
summand_fits (Some (NumberValue number)) h = h
summand_fits (Some (TextValue text)) h = tt

named_fits : (bound : List (Option Value)) (name : ℕ) → AllByRecursion IsCell bound → IsCell (named bound name)
named_fits [] zero h = tt
named_fits [] (suc name) h = tt
named_fits (cell ∷ bound) zero h = h.0
named_fits (cell ∷ bound) (suc name) h = named_fits bound name h.1

term_fits : (bound : List (Option Value)) (term : Term) → AllByRecursion IsCell bound → IsTerm term → IsCell (term_cell bound term)
term_fits bound (Number number) h t = t
term_fits bound (Name name) h t = named_fits bound name h
term_fits bound Null h t = tt
term_fits bound (Text text) h t = t

sum_fits : (bound : List (Option Value)) (expr : List Part) → AllByRecursion IsCell bound → AreTerms expr → IfOk (sum_of bound expr) IsCell
sum_fits bound [] h t = tt
sum_fits bound (first ∷ []) h t = term_fits bound first.term h t.0
sum_fits bound (first ∷ second ∷ rest) h t =
    as_cell_fits (total_of bound first (second ∷ rest))
    (total_fits bound (second ∷ rest) (Ok (summand (term_cell bound first.term))) (summand_fits (term_cell bound first.term) (term_fits bound first.term h t.0)))

updated_fits : (bound : List (Option Value)) (update : Update) → AllByRecursion IsCell bound → SetsTerms update → IfOk (updated_cell bound update) IsCell
updated_fits bound (Set key value) h t = sum_fits bound value h t
updated_fits bound (Delete key) h t = tt

-- ---- writes

abbrev FitsWrite : Key × Option Value → Type 0
FitsWrite write = IsShortKey write.0 × IsCell write.1

abbrev FitWrites : ℕ → List (Key × Option Value) → Type 0
FitWrites most writes = AllByRecursion FitsWrite writes × (length writes ≤ most)

short_key_of : (update : Update) → IsShortUpdate update → IsShortKey (updated_key update)
short_key_of (Set key value) h = h.0
short_key_of (Delete key) h = h

with_key_fits : (key : Key) (cell : Result (Option Value) Overflow) → IsShortKey key → IfOk cell IsCell → IfOk (with_key key cell) FitsWrite
with_key_fits key (Ok cell) k h = (k, h)
with_key_fits key (Err error) k h = tt

in_front_fits : (write : Result (Key × Option Value) Overflow) (later : Result (List (Key × Option Value)) Overflow) (most : ℕ) → IfOk write FitsWrite → IfOk later (FitWrites most) → IfOk (in_front write later) (FitWrites (suc most))
in_front_fits (Err error) later most h k = tt
in_front_fits (Ok write) (Err error) most h k = tt
in_front_fits (Ok write) (Ok later) most h k = ((h, k.0), omega (arith, k.1))

writes_fit : (bound : List (Option Value)) (updates : List Update) → AllByRecursion IsCell bound → AllByRecursion SetsTerms updates → AllByRecursion IsShortUpdate updates → IfOk (writes_of bound updates) (FitWrites (length updates))
writes_fit bound [] b t h = (tt, omega arith)
writes_fit bound (update ∷ updates) b t h =
    in_front_fits (write_of bound update) (writes_of bound updates) (length updates)
    (with_key_fits (updated_key update) (updated_cell bound update) (short_key_of update h.0) (updated_fits bound update b t.0))
    (writes_fit bound updates b t.1 h.1)

put_fits : (pairs : List (Key × Option Value)) (key : Key) (cell : Option Value) → AllByRecursion FitsWrite pairs → IsShortKey key → IsCell cell → AllByRecursion FitsWrite (put pairs key cell)
put_fits [] key cell h k c = ((k, c), tt)
put_fits (p ∷ pairs) key cell h k c =
    elim (key_cmp key p.0) as (λ o. AllByRecursion FitsWrite (by_order o ((key, cell) ∷ p ∷ pairs) ((p.0, cell) ∷ pairs) (p ∷ put pairs key cell))) [
      | Less ↦ ((k, c), h)
      | Equal ↦ ((h.0.0, c), h.1)
      | Greater ↦ (h.0, put_fits pairs key cell h.1 k c)
    ]

put_one : (pairs : List (Key × Option Value)) (key : Key) (cell : Option Value) → length (put pairs key cell) ≤ length pairs + 1
put_one [] key cell = omega arith
put_one (p ∷ pairs) key cell =
    elim (key_cmp key p.0) as (λ o. length (by_order o ((key, cell) ∷ p ∷ pairs) ((p.0, cell) ∷ pairs) (p ∷ put pairs key cell)) ≤ length (p ∷ pairs) + 1) [
      | Less ↦ omega arith
      | Equal ↦ omega arith
      | Greater ↦ let one = put_one pairs key cell in omega (arith, one)
    ]

record FitRising (most : ℕ) (pairs : List (Key × Option Value)) : Type 0 where
  all : AllByRecursion FitsWrite pairs
  rises : IsRising pairs
  few : length pairs ≤ most

last_fit : (writes so_far : List (Key × Option Value)) (most : ℕ) → AllByRecursion FitsWrite writes → AllByRecursion FitsWrite so_far → IsRising so_far → length so_far + length writes ≤ most → FitRising most (fold (λ so_far write. put so_far write.0 write.1) so_far writes)
last_fit [] so_far most h all rises few = record { all = all; rises = rises; few = omega (arith, few) }
last_fit (write ∷ writes) so_far most h all rises few =
    let one = put_one so_far write.0 write.1 in
    last_fit writes (put so_far write.0 write.1) most h.1
    (put_fits so_far write.0 write.1 all h.0.0 h.0.1) (IsRising-put so_far write.0 write.1 rises) (omega (arith, one, few))

keys_of : (pairs : List (Key × Option Value)) → AllByRecursion FitsWrite pairs → AllByRecursion (λ p. IsShortKey p.0) pairs
keys_of [] h = tt
keys_of (p ∷ pairs) h = (h.0.0, keys_of pairs h.1)

cells_in : (pairs : List (Key × Option Value)) → AllByRecursion FitsWrite pairs → AllByRecursion (λ p. IsCell p.1) pairs
cells_in [] h = tt
cells_in (p ∷ pairs) h = (h.0.1, cells_in pairs h.1)

texts_in : (pairs : List (Key × Option Value)) → AllByRecursion FitsWrite pairs → AllByRecursion (λ p. HoldsText p.1) pairs
texts_in [] h = tt
texts_in (p ∷ pairs) h = (text_of_cell p.1 h.0.1, texts_in pairs h.1)

cells_made : (pairs : List (Key × Option Value)) (most : ℕ) → most < 256 → FitRising most pairs → AreCells pairs
cells_made pairs most lt h = record {
  short = record { count = omega (arith, lt, h.few); keys = keys_of pairs h.all; texts = texts_in pairs h.all };
  cells = cells_in pairs h.all;
  rises = h.rises;
}

no_cells : AreCells []
no_cells = record { short = record { count = omega arith; keys = tt; texts = tt }; cells = tt; rises = refl }

-- ---- selected cells

abbrev FitValues : List (Option Value) → Type 0
FitValues values = (length values < 256) × AllByRecursion IsCell values

bound_fit : (lets : List Let) (cells : Key → Option Value) → ((key : Key) → IsCell (cells key)) → AllByRecursion IsCell (bound_cells lets cells)
bound_fit [] cells h = tt
bound_fit (l ∷ lets) cells h = (h l.key, bound_fit lets cells h)

names_fit : (bound : List (Option Value)) (names : List ℕ) (most : ℕ) → length names < most → AllByRecursion IsCell bound → (length (map (named bound) names) < most) × AllByRecursion IsCell (map (named bound) names)
names_fit bound [] most lt h = (lt, tt)
names_fit bound (name ∷ names) zero lt h = absurd (omega (arith, lt))
names_fit bound (name ∷ names) (suc most) lt h =
    let rest = names_fit bound names most (omega (arith, lt)) h in (omega (arith, rest.0), (named_fits bound name h, rest.1))

selected_fit : (bound : List (Option Value)) (cells : Key → Option Value) (select : Select) → IsShortSelect select → ((key : Key) → IsCell (cells key)) → AllByRecursion IsCell bound → FitValues (selected bound cells select)
selected_fit bound cells Nothing short h k = (omega arith, tt)
selected_fit bound cells (Names names) short h k = names_fit bound names 256 short k
selected_fit bound cells (Get key) short h k = (omega arith, (h key, tt))

-- ---- outcomes

overflow_fits : IsOutcome overflowed
overflow_fits = record { count = omega arith; values = tt; writes = no_cells }

done_fits : (values : List (Option Value)) (writes : Result (List (Key × Option Value)) Overflow) (most : ℕ) → most < 256 → FitValues values → IfOk writes (FitWrites most) → IsOutcome (done values (final writes))
done_fits values (Err error) most lt h k = overflow_fits
done_fits values (Ok writes) most lt h k = record {
  count = h.0;
  values = h.1;
  writes = cells_made _ most lt (last_fit writes [] most k.0 tt refl (omega (arith, k.1)));
}

decided_fits : (values : List (Option Value)) (held : Result Bool Overflow) (writes : Result (List (Key × Option Value)) Overflow) (most : ℕ) → most < 256 → FitValues values → IfOk writes (FitWrites most) → IsOutcome (decided values held writes)
decided_fits values (Err error) writes most lt h k = overflow_fits
decided_fits values (Ok false) writes most lt h k = record { count = h.0; values = h.1; writes = no_cells }
decided_fits values (Ok true) writes most lt h k = done_fits values writes most lt h k

pub answer_fits : (parts : BodyParts) (cells : Key → Option Value) → IsNumberedBody parts → ((key : Key) → IsCell (cells key)) → IsOutcome (outcome_of parts cells)
answer_fits parts cells body h =
    let short = short_body parts body.keeps_rules in
    let bound = bound_cells parts.lets cells in
    decided_fits (selected bound cells parts.select) (all_hold bound parts.guards) (writes_of bound parts.updates) (length parts.updates) short.updates_count
    (selected_fit bound cells parts.select short.select h (bound_fit parts.lets cells h))
    (writes_fit bound parts.updates (bound_fit parts.lets cells h) body.updates short.updates)

-- what is found in a list of cells
pub found_fits : (pairs : List (Key × Option Value)) (key : Key) → AllByRecursion (λ p. IsCell p.1) pairs → IsCell (cell_of pairs key)
found_fits [] key h = tt
found_fits (p ∷ pairs) key h =
    elim (key_eq key p.0) as (λ same. IsCell (unwrap_or (cond same (Some p.1) (find pairs key)) None)) [
      | true ↦ h.0
      | false ↦ found_fits pairs key h.1
    ]
