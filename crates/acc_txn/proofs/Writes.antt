-- The writes of an outcome: they rise, and their keys are those of updates.
use Rattle.std.proofs.Common.{◌≡◌, Bool, true, false, ◌||◌, cond, List, [], ◌∷◌, map, Option, Some, None, Result, Ok, Err, refl, sym, ap, ◌∙◌}
use Rattle.acc_value.specs.declared.value.Value.{Value}
use Rattle.std.specs.List.{fold, list_any}
use Rattle.acc_value.specs.declared.key.Key.{Key}
use Rattle.acc_value.specs.Key.{key_eq}
use Rattle.acc_value.specs.Pairs.{IsRising, find, put}
use Rattle.acc_value.proofs.Rising.{find-put, IsRising-put}
use Rattle.acc_txn.specs.declared.parts.Update.{Update}
use Rattle.acc_txn.specs.declared.parts.BodyParts.{BodyParts}
use Rattle.acc_txn.specs.declared.evaluate.Overflow.{Overflow}
use Rattle.acc_txn.specs.Uses.{updated_key, is_updated}
use Rattle.acc_txn.specs.Meaning.{in_front, with_key, updated_cell, writes_of, last_of_each, decided, all_hold, selected, bound_cells, outcome_of}

abbrev put_all : List (Key × Option Value) → List (Key × Option Value) → List (Key × Option Value)
put_all so_far writes = fold (λ writes' write. put writes' write.0 write.1) so_far writes

IsRising-put_all : (so_far writes : List (Key × Option Value)) → IsRising so_far → IsRising (put_all so_far writes)
IsRising-put_all so_far [] rises = rises
IsRising-put_all so_far (write ∷ writes) rises = IsRising-put_all (put so_far write.0 write.1) writes (IsRising-put so_far write.0 write.1 rises)

pub IsRising-last_of_each : (writes : List (Key × Option Value)) → IsRising (last_of_each writes)
IsRising-last_of_each writes = IsRising-put_all [] writes refl

-- the cell of the last pair of a key
abbrev pub last_for : List (Key × Option Value) → Key → Option (Option Value) → Option (Option Value)
last_for [] key before = before
last_for (write ∷ writes) key before = last_for writes key (cond (key_eq key write.0) (Some write.1) before)

find-put_all : (so_far writes : List (Key × Option Value)) (key : Key) → find (put_all so_far writes) key ≡ last_for writes key (find so_far key)
find-put_all so_far [] key = refl
find-put_all so_far (write ∷ writes) key =
    find-put_all (put so_far write.0 write.1) writes key ∙ ap (last_for writes key) (find-put so_far write.0 write.1 key)

-- of each key the last pair is kept
pub find-last_of_each : (writes : List (Key × Option Value)) (key : Key) → find (last_of_each writes) key ≡ last_for writes key None
find-last_of_each writes key = find-put_all [] writes key

-- the writes of an outcome rise
IsRising-decided : (values : List (Option Value)) (hold : Result Bool Overflow) (writes : Result (List (Key × Option Value)) Overflow) → IsRising (decided values hold writes).writes
IsRising-decided values (Err error) writes = refl
IsRising-decided values (Ok false) writes = refl
IsRising-decided values (Ok true) (Err error) = refl
IsRising-decided values (Ok true) (Ok writes) = IsRising-last_of_each writes

pub IsRising-outcome_of : (parts : BodyParts) (cells : Key → Option Value) → IsRising (outcome_of parts cells).writes
IsRising-outcome_of parts cells =
    IsRising-decided (selected (bound_cells parts.lets cells) cells parts.select) (all_hold (bound_cells parts.lets cells) parts.guards) (writes_of (bound_cells parts.lets cells) parts.updates)

neither : (a b : Bool) → (a || b) ≡ false → (a ≡ false) × (b ≡ false)
neither true b h = cc
neither false b h = (refl, h)

same_ok : {X : Type 0} (x y : X) → ◌≡◌ {A = Result X Overflow} (Ok x) (Ok y) → x ≡ y
same_ok x y e = cc

no_error : {X A : Type 0} (x : X) (error : Overflow) → ◌≡◌ {A = Result X Overflow} (Err error) (Ok x) → A
no_error x error e = cc

-- writes in front of others, where a key is in neither
absent_front : (key : Key) (before : Option (Option Value)) (k : Key) (cell : Result (Option Value) Overflow) (later : Result (List (Key × Option Value)) Overflow) (pairs : List (Key × Option Value)) → key_eq key k ≡ false → ((ps : List (Key × Option Value)) → later ≡ Ok ps → last_for ps key before ≡ before) → in_front (with_key k cell) later ≡ Ok pairs → last_for pairs key before ≡ before
absent_front key before k (Err error) later pairs apart rest is = no_error pairs error is
absent_front key before k (Ok cell) (Err error) pairs apart rest is = no_error pairs error is
absent_front key before k (Ok cell) (Ok later) pairs apart rest is =
    ap (λ ps. last_for ps key before) (sym (same_ok _ _ is))
    ∙ ap (λ b. last_for later key (cond b (Some cell) before)) apart
    ∙ rest later refl

absent_writes : (bound : List (Option Value)) (updates : List Update) (key : Key) (before : Option (Option Value)) (pairs : List (Key × Option Value)) → list_any (key_eq key) (map updated_key updates) ≡ false → writes_of bound updates ≡ Ok pairs → last_for pairs key before ≡ before
absent_writes bound [] key before pairs none is = ap (λ ps. last_for ps key before) (sym (same_ok _ _ is))
absent_writes bound (update ∷ updates) key before pairs none is =
    let apart = neither _ _ none in
    absent_front key before (updated_key update) (updated_cell bound update) (writes_of bound updates) pairs apart.0
    (λ ps is'. absent_writes bound updates key before ps apart.1 is') is

absent_decided : (values : List (Option Value)) (hold : Result Bool Overflow) (writes : Result (List (Key × Option Value)) Overflow) (key : Key) → ((pairs : List (Key × Option Value)) → writes ≡ Ok pairs → last_for pairs key None ≡ None) → find (decided values hold writes).writes key ≡ None
absent_decided values (Err error) writes key absent = refl
absent_decided values (Ok false) writes key absent = refl
absent_decided values (Ok true) (Err error) key absent = refl
absent_decided values (Ok true) (Ok writes) key absent = find-last_of_each writes key ∙ absent writes refl

-- a key that no update writes isn't among the writes
pub find-outcome_of : (parts : BodyParts) (cells : Key → Option Value) (key : Key) → is_updated parts key ≡ false → find (outcome_of parts cells).writes key ≡ None
find-outcome_of parts cells key none =
    let bound = bound_cells parts.lets cells in
    absent_decided (selected bound cells parts.select) (all_hold bound parts.guards) (writes_of bound parts.updates) key
    (λ pairs is. absent_writes bound parts.updates key None pairs none is)
