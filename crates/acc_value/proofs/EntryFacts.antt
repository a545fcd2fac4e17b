-- The entries of a map, as the map of their cells, and what a step makes of them.
use Rattle.std.proofs.Common.{◌≡◌, ℕ, ◌+◌, ◌<◌, ◌≤◌, Bool, true, false, cond, ◌||◌, List, [], ◌∷◌, ◌++◌, Option, Some, None, length, get_or, take, drop, refl, sym, ap, subst, ◌∙◌, IsTrue, unwrap_or, is_some, is_none, Result, Ok, Err, OnErr, map as map_list, arith}
use Rattle.std.specs.Cmp.{first_so, second_so}
use Rattle.std.specs.Option.{option_flatten}
use Rattle.std.specs.Ordering.{is_eq}
use Rattle.std.specs.Map.{lookup}
use Rattle.std.specs.BTreeMap as tree
use Rattle.std.specs.FinMap as map
use Rattle.std.specs.FinMap.Entries.{below_all}
use Rattle.std.proofs.lemmas.List.{take_more, drop_more}
use Rattle.std.proofs.lemmas.List.Folds.{list_all-append}
use Rattle.acc_value.specs.declared.key.Key.{Key}
use Rattle.acc_value.specs.declared.value.Value.{Value}
use Rattle.acc_value.specs.Key.{key_cmp, key_eq}
use Rattle.acc_value.specs.Pairs.{IsRising, find}
use Rattle.acc_value.specs.Cells.{Map, cells_of, with_cell, map_of, applied}
use Rattle.acc_value.specs.Entries.{Entries, held, has_entry, IsReserved}
use Rattle.acc_value.proofs.KeyOrder.{key_cmp_total, key_cmp-IsAntisymmetric, key_eq-symm, key_eq-true}
use Rattle.acc_value.proofs.Rising.{find-below, both, less}

pub cells_of-with_cell : (m : Map) (key : Key) (cell : Option Value) (q : Key) → cells_of (with_cell m key cell) q ≡ cond (key_eq q key) cell (cells_of m q)
cells_of-with_cell m key None q = map.get-remove key_cmp_total m key q
cells_of-with_cell m key (Some value) q = map.get-insert key_cmp_total m key value q

-- what is held at the first entry or the others
held_first : (b : Bool) (cell : Option Value) (others : Option (Option Value)) → cond b cell (unwrap_or others None) ≡ unwrap_or (cond b (Some cell) others) None
held_first true cell others = refl
held_first false cell others = refl

-- the map of the entries has the cells that are held
pub cells_of-map_of : (pairs : List (Key × Option Value)) (q : Key) → cells_of (map_of pairs) q ≡ unwrap_or (lookup (λ k. key_eq q k) pairs) None
cells_of-map_of [] q = map.get-empty key_cmp q
cells_of-map_of (p ∷ pairs) q =
    cells_of-with_cell (map_of pairs) p.0 p.1 q
    ∙ ap (cond (key_eq q p.0) p.1) (cells_of-map_of pairs q)
    ∙ held_first (key_eq q p.0) p.1 (lookup (λ k. key_eq q k) pairs)

-- two maps with the same cells are one
pub same_cells : (m n : Map) → ((q : Key) → cells_of m q ≡ cells_of n q) → m ≡ n
same_cells m n same = map.same_map key_cmp_total key_cmp-IsAntisymmetric m n same

-- a new entry that holds null leaves the cells
entry_same : (b : Bool) (old : Option (Option Value)) → (b ≡ true → old ≡ None) → unwrap_or (cond b (Some None) old) None ≡ unwrap_or old None
entry_same true old none = sym (ap (λ (o : Option (Option Value)). unwrap_or o None) (none refl))
entry_same false old none = refl

missing : (o : Option (Option Value)) → is_some o ≡ false → o ≡ None
missing None h = refl
missing (Some x) h = cc

pub made_same : (old new : Entries) (key : Key) → has_entry old key ≡ false → ((q : Key) → tree.get key_cmp new q ≡ cond (key_eq key q) (Some None) (tree.get key_cmp old q)) → (q : Key) → held new q ≡ held old q
made_same old new key none puts q =
    ap (λ (o : Option (Option Value)). unwrap_or o None) (puts q)
    ∙ entry_same (key_eq key q) (tree.get key_cmp old q)
    (λ same. ap (λ k. tree.get key_cmp old k) (sym (key_eq-true key q same)) ∙ missing (tree.get key_cmp old key) none)

-- a write that has its entry still has it where none is lost
kept_entry : (a : Bool) (old new : Bool) → (old ≡ true → new ≡ true) → (a || old) ≡ true → (a || new) ≡ true
kept_entry true old new kept h = refl
kept_entry false old new kept h = kept h

pub IsReserved-kept : (old new : Entries) (writes : List (Key × Option Value)) → ((q : Key) → IsTrue (has_entry old q) → IsTrue (has_entry new q)) → IsReserved old writes → IsReserved new writes
IsReserved-kept old new [] kept reserved = refl
IsReserved-kept old new (w ∷ writes) kept reserved =
    both _ _ (kept_entry (is_none w.1) _ _ (kept w.0) (first_so _ _ reserved)) (IsReserved-kept old new writes kept (second_so _ _ reserved))

-- the loop that reserves: the cells are as before, and so many writes have their entries
abbrev pub Made : Entries → Entries → List (Key × Option Value) → Type 0
Made before entries writes = ((q : Key) → held entries q ≡ held before q) × IsReserved entries writes

pub made_step : (before old new : Entries) (writes : List (Key × Option Value)) (i : ℕ) (w : Key × Option Value) → i < length writes → w ≡ get_or writes i w → ((q : Key) → held new q ≡ held old q) → ((q : Key) → IsTrue (has_entry old q) → IsTrue (has_entry new q)) → IsTrue (is_none w.1 || has_entry new w.0) → Made before old (take i writes) → Made before new (take (i + 1) writes)
made_step before old new writes i w within is same kept one made =
    let more : take (i + 1) writes ≡ take i writes ++ w ∷ [] = take_more writes i w within ∙ ap (λ x. take i writes ++ x ∷ []) (sym is) in
    let reserved : IsReserved new (take i writes) = IsReserved-kept old new (take i writes) kept made.1 in (
      (λ q. same q ∙ made.0 q),
      subst (IsReserved new) (sym more) (list_all-append _ (take i writes) (w ∷ []) ∙ both _ _ reserved (both _ true one refl)),
    )

pub has_made : (a b : Bool) → b ≡ true → (a || b) ≡ true
has_made true b h = refl
has_made false b h = h

pub needs_none : (cell : Option Value) (b t : Bool) → t ≡ false → t ≡ is_some cell → (is_none cell || b) ≡ true
needs_none None b t apart is = refl
needs_none (Some value) b t apart is = cc

-- writes of other keys keep their entries
reserved_apart : (old new : Entries) (key : Key) (writes : List (Key × Option Value)) → ((q : Key) → key_eq key q ≡ false → has_entry new q ≡ has_entry old q) → IsTrue (below_all key_cmp key writes) → IsReserved old writes → IsReserved new writes
reserved_apart old new key [] kept below reserved = refl
reserved_apart old new key (w ∷ writes) kept below reserved =
    let apart : key_eq key w.0 ≡ false = ap is_eq (less _ (first_so _ _ below)) in
    both _ _ (kept_entry (is_none w.1) _ _ (λ h. kept w.0 apart ∙ h) (first_so _ _ reserved))
    (reserved_apart old new key writes kept (second_so _ _ below) (second_so _ _ reserved))

-- the cell of a key, where the key is that of the first write or is not
first_write : (b : Bool) (cell : Option Value) (later : Option (Option Value)) (before : Option Value) → (b ≡ true → later ≡ None) → unwrap_or later (cond b cell before) ≡ unwrap_or (cond b (Some cell) later) before
first_write true cell later before none = ap (λ o. unwrap_or o cell) (none refl)
first_write false cell later before none = refl

-- a list of one pair, whose key and cell are asked for apart
pub alone : (pairs : List (Key × Option Value)) (k c : Key × Option Value) → 1 ≤ length pairs → length pairs < 2 → pairs ≡ ((get_or pairs 0 k).0, (get_or pairs 0 c).1) ∷ []
alone [] k c some few = absurd (omega (arith, some))
alone (p ∷ []) k c some few = refl
alone (p ∷ q ∷ rest) k c some few = absurd (omega (arith, few))

-- a write that is the only one
pub only_write : (before : Key → Option Value) (w : Key × Option Value) (q : Key) → cond (key_eq w.0 q) w.1 (before q) ≡ applied before (w ∷ []) q
only_write before w q =
    ap (λ b. cond b w.1 (before q)) (key_eq-symm w.0 q) ∙ first_write (key_eq q w.0) w.1 None (before q) (λ same. refl)

-- one write made leaves the others to be made
pub write_step : (old new : Entries) (w : Key × Option Value) (rest : List (Key × Option Value)) → ((q : Key) → held new q ≡ cond (key_eq w.0 q) w.1 (held old q)) → IsRising (w ∷ rest) → (q : Key) → applied (held new) rest q ≡ applied (held old) (w ∷ rest) q
write_step old new w rest set rises q =
    ap (unwrap_or (find rest q)) (set q ∙ ap (λ b. cond b w.1 (held old q)) (key_eq-symm w.0 q))
    ∙ first_write (key_eq q w.0) w.1 (find rest q) (held old q)
    (λ same. ap (find rest) (key_eq-true q w.0 same) ∙ find-below rest w.0 (first_so _ _ rises))

-- the loop of the writes: what is left, with the facts on it
abbrev pub Left : (Key → Option Value) → Entries → List (Key × Option Value) → Type 0
Left goal entries writes =
    ((q : Key) → applied (held entries) writes q ≡ goal q) × IsRising writes × IsReserved entries writes

pub left_step : (goal : Key → Option Value) (old new : Entries) (writes : List (Key × Option Value)) (i : ℕ) (w : Key × Option Value) → i < length writes → w ≡ get_or writes i w → ((q : Key) → held new q ≡ cond (key_eq w.0 q) w.1 (held old q)) → ((q : Key) → key_eq w.0 q ≡ false → has_entry new q ≡ has_entry old q) → Left goal old (drop i writes) → Left goal new (drop (i + 1) writes)
left_step goal old new writes i w within is set kept left =
    let split : drop i writes ≡ w ∷ drop (i + 1) writes = drop_more writes i w within ∙ ap (λ x. x ∷ drop (i + 1) writes) (sym is) in
    let here : Left goal old (w ∷ drop (i + 1) writes) = subst (Left goal old) split left in (
      (λ q. write_step old new w (drop (i + 1) writes) set here.1 q ∙ here.0 q),
      second_so _ _ here.1,
      reserved_apart old new w.0 (drop (i + 1) writes) kept (first_so _ _ here.1) (second_so _ _ here.2),
    )

-- the entry that the write at i needs
pub reserved_at : (goal : Key → Option Value) (entries : Entries) (writes : List (Key × Option Value)) (i : ℕ) (w : Key × Option Value) → i < length writes → w ≡ get_or writes i w → Left goal entries (drop i writes) → IsTrue (is_none w.1 || has_entry entries w.0)
reserved_at goal entries writes i w within is left =
    let split : drop i writes ≡ w ∷ drop (i + 1) writes = drop_more writes i w within ∙ ap (λ x. x ∷ drop (i + 1) writes) (sym is) in
    first_so _ _ (subst (IsReserved entries) split left.2)

-- the map of the entries that hold these cells
pub cells_of-entries : (entries : Entries) (q : Key) → cells_of (map_of entries.entries) q ≡ held entries q
cells_of-entries entries q = cells_of-map_of entries.entries q

-- what holds in any case holds where there is an error
pub on_err : {T E P : Type 0} (r : Result T E) → P → OnErr r P
on_err (Ok x) p = tt
on_err (Err e) p = p

pub flattened : (o : Option (Option Value)) → option_flatten o ≡ unwrap_or o None
flattened None = refl
flattened (Some cell) = refl

-- the cells that are left to be written are those of the writes that are left: the first of each, and the others
abbrev pub cell_in : Key × Option Value → Option Value
cell_in p = p.1

pub first_left : (cells : List (Option Value)) (writes : List (Key × Option Value)) (i : ℕ) (x : Option Value) (w : Key × Option Value) → length cells ≡ length writes → i < length writes → x ≡ get_or cells i x → w ≡ get_or writes i w → drop i cells ≡ map_list cell_in (drop i writes) → (x ≡ w.1) × (drop (i + 1) cells ≡ map_list cell_in (drop (i + 1) writes))
first_left cells writes i x w same within is_x is_w left =
    let split_x : drop i cells ≡ x ∷ drop (i + 1) cells = drop_more cells i x (omega (arith, same, within)) ∙ ap (λ y. y ∷ drop (i + 1) cells) (sym is_x) in
    let split_w : drop i writes ≡ w ∷ drop (i + 1) writes = drop_more writes i w within ∙ ap (λ y. y ∷ drop (i + 1) writes) (sym is_w) in
    let both_lists : x ∷ drop (i + 1) cells ≡ w.1 ∷ map_list cell_in (drop (i + 1) writes) = sym split_x ∙ left ∙ ap (map_list cell_in) split_w in
    (cc, cc)
