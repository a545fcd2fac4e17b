-- Writes laid over others, one after another.
use Rattle.std.proofs.Common.{◌≡◌, ℕ, ◌+◌, ◌<◌, ◌==◌, Bool, true, false, cond, List, [], ◌∷◌, ◌++◌, length, get_or, drop, filter, Option, None, Some, unwrap_or, sym, refl, ap, ◌∙◌, subst}
use Rattle.std.specs.Bool.{IsTrue}
use Rattle.std.specs.Cmp.{first_so, second_so}
use Rattle.std.proofs.lemmas.List.{drop_more}
use Rattle.acc_topology.specs.Layout.{Layout}
use Rattle.acc_topology.specs.Keys.{shard_of_key}
use Rattle.acc_value.specs.declared.key.Key.{Key}
use Rattle.acc_value.specs.declared.value.Value.{Value}
use Rattle.acc_value.specs.Key.{key_eq}
use Rattle.acc_value.specs.Cells.{applied}
use Rattle.acc_value.specs.Pairs.{IsRising, find, put}
use Rattle.acc_value.proofs.KeyOrder.{key_eq-true}
use Rattle.acc_value.proofs.Rising.{find-put, find-below, IsRising-filter}

abbrev pub Writes : Type 0
Writes = List (Key × Option Value)

-- the writes to the keys of a shard
abbrev pub of_shard : Layout → ℕ → Writes → Writes
of_shard layout shard writes = filter (λ w. shard_of_key layout w.0 == shard) writes

first_write : (b : Bool) (cell : Option Value) (later found : Option (Option Value)) (before : Option Value) → (b ≡ true → later ≡ None)
    → unwrap_or later (unwrap_or (cond b (Some cell) found) before) ≡ unwrap_or (cond b (Some cell) later) (unwrap_or found before)
first_write true cell later found before none = ap (λ o. unwrap_or o cell) (none refl)
first_write false cell later found before none = refl

put_over : (cells : Key → Option Value) (old : Writes) (w : Key × Option Value) (later : Writes) → IsRising (w ∷ later) → (q : Key)
    → applied (applied cells (put old w.0 w.1)) later q ≡ applied (applied cells old) (w ∷ later) q
put_over cells old w later rises q =
    ap (λ o. unwrap_or (find later q) (unwrap_or o (cells q))) (find-put old w.0 w.1 q)
    ∙ first_write (key_eq q w.0) w.1 (find later q) (find old q) (cells q)
    (λ same. ap (find later) (key_eq-true q w.0 same) ∙ find-below later w.0 (first_so _ _ rises))

-- one write more is laid over those before
over_step : (layout : Layout) (shard : ℕ) (cells : Key → Option Value) (old : Writes) (w : Key × Option Value) (rest : Writes) (b : Bool)
    → (shard_of_key layout w.0 == shard) ≡ b → IsRising (w ∷ rest) → (q : Key)
    → applied (applied cells (cond b (put old w.0 w.1) old)) (of_shard layout shard rest) q
    ≡ applied (applied cells old) (cond b (w ∷ of_shard layout shard rest) (of_shard layout shard rest)) q
over_step layout shard cells old w rest false e rises q = refl
over_step layout shard cells old w rest true e rises q =
    put_over cells old w (of_shard layout shard rest)
    (subst (λ b. IsRising (cond b (w ∷ of_shard layout shard rest) (of_shard layout shard rest))) e
    (IsRising-filter (λ key. shard_of_key layout key == shard) (w ∷ rest) rises)) q

-- with the writes that are left, the cells come to what all writes make of those before
abbrev pub Left : Layout → ℕ → Writes → Writes → Writes → Writes → Type 0
Left layout shard before all now left =
    IsRising left
    × ((cells : Key → Option Value) (q : Key)
    → applied (applied cells now) (of_shard layout shard left) q ≡ applied (applied cells before) (of_shard layout shard all) q)

pub left_step : (layout : Layout) (shard : ℕ) (before all old new : Writes) (i : ℕ) (w : Key × Option Value) → i < length all → w ≡ get_or all i w
    → new ≡ cond (shard_of_key layout w.0 == shard) (put old w.0 w.1) old → Left layout shard before all old (drop i all)
    → Left layout shard before all new (drop (i + 1) all)
left_step layout shard before all old new i w within is made left =
    let rest : Writes = drop (i + 1) all in
    let split : drop i all ≡ w ∷ rest = drop_more all i w within ∙ ap (λ x. x ∷ rest) (sym is) in
    let here : Left layout shard before all old (w ∷ rest) = subst (Left layout shard before all old) split left in (
      second_so _ _ here.0,
      λ cells q.
          ap (λ list. applied (applied cells list) (of_shard layout shard rest) q) made
          ∙ over_step layout shard cells old w rest (shard_of_key layout w.0 == shard) refl here.0 q ∙ here.1 cells q,
    )
