-- Cells put in one after another: those of one shard's keys, in the order of the keys.
use Rattle.std.proofs.Common.{◌≡◌, ℕ, ◌+◌, ◌<◌, ◌≤◌, Bool, true, false, cond, List, ◌∷◌, Option, Some, None, length, get_or, drop, refl, sym, ap, subst, ◌∙◌, unwrap_or}
use Rattle.std.specs.Prelude.{◌==◌, if◌then◌else◌}
use Rattle.std.specs.Cmp.{first_so, second_so}
use Rattle.std.proofs.lemmas.List.{drop_more, drop_all}
use Rattle.acc_value.specs.declared.key.Key.{Key}
use Rattle.acc_value.specs.declared.value.Value.{Value}
use Rattle.acc_value.specs.Key.{key_eq}
use Rattle.acc_value.specs.Pairs.{IsRising, find, put}
use Rattle.acc_value.specs.Cells.{cell_of, applied}
use Rattle.acc_value.proofs.KeyOrder.{key_eq-true}
use Rattle.acc_value.proofs.Rising.{find-below, find-put}
use Rattle.acc_topology.specs.Layout.{Layout}
use Rattle.acc_topology.specs.Keys.{shard_of_key}

abbrev pub Pair : Type 0
Pair = Key × Option Value

pick : {A : Type 0} (b : Bool) (x y u v : A) → (b ≡ true → x ≡ u) → (b ≡ false → y ≡ v) → (if b then x else y) ≡ (if b then u else v)
pick true x y u v h k = h refl
pick false x y u v h k = k refl

contrary : {A : Type 0} (b : Bool) → b ≡ true → b ≡ false → A
contrary true h k = cc
contrary false h k = cc

-- a key that is put has its cell, every other key the one that it had
cell_put : (same : Bool) (cell : Option Value) (before : Option (Option Value)) → unwrap_or (cond same (Some cell) before) None ≡ cond same cell (unwrap_or before None)
cell_put true cell before = refl
cell_put false cell before = refl

first_write : (same : Bool) (cell : Option Value) (later : Option (Option Value)) (before : Option Value) → (same ≡ true → later ≡ None) → unwrap_or later (cond same cell before) ≡ unwrap_or (cond same (Some cell) later) before
first_write true cell later before none = ap (λ o. unwrap_or o cell) (none refl)
first_write false cell later before none = refl

kept : (same : Bool) (cell before : Option Value) → (same ≡ true → cond same cell before ≡ before) → cond same cell before ≡ before
kept true cell before h = h refl
kept false cell before h = refl

not_first : (same : Bool) (cell : Option Value) (later : Option (Option Value)) → (same ≡ true → later ≡ cond same (Some cell) later) → later ≡ cond same (Some cell) later
not_first true cell later h = h refl
not_first false cell later h = refl

module _ (layout : Layout) (shard : ℕ) where
  abbrev pub is_in : Key → Bool
  is_in key = shard_of_key layout key == shard

  -- the cells once the writes to the shard's keys are made
  abbrev pub merged : (Key → Option Value) → List Pair → Key → Option Value
  merged cells writes key = if is_in key then applied cells writes key else cells key

  -- with the pairs that are left, the cells so far come to these
  pub record Left (goal : Key → Option Value) (so_far rest : List Pair) : Type 0 where
    pub comes : (key : Key) → merged (cell_of so_far) rest key ≡ goal key
    pub rising : IsRising rest

  -- a pair of the shard is put in
  puts : (so_far rest : List Pair) (w : Pair) → is_in w.0 ≡ true → IsRising (w ∷ rest) → (key : Key) → merged (cell_of (put so_far w.0 w.1)) rest key ≡ merged (cell_of so_far) (w ∷ rest) key
  puts so_far rest w there rises key =
      let now : cell_of (put so_far w.0 w.1) key ≡ cond (key_eq key w.0) w.1 (cell_of so_far key) =
      ap (λ o. unwrap_or o None) (find-put so_far w.0 w.1 key) ∙ cell_put (key_eq key w.0) w.1 (find so_far key) in
      pick (is_in key) _ _ _ _
      (λ inside. ap (unwrap_or (find rest key)) now
      ∙ first_write (key_eq key w.0) w.1 (find rest key) (cell_of so_far key) (λ same. ap (find rest) (key_eq-true key w.0 same) ∙ find-below rest w.0 (first_so _ _ rises)))
      (λ outside. now ∙ kept (key_eq key w.0) w.1 (cell_of so_far key) (λ same. contrary (is_in key) (ap is_in (key_eq-true key w.0 same) ∙ there) outside))

  -- a pair of another shard is left out
  leaves : (cells : Key → Option Value) (rest : List Pair) (w : Pair) → is_in w.0 ≡ false → (key : Key) → merged cells rest key ≡ merged cells (w ∷ rest) key
  leaves cells rest w apart key =
      pick (is_in key) _ _ _ _
      (λ inside. ap (λ o. unwrap_or o (cells key)) (not_first (key_eq key w.0) w.1 (find rest key) (λ same. contrary (is_in key) inside (ap is_in (key_eq-true key w.0 same) ∙ apart))))
      (λ outside. refl)

  -- the first of the pairs that are left
  module _ (goal : Key → Option Value) (so_far pairs : List Pair) (i : ℕ) (w : Pair) (within : i < length pairs) (is : w ≡ get_or pairs i w) where
    first_left : drop i pairs ≡ w ∷ drop (i + 1) pairs
    first_left = drop_more pairs i w within ∙ ap (λ x. x ∷ drop (i + 1) pairs) (sym is)

    pub step_in : is_in w.0 ≡ true → Left goal so_far (drop i pairs) → Left goal (put so_far w.0 w.1) (drop (i + 1) pairs)
    step_in there left =
        let here : Left goal so_far (w ∷ drop (i + 1) pairs) = subst (Left goal so_far) first_left left in
        record { comes = λ key. puts so_far (drop (i + 1) pairs) w there here.rising key ∙ here.comes key; rising = second_so _ _ here.rising }

    pub step_over : is_in w.0 ≡ false → Left goal so_far (drop i pairs) → Left goal so_far (drop (i + 1) pairs)
    step_over apart left =
        let here : Left goal so_far (w ∷ drop (i + 1) pairs) = subst (Left goal so_far) first_left left in
        record { comes = λ key. leaves (cell_of so_far) (drop (i + 1) pairs) w apart key ∙ here.comes key; rising = second_so _ _ here.rising }

  alike : (b : Bool) (x : Option Value) → (if b then x else x) ≡ x
  alike true x = refl
  alike false x = refl

  pub nothing_left : (goal : Key → Option Value) (so_far pairs : List Pair) (i : ℕ) → length pairs ≤ i → Left goal so_far (drop i pairs) → (key : Key) → cell_of so_far key ≡ goal key
  nothing_left goal so_far pairs i all left key =
      sym (alike (is_in key) (cell_of so_far key)) ∙ ap (λ ps. merged (cell_of so_far) ps key) (sym (drop_all i pairs all)) ∙ left.comes key
