-- The cells that a body reads.
use Rattle.std.proofs.Common.{◌≡◌, ℕ, ◌+◌, ◌<◌, List, [], ◌∷◌, length, take, get_or, Bool, true, false, ◌||◌, cond, Option, Some, None, unwrap_or, refl, sym, ap, ◌∙◌}
use Rattle.std.specs.List.{list_any}
use Rattle.std.proofs.lemmas.Bool.{true≢false}
use Rattle.std.proofs.lemmas.List.Folds.{list_any_more}
use Rattle.acc_value.specs.declared.key.Key.{Key}
use Rattle.acc_value.specs.declared.value.Value.{Value}
use Rattle.acc_value.specs.Key.{key_eq}
use Rattle.acc_value.specs.Pairs.{find, put}
use Rattle.acc_value.specs.Cells.{cell_of}
use Rattle.acc_value.proofs.KeyOrder.{key_eq-true}
use Rattle.acc_value.proofs.Rising.{find-put}

-- a key whose use is found is one of those used
found_used : (uses : List (Key × Bool)) (key : Key) (x : Bool) → find uses key ≡ Some x → list_any (λ other. key_eq key other.0) uses ≡ true
found_used [] key x h = absurd cc
found_used (first ∷ uses) key x h =
    elim (key_eq key first.0) as (λ b. cond b (Some first.1) (find uses key) ≡ Some x → (b || list_any (λ other. key_eq key other.0) uses) ≡ true) [
      | true ↦ λ is. refl
      | false ↦ λ is. found_used uses key x is
    ] h

pub read_used : (uses : List (Key × Bool)) (key : Key) (updated read : Bool) → find uses key ≡ cond updated (Some true) (cond read (Some false) None) → read ≡ true → list_any (λ other. key_eq key other.0) uses ≡ true
read_used uses key true read is reads = found_used uses key true is
read_used uses key false true is reads = found_used uses key false is
read_used uses key false false is reads = absurd (true≢false (sym reads))

-- the cells of one key more
pub cell_more : (uses : List (Key × Bool)) (i : ℕ) (d : Key × Bool) (cells : Key → Option Value) (old new : List (Key × Option Value)) (k : Key) (v : Option Value) → i < length uses → k ≡ (get_or uses i d).0 → new ≡ put old k v → v ≡ cells k
    → ((key : Key) → list_any (λ other. key_eq key other.0) (take i uses) ≡ true → cell_of old key ≡ cells key)
    → (key : Key) → list_any (λ other. key_eq key other.0) (take (i + 1) uses) ≡ true → cell_of new key ≡ cells key
cell_more uses i d cells old new k v within at made is so_far key found =
    ap (λ pairs. cell_of pairs key) made
    ∙ ap (λ o. unwrap_or o None) (find-put old k v key)
    ∙ by_key (key_eq key k) refl (sym (list_any_more (λ (other : Key × Bool). key_eq key other.0) uses i d within) ∙ found)
  where
    left_true : (a b : Bool) → (a || b) ≡ true → b ≡ false → a ≡ true
    left_true true b h none = refl
    left_true false b h none = absurd (true≢false (sym h ∙ none))

    by_key : (b : Bool) → key_eq key k ≡ b → (list_any (λ other. key_eq key other.0) (take i uses) || key_eq key (get_or uses i d).0) ≡ true → unwrap_or (cond b (Some v) (find old key)) None ≡ cells key
    by_key true same any = is ∙ ap cells (sym (key_eq-true key k same))
    by_key false apart any = so_far key (left_true _ _ any (ap (key_eq key) (sym at) ∙ apart))
