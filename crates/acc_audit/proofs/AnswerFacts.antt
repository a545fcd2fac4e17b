-- The cells that a body reads.
use Rattle.std.proofs.Common.{◌≡◌, ℕ, ◌+◌, ◌<◌, List, length, map, take, get_or, Bool, true, false, ◌||◌, cond, Option, Some, unwrap_or, None, refl, sym, ap, ◌∙◌}
use Rattle.std.specs.List.{list_any}
use Rattle.std.proofs.lemmas.Bool.{true≢false}
use Rattle.std.proofs.lemmas.List.Folds.{list_any-append, list_any_more}
use Rattle.acc_value.specs.declared.key.Key.{Key}
use Rattle.acc_value.specs.declared.value.Value.{Value}
use Rattle.acc_value.specs.Key.{key_eq}
use Rattle.acc_value.specs.Pairs.{find, put}
use Rattle.acc_value.specs.Cells.{cell_of}
use Rattle.acc_value.proofs.KeyOrder.{key_eq-true}
use Rattle.acc_value.proofs.Rising.{find-put}
use Rattle.acc_schedule.proofs.FieldFacts.{list_any-map}
use Rattle.acc_txn.specs.declared.parts.Let.{Let}
use Rattle.acc_txn.specs.declared.parts.BodyParts.{BodyParts}
use Rattle.acc_txn.specs.Uses.{is_read, selected_keys}

-- one cell more
pub cell_added : (cells : Key → Option Value) (old new : List (Key × Option Value)) (key k : Key) (v : Option Value) → k ≡ key → v ≡ cells key → new ≡ put old k v
    → (q : Key) → cell_of new q ≡ cond (key_eq q key) (cells q) (cell_of old q)
cell_added cells old new key k v same is made q =
    ap (λ pairs. cell_of pairs q) made
    ∙ ap (λ o. unwrap_or o None) (find-put old k v q)
    ∙ ap (λ (other : Key). unwrap_or (cond (key_eq q other) (Some v) (find old q)) None) same
    ∙ by_key (key_eq q key) refl
  where
    by_key : (b : Bool) → key_eq q key ≡ b → unwrap_or (cond b (Some v) (find old q)) None ≡ cond b (cells q) (cell_of old q)
    by_key true it = is ∙ ap cells (sym (key_eq-true q key it))
    by_key false it = refl

left_true : (a b : Bool) → (a || b) ≡ true → b ≡ false → a ≡ true
left_true true b h none = refl
left_true false b h none = absurd (true≢false (sym h ∙ none))

-- the cells of one LET more
pub let_more : (lets : List Let) (i : ℕ) (d : Let) (cells : Key → Option Value) (old new : List (Key × Option Value)) → i < length lets → d ≡ get_or lets i d
    → ((q : Key) → cell_of new q ≡ cond (key_eq q d.key) (cells q) (cell_of old q))
    → ((q : Key) → list_any (λ l. key_eq q l.key) (take i lets) ≡ true → cell_of old q ≡ cells q)
    → (q : Key) → list_any (λ l. key_eq q l.key) (take (i + 1) lets) ≡ true → cell_of new q ≡ cells q
let_more lets i d cells old new within at added so_far q found =
    let among : (list_any (λ l. key_eq q l.key) (take i lets) || key_eq q d.key) ≡ true =
    ap (λ (l : Let). list_any (λ m. key_eq q m.key) (take i lets) || key_eq q l.key) at ∙ sym (list_any_more (λ (l : Let). key_eq q l.key) lets i d within) ∙ found in
    added q ∙ by_key (key_eq q d.key) refl among
  where
    by_key : (b : Bool) → key_eq q d.key ≡ b → (list_any (λ l. key_eq q l.key) (take i lets) || b) ≡ true → cond b (cells q) (cell_of old q) ≡ cells q
    by_key true it any = refl
    by_key false it any = so_far q (left_true _ false any refl)

-- the cells of LETs and of a select are those that a body reads
pub all_read : (parts : BodyParts) (cells : Key → Option Value) (old new : List (Key × Option Value))
    → ((q : Key) → list_any (λ l. key_eq q l.key) parts.lets ≡ true → cell_of old q ≡ cells q)
    → ((q : Key) → cell_of new q ≡ cond (list_any (key_eq q) (selected_keys parts.select)) (cells q) (cell_of old q))
    → (q : Key) → is_read parts q ≡ true → cell_of new q ≡ cells q
all_read parts cells old new bound added q reads =
    let lets : List Key = map (λ l. l.key) parts.lets in
    let both : (list_any (key_eq q) lets || list_any (key_eq q) (selected_keys parts.select)) ≡ true = sym (list_any-append (key_eq q) lets (selected_keys parts.select)) ∙ reads in
    added q ∙ by_select (list_any (key_eq q) (selected_keys parts.select)) both
  where
    by_select : (b : Bool) → (list_any (key_eq q) (map (λ l. l.key) parts.lets) || b) ≡ true → cond b (cells q) (cell_of old q) ≡ cells q
    by_select true any = refl
    by_select false any = bound q (sym (list_any-map (key_eq q) (λ (l : Let). l.key) parts.lets) ∙ left_true _ false any refl)
