-- Lists gone through one by one, and tables with a value for each name.
use Rattle.std.proofs.Common.{◌≡◌, ℕ, zero, suc, ◌+◌, ◌<◌, List, [], ◌∷◌, ◌++◌, length, map, take, get_or, set, Bool, true, false, not, ◌||◌, cond, refl, sym, ap, ap₂, subst, ◌∙◌, arith}
use Rattle.std.specs.List.{list_any}
use Rattle.std.specs.Str.{bytes_eq}
use Rattle.std.proofs.lemmas.Bool.{true≢false, false_from_ne_true}
use Rattle.std.proofs.lemmas.List.{get_or_default, take_more}
use Rattle.std.proofs.lemmas.Slice.Eq.{bytes_eq-Decides}
use Rattle.acc_audit.specs.Rules.{Differ}
use Rattle.acc_audit.proofs.NumberFacts.{is_new-differ}

-- the item of a loop over these items is the one at this place of an equal list
pub item_at : {X : Type 0} (items xs : List X) (i : ℕ) (item d : X) → items ≡ xs → i < length items → item ≡ get_or items i item → item ≡ get_or xs i d
item_at {X = X} items xs i item d same within is =
    is ∙ ap (λ (l : List X). get_or l i item) same ∙ get_or_default xs i item d (subst (λ (l : List X). i < length l) same within)

pub within_of : {X : Type 0} (items xs : List X) (i : ℕ) → items ≡ xs → i < length items → i < length xs
within_of {X = X} items xs i same within = subst (λ (l : List X). i < length l) same within

-- a table of names with one name more
pub one_name_more : (names : List (List ℕ)) (i : ℕ) (item : List ℕ) (old new : List (List ℕ)) (added : Bool) → Differ names → i < length names → item ≡ get_or names i [] → old ≡ take i names
    → added ≡ not (list_any (bytes_eq item) old) → new ≡ cond added (old ++ item ∷ []) old → new ≡ take (i + 1) names
one_name_more names i item old new added differ within at so_far is made =
    let fresh : list_any (bytes_eq item) old ≡ false = (λ j. list_any (bytes_eq (at j)) (so_far j)) ∙ is_new-differ names i differ within in
    let yes : added ≡ true = is ∙ ap not fresh in
    made ∙ ap (λ b. cond b (old ++ item ∷ []) old) yes ∙ (λ j. so_far j ++ at j ∷ []) ∙ sym (take_more names i [] within)

-- ---- tables

map_alike : {A X : Type 0} (f g : A → X) (xs : List A) (d : A) → ((k : ℕ) → k < length xs → g (get_or xs k d) ≡ f (get_or xs k d)) → map f xs ≡ map g xs
map_alike f g [] d alike = refl
map_alike f g (x ∷ xs) d alike = ap₂ ◌∷◌ (sym (alike 0 (omega arith))) (map_alike f g xs d (λ k within. alike (suc k) (omega arith)))

-- a table with another value at one place
pub table-set : {A X : Type 0} (f g : A → X) (xs : List A) (n : ℕ) (v : X) (d : A) → n < length xs → g (get_or xs n d) ≡ v → ((k : ℕ) → k < length xs → (k ≡ n → ⊥) → g (get_or xs k d) ≡ f (get_or xs k d))
    → set (map f xs) n v ≡ map g xs
table-set f g [] n v d within here others = absurd (omega arith)
table-set f g (x ∷ xs) zero v d within here others =
    ap₂ ◌∷◌ (sym here) (map_alike f g xs d (λ k in_range. others (suc k) (omega arith) (λ e. omega arith)))
table-set f g (x ∷ xs) (suc n) v d within here others =
    ap₂ ◌∷◌ (sym (others 0 (omega arith) (λ e. omega arith))) (table-set f g xs n v d (omega arith) here (λ k in_range other. others (suc k) (omega arith) (λ e. other (omega (arith, e)))))

-- a table that stays as it is
pub table-same : {X : Type 0} (f g : List ℕ → X) (names : List (List ℕ)) → ((k : ℕ) → k < length names → g (get_or names k []) ≡ f (get_or names k [])) → map f names ≡ map g names
table-same f g names alike = map_alike f g names [] alike

-- a table of names that differ, with another value for one name
pub name-set : {X : Type 0} (f g : List ℕ → X) (names : List (List ℕ)) (n : ℕ) (v : X) (name : List ℕ) → Differ names → n < length names → get_or names n [] ≡ name → g name ≡ v
    → ((other : List ℕ) → bytes_eq other name ≡ false → g other ≡ f other) → set (map f names) n v ≡ map g names
name-set f g names n v name differ within at here others =
    table-set f g names n v [] within (ap g at ∙ here) (λ k in_range apart.
    others (get_or names k []) (false_from_ne_true (bytes_eq (get_or names k []) name) (λ same.
    apart (differ k n in_range within ((bytes_eq-Decides (get_or names k []) name).0 same ∙ sym at)))))

-- a name that is unknown is none of the table's
pub name-unknown : {X : Type 0} (f g : List ℕ → X) (names : List (List ℕ)) (name : List ℕ) → list_any (bytes_eq name) names ≡ false
    → ((other : List ℕ) → bytes_eq name other ≡ false → g other ≡ f other) → map f names ≡ map g names
name-unknown f g [] name unknown others = refl
name-unknown f g (x ∷ xs) name unknown others =
    let parts = both_false (bytes_eq name x) (list_any (bytes_eq name) xs) unknown in
    ap₂ ◌∷◌ (sym (others x parts.0)) (name-unknown f g xs name parts.1 others)
  where
    both_false : (a b : Bool) → (a || b) ≡ false → (a ≡ false) × (b ≡ false)
    both_false false b h = (refl, h)
    both_false true b h = absurd (true≢false h)
