-- The steps of the reopening, one actor after another.
use Rattle.std.proofs.Common.{◌≡◌, List, [], ◌∷◌, ◌++◌, Option, None, Some, ◌∙◌, ap}
use Rattle.std.specs.List.{cons_option, filter_map}
use Rattle.std.proofs.lemmas.List.{append_assoc}

-- what the next element gives stands after what the ones before gave
pub one_given : {X Y : Type 0} (f : X → Option Y) (y : Y) (x : X) (xs : List X) (ys whole : List Y) → Some y ≡ f x → ys ++ filter_map f (x ∷ xs) ≡ whole
    → (ys ++ y ∷ []) ++ filter_map f xs ≡ whole
one_given f y x xs ys whole is so_far = append_assoc ys (y ∷ []) (filter_map f xs) ∙ ap (λ o. ys ++ cons_option o (filter_map f xs)) is ∙ so_far

pub none_given : {X Y : Type 0} (f : X → Option Y) (x : X) (xs : List X) (ys whole : List Y) → None ≡ f x → ys ++ filter_map f (x ∷ xs) ≡ whole
    → ys ++ filter_map f xs ≡ whole
none_given f x xs ys whole is so_far = ap (λ o. ys ++ cons_option o (filter_map f xs)) is ∙ so_far
