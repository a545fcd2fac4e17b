-- Lists that are made of the numbers from one on.
use Rattle.std.proofs.Common.{◌≡◌, ℕ, zero, suc, ◌+◌, ◌<◌, List, [], ◌∷◌, ◌++◌, flat_map, map, refl, sym, ap, ap₂, subst, ◌∙◌, arith, append-nil, append_assoc}
use Rattle.std.specs.List.{range_with_len}
use Rattle.std.proofs.lemmas.List.{map-append}

module _ {X : Type 0} where
  -- one piece more
  pub pieces_more : (piece : ℕ → List X) (a n j : ℕ) → a + n ≡ j → flat_map piece (range_with_len a (n + 1)) ≡ flat_map piece (range_with_len a n) ++ piece j
  pieces_more piece a zero j e = let last : a ≡ j = omega arith in append-nil (piece a) ∙ ap piece last
  pieces_more piece a (suc n) j e =
      let up : suc n + 1 ≡ suc (n + 1) = omega arith in
      ap (λ (k : ℕ). flat_map piece (range_with_len a k)) up
      ∙ ap (λ l. piece a ++ l) (pieces_more piece (a + 1) n j (omega arith))
      ∙ sym (append_assoc (piece a) (flat_map piece (range_with_len (a + 1) n)) (piece j))

  -- what holds of the rest, and goes on over each piece in front of it, holds of all
  pub over_pieces : (P : List X → Type 0) (piece : ℕ → List X) (rest : List X) → P rest → (a n : ℕ)
      → ((i : ℕ) (behind : List X) → i < a + n → P behind → P (piece i ++ behind))
      → P (flat_map piece (range_with_len a n) ++ rest)
  over_pieces P piece rest h a zero each = h
  over_pieces P piece rest h a (suc n) each =
      let more = over_pieces P piece rest h (a + 1) n (λ i behind lt hs. each i behind (omega arith) hs) in
      subst P (sym (append_assoc (piece a) (flat_map piece (range_with_len (a + 1) n)) rest)) (each a _ (omega arith) more)

module _ {Y Z : Type 0} (g : Y → Z) where
  -- what is seen of each element is seen of all
  pub seen_each : {X : Type 0} (f : X → Y) (h : X → Z) → ((x : X) → g (f x) ≡ h x) → (xs : List X) → map g (map f xs) ≡ map h xs
  seen_each f h same [] = refl
  seen_each f h same (x ∷ xs) = ap₂ (λ y ys. y ∷ ys) (same x) (seen_each f h same xs)

  -- and of each piece
  pub seen_pieces : (f : ℕ → List Y) (h : ℕ → List Z) (a n : ℕ) → ((i : ℕ) → i < a + n → map g (f i) ≡ h i) → map g (flat_map f (range_with_len a n)) ≡ flat_map h (range_with_len a n)
  seen_pieces f h a zero same = refl
  seen_pieces f h a (suc n) same =
      map-append g (f a) (flat_map f (range_with_len (a + 1) n)) ∙ ap₂ (λ (y ys : List Z). y ++ ys) (same a (omega arith)) (seen_pieces f h (a + 1) n (λ i lt. same i (omega arith)))
