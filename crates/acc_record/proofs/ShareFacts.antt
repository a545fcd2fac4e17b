-- The keys of a shard that stand next to one another in a footprint.
use Rattle.std.proofs.Common.{◌≡◌, ◌==◌, ℕ, ◌+◌, ◌-◌, ◌≤◌, Bool, List, [], ◌++◌, length, take, drop, filter, sym, ap, subst, ◌∙◌, arith, append-nil}
use Rattle.std.proofs.lemmas.List.{take_all, length-drop, take-append-drop, drop-drop}
use Rattle.std.proofs.lemmas.List.Elements.{filter-append}
use Rattle.acc_value.specs.declared.key.Key.{Key}
use Rattle.acc_topology.specs.Layout.{Layout}
use Rattle.acc_topology.specs.Keys.{share_of, shard_of_key}

-- what is left of a slice
pub rest_is : (xs : List (Key × Bool)) (n : ℕ) → take (length xs - n) (drop n xs) ≡ drop n xs
rest_is xs n = let l = length-drop n xs in take_all (length xs - n) (drop n xs) (omega arith)

pub rest_length : (xs : List (Key × Bool)) (n : ℕ) → length (take (length xs - n) (drop n xs)) ≡ length xs - n
rest_length xs n = ap length (rest_is xs n) ∙ length-drop n xs

module _ (layout : Layout) (shard : ℕ) where
  abbrev lies : Key × Bool → Bool
  lies x = shard_of_key layout x.0 == shard

  -- the keys in front and those after don't lie in the shard, and those between do
  pub part_is : (xs : List (Key × Bool)) (a b d : ℕ) (inner outer : List (Key × Bool)) → inner ≡ drop a xs → outer ≡ drop (a + b) xs → a + b ≤ length xs → length xs ≤ a + b + d
      → share_of layout (take a xs) shard ≡ [] → share_of layout (take b inner) shard ≡ take b inner → share_of layout (take d outer) shard ≡ []
      → take (a + b - a) (drop a xs) ≡ share_of layout xs shard
  part_is xs a b d inner outer inner_is outer_is within all before between behind =
      let rest = drop a xs in
      let width : a + b - a ≡ b = omega arith in
      let between_is : filter lies (take b rest) ≡ take b rest = subst (λ ys. filter lies (take b ys) ≡ take b ys) inner_is between in
      let long = length-drop (a + b) xs in
      let last : drop b rest ≡ take d outer = drop-drop b a xs ∙ sym (take_all d (drop (a + b) xs) (omega arith)) ∙ ap (take d) (sym outer_is) in
      let parts : filter lies rest ≡ filter lies (take b rest) ++ filter lies (drop b rest) = ap (filter lies) (sym (take-append-drop b rest)) ∙ filter-append lies (take b rest) (drop b rest) in
      let whole : filter lies xs ≡ filter lies (take a xs) ++ filter lies rest = ap (filter lies) (sym (take-append-drop a xs)) ∙ filter-append lies (take a xs) rest in
      ap (λ n. take n rest) width
      ∙ sym (whole ∙ ap (λ ys. ys ++ filter lies rest) before ∙ parts ∙ (λ i. between_is i ++ (ap (filter lies) last ∙ behind) i) ∙ append-nil (take b rest))
