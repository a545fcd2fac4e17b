-- Stamps as pairs of h and origin.
use Rattle.std.specs.Prelude.{ℕ, ◌==◌, Bool, not, ◌&&◌, ◌||◌, nat_lt, List, map, filter}
use Rattle.std.specs.List.{zip}

-- by h, and of equal h by origin
abbrev pub pair_lt : ℕ × ℕ → ℕ × ℕ → Bool
pair_lt a b = nat_lt a.0 b.0 || ((a.0 == b.0) && nat_lt a.1 b.1)

abbrev pub pair_le : ℕ × ℕ → ℕ × ℕ → Bool
pair_le a b = not (pair_lt b a)

abbrev pub pair_eq : ℕ × ℕ → ℕ × ℕ → Bool
pair_eq a b = (a.0 == b.0) && (a.1 == b.1)

-- the elements at whose places the mask is true
abbrev pub chosen : {X : Type 0} → List Bool → List X → List X
chosen mask xs = map (λ e. e.1) (filter (λ e. e.0) (zip mask xs))
