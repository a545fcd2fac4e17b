-- How far a text in quotes reaches, byte by byte.
use Rattle.std.proofs.Common.{◌≡◌, ◌==◌, ℕ, suc, ◌+◌, ◌≤◌, Bool, true, false, not, cond, ◌&&◌, List, [], ◌∷◌, length, take, Option, Some, None, refl, sym, ap, arith}
use Rattle.std.specs.List.{list_all}
use Rattle.acc_token.specs.Tokens.{content, content_len, is_closed, is_plain, is_quote, says_plain, quoted_len}

-- with what the rest adds, these are the extent of the text
pub record Completes (text : List ℕ) (waits : Bool) (rest : List ℕ) (reach len : ℕ) (plain : Bool) : Type 0 where
  pub reach_is : reach + quoted_len waits rest ≡ quoted_len false text
  pub len_is : len + length (content waits rest) ≡ length (content false text)
  pub plain_is : (plain && list_all is_plain (content waits rest)) ≡ says_plain text
  pub closed_is : is_closed waits rest ≡ is_closed false text
  pub within : len ≤ reach

one_more : (quote : Bool) (c : ℕ) (one other : List ℕ) (n : ℕ) → length one ≤ n → length other ≤ n → length (cond quote one (c ∷ other)) ≤ suc n
one_more true c one other n h k = omega (arith, h)
one_more false c one other n h k = omega (arith, k)

one_more_or_none : (quote : Bool) (c : ℕ) (said : List ℕ) (n : ℕ) → length said ≤ n → length (cond quote (c ∷ said) []) ≤ suc n
one_more_or_none true c said n h = omega (arith, h)
one_more_or_none false c said n h = omega arith

within_text : (waits : Bool) (text : List ℕ) → length (content waits text) ≤ length text
within_text false [] = omega arith
within_text true [] = omega arith
within_text false (c ∷ cs) = one_more (is_quote c) c (content true cs) (content false cs) (length cs) (within_text true cs) (within_text false cs)
within_text true (c ∷ cs) = one_more_or_none (is_quote c) c (content false cs) (length cs) (within_text false cs)

chosen_len : (closed : Bool) (said : List ℕ) (len : ℕ) → cond closed (Some (length said)) None ≡ Some len → len ≡ length said
chosen_len true said len is = cc
chosen_len false said len is = cc

-- it says no more bytes than there are
pub content_within : (text : List ℕ) (len : ℕ) → content_len text ≡ Some len → len ≤ length text
content_within text len is = let h = within_text false text in rw (chosen_len (is_closed false text) (content false text) len is) h

nothing : (said : List ℕ) (c : ℕ) (cs : List ℕ) → is_quote c ≡ true → list_all (λ c. not (c == 39)) (take (length said) (c ∷ cs)) ≡ true → said ≡ take (length said) (c ∷ cs)
nothing [] c cs quote none = refl
nothing (d ∷ ds) c cs quote none = cc

all_behind : (a b : Bool) → (a && b) ≡ true → b ≡ true
all_behind true b is = is
all_behind false b is = cc

step : (quote : Bool) (c : ℕ) (cs one other : List ℕ) → is_quote c ≡ quote
    → (list_all (λ c. not (c == 39)) (take (length other) cs) ≡ true → other ≡ take (length other) cs)
    → list_all (λ c. not (c == 39)) (take (length (cond quote one (c ∷ other))) (c ∷ cs)) ≡ true
    → cond quote one (c ∷ other) ≡ take (length (cond quote one (c ∷ other))) (c ∷ cs)
step true c cs one other quote h none = nothing one c cs quote none
step false c cs one other quote h none = ap (λ ds. c ∷ ds) (h (all_behind (not (c == 39)) (list_all (λ c. not (c == 39)) (take (length other) cs)) none))

written : (text : List ℕ) → list_all (λ c. not (c == 39)) (take (length (content false text)) text) ≡ true → content false text ≡ take (length (content false text)) text
written [] none = refl
written (c ∷ cs) none = step (is_quote c) c cs (content true cs) (content false cs) refl (written cs) none

-- where no quote stands among the bytes that it says, none is doubled
pub as_written : (text : List ℕ) (len : ℕ) → content_len text ≡ Some len → list_all (λ c. not (c == 39)) (take len text) ≡ true → take len text ≡ content false text
as_written text len is none =
    let same = chosen_len (is_closed false text) (content false text) len is in
    rw same (sym (written text (rw same at none)))
