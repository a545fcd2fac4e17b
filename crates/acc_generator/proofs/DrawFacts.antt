-- Which draws a transaction takes.
use Rattle.std.proofs.Common.{◌≡◌, ◌⊎◌, ℕ, suc, ◌+◌, ◌-◌, ◌*◌, ◌/◌, ◌%◌, ◌^◌, ◌<◌, ◌≤◌, inl, inr, refl, sym, ap, ◌∙◌, arith, lt-ltb, le-ltb}
use Rattle.std.proofs.lemmas.Bool.{cases_lt}
use Rattle.acc_generator.specs.Draws.{next_state, state_after, draw_after}
use Rattle.acc_generator.specs.Texts.{first_text, later_text, text_from, state_before, state_behind}

pub first_text_from : (state number : ℕ) → number < 64 → text_from state number ≡ first_text number
unfolding text_from
first_text_from state number lt = rw (lt-ltb number 64 lt)

pub first_behind : (state number : ℕ) → number < 64 → state_behind state number ≡ state
unfolding state_behind
first_behind state number lt = rw (lt-ltb number 64 lt)

pub later_text_from : (state number : ℕ) → 64 ≤ number → text_from state number ≡ later_text (draw_after state 0 % 64) (draw_after state 1 % 64) (draw_after state 2 % 100)
unfolding text_from
later_text_from state number le = rw (le-ltb number 64 le)

pub later_behind : (state number : ℕ) → 64 ≤ number → state_behind state number ≡ state_after state 3
unfolding state_behind
later_behind state number le = rw (le-ltb number 64 le)

-- three draws, one after another
pub record AreDraws (state one two three a b c : ℕ) : Type 0 where
  pub first : one ≡ next_state state
  pub second : two ≡ next_state one
  pub third : three ≡ next_state two
  pub a_is : a ≡ one / 2 ^ 33
  pub b_is : b ≡ two / 2 ^ 33
  pub c_is : c ≡ three / 2 ^ 33

module _ (state one two three a b c number : ℕ) (is : AreDraws state one two three a b c) (le : 64 ≤ number) where
  two_is : two ≡ state_after state 2
  two_is = is.second ∙ ap next_state is.first

  three_is : three ≡ state_after state 3
  three_is = is.third ∙ ap next_state two_is

  pub drawn_behind : three ≡ state_behind state number
  drawn_behind = three_is ∙ sym (later_behind state number le)

  pub drawn_text : later_text (a % 64) (b % 64) (c % 100) ≡ text_from state number
  drawn_text =
      ap (λ (n : ℕ). later_text (n % 64) (b % 64) (c % 100)) (is.a_is ∙ ap (λ (s : ℕ). s / 2 ^ 33) is.first)
      ∙ ap (λ (n : ℕ). later_text (draw_after state 0 % 64) (n % 64) (c % 100)) (is.b_is ∙ ap (λ (s : ℕ). s / 2 ^ 33) two_is)
      ∙ ap (λ (n : ℕ). later_text (draw_after state 0 % 64) (draw_after state 1 % 64) (n % 100)) (is.c_is ∙ ap (λ (s : ℕ). s / 2 ^ 33) three_is)
      ∙ sym (later_text_from state number le)

pub before_first : (seed : ℕ) → seed ≡ state_before seed 0
unfolding state_before
before_first seed = refl

pub state_step : (seed number : ℕ) → state_behind (state_before seed number) number ≡ state_before seed (number + 1)
unfolding state_before
state_step seed number = step (cases_lt number 64)
  where
    step : (number < 64) ⊎ (64 ≤ number) → state_behind (state_after seed (3 * (number - 64))) number ≡ state_after seed (3 * (number + 1 - 64))
    step (inl lt) =
        let same : 3 * (number - 64) ≡ 3 * (number + 1 - 64) = omega arith in
        first_behind (state_after seed (3 * (number - 64))) number lt ∙ ap (state_after seed) same
    step (inr le) =
        let more : suc (suc (suc (3 * (number - 64)))) ≡ 3 * (number + 1 - 64) = omega arith in
        later_behind (state_after seed (3 * (number - 64))) number le ∙ ap (state_after seed) more
