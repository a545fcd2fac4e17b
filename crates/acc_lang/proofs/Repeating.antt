-- One more of a repetition, the last, and a fault within one.
use Rattle.std.proofs.Common.{◌≡◌, ◌<◌, ◌≤◌, ℕ, zero, suc, ◌+◌, ◌-◌, ◌==◌, Bool, true, false, List, Ok, refl, ap, ◌∙◌, subst, arith}
use Rattle.acc_token.specs.Tokens.{Token, token_at}
use Rattle.acc_lang.specs.declared.fault.ReadError.{ReadError}
use Rattle.acc_lang.specs.Answer.{Fails}
use Rattle.acc_lang.specs.Reading.{Reads, each}
use Rattle.acc_lang.proofs.Taking.{fails_on}

module _ {S : Type 0} (again : Token → Bool) (one : Bool → S → List ℕ → Reads S) where
  pub stops : (room : ℕ) (so_far : S) (text : List ℕ) → again (token_at text) ≡ false → each again one room so_far text ≡ Ok (so_far, text)
  unfolding each
  stops zero so_far text none = rw none refl
  stops (suc room) so_far text none = rw none refl

  pub goes_on : (room : ℕ) (so_far : S) (text : List ℕ) (next : S × List ℕ) → again (token_at text) ≡ true → one false so_far text ≡ Ok next
      → each again one (suc room) so_far text ≡ each again one room next.0 next.1
  unfolding each
  goes_on room so_far text next more read = rw more (rw read refl)

  fails : (room : ℕ) (so_far : S) (text : List ℕ) (error : ReadError) → again (token_at text) ≡ true → Fails error (one false so_far text)
      → Fails error (each again one (suc room) so_far text)
  unfolding each
  fails room so_far text error more failed = rw more (fails_on error (one false so_far text) _ failed)

  fails_full : (so_far : S) (text : List ℕ) (error : ReadError) → again (token_at text) ≡ true → Fails error (one true so_far text)
      → Fails error (each again one zero so_far text)
  unfolding each
  fails_full so_far text error more failed = rw more failed

  -- the same where so many of the most that there may be are read already
  module _ (most count : ℕ) (so_far : S) (text : List ℕ) where
    pub ended : again (token_at text) ≡ false → each again one (most - count) so_far text ≡ Ok (so_far, text)
    ended none = stops (most - count) so_far text none

    pub continued : (next : S × List ℕ) (more : ℕ) → again (token_at text) ≡ true → count < most → more ≡ count + 1 → one false so_far text ≡ Ok next
        → each again one (most - count) so_far text ≡ each again one (most - more) next.0 next.1
    continued next more begins few counts read =
        let room : most - count ≡ suc (most - more) = omega arith in
        ap (λ n. each again one n so_far text) room ∙ goes_on (most - more) so_far text next begins read

module _ {S : Type 0} (again : Token → Bool) (one : Bool → S → List ℕ → Reads S) (most count : ℕ) (so_far : S) (text : List ℕ) (error : ReadError) where
  failed_at : (extra : Bool) → again (token_at text) ≡ true → count ≤ most → extra ≡ (count == most) → Fails error (one extra so_far text)
      → Fails error (each again one (most - count) so_far text)
  failed_at true begins few is failed =
      let full : zero ≡ most - count = grind arith in
      subst (λ n. Fails error (each again one n so_far text)) full (fails_full again one so_far text error begins failed)
  failed_at false begins few is failed =
      let room : suc (most - count - 1) ≡ most - count = grind arith in
      subst (λ n. Fails error (each again one n so_far text)) room (fails again one (most - count - 1) so_far text error begins failed)

  -- a fault within one more
  pub failed : again (token_at text) ≡ true → count ≤ most → Fails error (one (count == most) so_far text)
      → Fails error (each again one (most - count) so_far text)
  failed begins few at = failed_at (count == most) begins few refl at
