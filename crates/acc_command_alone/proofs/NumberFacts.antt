-- What `clap` makes of a word that is to be a number.
use Rattle.std.proofs.Common.{◌≡◌, ℕ, ◌<◌, ◌^◌, Bool, true, false, List, [], ◌∷◌, Option, Some, None, Result, Ok, Err, codes, inl, inr, refl, sym, ap, subst, ◌∙◌, arith}
use Rattle.std.specs.Str.Parse.{ParsesUnsigned}
use Rattle.clap.specs.Faults.{fault_of, is_simple_and_free}
use Rattle.clap.specs.Kinds.{HasKind}
use Rattle.clap.specs.Matches.{found_of, one_text, ReadsOne}
use Rattle.clap.specs.Simple.{App, HasMatchesOf, is_simple, matches_of}
use Rattle.clap.specs.ValueTests.{is_unsigned_in}
use Rattle.clap.specs.Values.{kind_of}
use Rattle.clap.specs.Walk.{one_of}
use Rattle.clap.specs.declared.builder.value_parser.ValueParser.TheVariants.{Unsigned}
use Rattle.clap.specs.declared.error.Error.{Error}
use Rattle.clap.specs.declared.error.kind.ErrorKind.TheVariants.{OutOfMemory, ValueValidation}
use Rattle.clap.specs.declared.parser.matches.ArgMatches.{ArgMatches}
use Rattle.clap.proofs.OnLiterals.{clap_on_literals}
use Rattle.clap.proofs.ValueTestLemmas.{Accepts-accepts, accepts-Accepts}
use Rattle.clap.proofs.WalkLemmas.{one_text-rows}
use Rattle.acc_command_alone.specs.Number.{IsNumberOf, SpellsIn}
use Rattle.acc_command_alone.specs.Reader.{number_app, words_of}

module _ (least most : ℕ) (word : List ℕ) where
  free : is_simple_and_free (number_app least most) ≡ true
  unfolding clap_on_literals
  free = refl

  simple : is_simple (number_app least most) ≡ true
  unfolding clap_on_literals
  simple = refl

  no_fault : is_unsigned_in least most word ≡ true → fault_of (number_app least most) (words_of word) ≡ []
  unfolding clap_on_literals
  no_fault h = rw h refl

  fault : is_unsigned_in least most word ≡ false → fault_of (number_app least most) (words_of word) ≡ ValueValidation ∷ []
  unfolding clap_on_literals
  fault h = rw h refl

  said : one_of (codes "number") (matches_of (number_app least most) (words_of word)) ≡ Some word
  unfolding clap_on_literals
  said = refl

  spells : is_unsigned_in least most word ≡ true → SpellsIn least most word
  spells h = let a = accepts-Accepts false (Unsigned least most) word h in record { digits = a.0; above = a.2; below = a.3 }

  tested : SpellsIn least most word → most < 2 ^ 64 → is_unsigned_in least most word ≡ true
  tested h fits = Accepts-accepts false (Unsigned least most) word (h.digits, omega (arith, h.below), h.above, h.below)

  -- no fault, so it is a number
  fine : (b : Bool) → is_unsigned_in least most word ≡ b → fault_of (number_app least most) (words_of word) ≡ [] → is_unsigned_in least most word ≡ true
  fine true h none = h
  fine false h none = let both : ValueValidation ∷ [] ≡ [] = sym (fault h) ∙ none in absurd cc

  module _ (app : App) (is : app ≡ number_app least most) (fits : most < 2 ^ 64) where
    pub refused : (e : Error) → (is_simple_and_free app ≡ true → HasKind (fault_of app (words_of word)) e) → (kind_of e ≡ OutOfMemory → ⊥) → SpellsIn least most word → ⊥
    refused e kinds other h =
        let has : HasKind (fault_of (number_app least most) (words_of word)) e =
        subst (λ (a : App). is_simple_and_free a ≡ true → HasKind (fault_of a (words_of word)) e) is kinds free in
        let kind : HasKind [] e = subst (λ ks. HasKind ks e) (no_fault (tested h fits)) has in
        elim kind [ inl memory ↦ other memory | inr none ↦ absurd none ]

    pub answered : (E : Type 0) (G : List ℕ → Result ℕ E → Type 0) (m : ArgMatches) (r : Option ℕ)
        → (is_simple_and_free app ≡ true → fault_of app (words_of word) ≡ [])
        → HasMatchesOf app (words_of word) m
        → ((t : List ℕ) → one_text (found_of m) (codes "number") ≡ Some t → ReadsOne G t r)
        → ((u : List ℕ) (x : Result ℕ E) → G u x → ParsesUnsigned 64 10 u x)
        → IsNumberOf least most word r
    answered E G m r kinds matches read only =
        let none : fault_of (number_app least most) (words_of word) ≡ [] = subst (λ (a : App). is_simple_and_free a ≡ true → fault_of a (words_of word) ≡ []) is kinds free in
        let h = spells (fine (is_unsigned_in least most word) refl none) in
        let found = (subst (λ (a : App). HasMatchesOf a (words_of word) m) is matches simple).0 in
        let text : one_text (found_of m) (codes "number") ≡ Some word = one_text-rows (found_of m) (codes "number") ∙ ap (one_of (codes "number")) found ∙ said in
        go r h (read word text)
      where
        go : (o : Option ℕ) → SpellsIn least most word → ReadsOne G word o → IsNumberOf least most word o
        go (Some n) h g = (h, (only word (Ok n) g).1)
        go None h g = absurd (only word (Err g.0) g.1 (h.digits, omega (arith, h.below)))
