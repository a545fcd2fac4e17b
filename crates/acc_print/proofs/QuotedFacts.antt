-- What a text in quotes says is the text.
use Rattle.std.proofs.Common.{◌≡◌, ℕ, suc, true, false, List, [], ◌∷◌, ◌++◌, drop, refl, sym, ap, subst, append_assoc}
use Rattle.std.proofs.Common.{inl, inr}
use Rattle.std.specs.List.{flat_map}
use Rattle.std.proofs.Math.Numerals.{one-add}
use Rattle.std.proofs.lemmas.Bool.{cases_Bool, not-true, eqb-true, cond-false}
use Rattle.acc_token.specs.Tokens.{Token, Quoted, is_quote, content, is_closed, quoted_len, token_at, token_of, token_len, behind, after_blanks}
use Rattle.acc_print.specs.Canonical.{quoted_byte, quoted}
use Rattle.acc_lang.specs.Grammar.{Spells}
use Rattle.acc_print.proofs.TokenFacts.{stops, one_token}

-- a text after its opening quote is closed, says this, and this follows it
record Closes (from said rest : List ℕ) : Type 0 where
  says : content false from ≡ said
  closed : is_closed false from ≡ true
  follows : drop (quoted_len false from) from ≡ rest

closing : (rest : List ℕ) → stops is_quote rest ≡ true → Closes (39 ∷ rest) [] rest
closing [] h = record { says = refl; closed = refl; follows = refl }
closing (c ∷ cs) h =
    let plain = not-true (is_quote c) h in
    record { says = rw plain refl; closed = rw plain refl; follows = rw plain refl }

plain_first : (c : ℕ) (from said rest : List ℕ) → is_quote c ≡ false → Closes from said rest → Closes (c ∷ from) (c ∷ said) rest
plain_first c from said rest plain h = record {
  says = rw plain (ap (λ bytes. c ∷ bytes) h.says);
  closed = rw plain h.closed;
  follows = rw plain (rw (one-add (quoted_len false from)) h.follows);
}

quote_first : (from said rest : List ℕ) → Closes from said rest → Closes (39 ∷ 39 ∷ from) (39 ∷ said) rest
quote_first from said rest h = record {
  says = ap (λ bytes. 39 ∷ bytes) h.says;
  closed = h.closed;
  follows = rw (one-add (quoted_len false from)) (rw (one-add (suc (quoted_len false from))) h.follows);
}

content-quoted : (text rest : List ℕ) → stops is_quote rest ≡ true → Closes (flat_map quoted_byte text ++ 39 ∷ rest) text rest
content-quoted [] rest h = closing rest h
content-quoted (c ∷ cs) rest h =
    let others = content-quoted cs rest h in
    let said = flat_map quoted_byte cs in
    elim (cases_Bool (is_quote c)) [
      | inl quote ↦ subst (λ b. Closes (quoted_byte b ++ said ++ 39 ∷ rest) (b ∷ cs) rest) (sym (eqb-true c 39 quote)) (quote_first (said ++ 39 ∷ rest) cs rest others)
      | inr plain ↦
          subst (λ bytes. Closes (bytes ++ said ++ 39 ∷ rest) (c ∷ cs) rest) (sym (cond-false (is_quote c) (39 ∷ 39 ∷ []) (c ∷ []) plain))
          (plain_first c (said ++ 39 ∷ rest) cs rest plain others)
    ]

quoted_at : (from said rest : List ℕ) → Closes from said rest → token_at (39 ∷ from) ≡ Quoted said true
unfolding token_at token_of after_blanks
quoted_at from said rest h =
    let says = h.says in
    let closed = h.closed in
    cc

behind_quoted : (from said rest : List ℕ) → Closes from said rest → behind (39 ∷ from) ≡ rest
unfolding behind token_len after_blanks
behind_quoted from said rest h = rw (one-add (quoted_len false from)) h.follows

-- a text in quotes
pub quoted_spelled : (text rest to : List ℕ) (tokens : List Token) → stops is_quote rest ≡ true → Spells tokens rest to →
    Spells (Quoted text true ∷ tokens) (quoted text ++ rest) to
quoted_spelled text rest to tokens stop h =
    let closes = content-quoted text rest stop in
    let from = flat_map quoted_byte text ++ 39 ∷ rest in
    let spelled = one_token (Quoted text true) tokens (39 ∷ from) rest to (quoted_at from text rest closes) (behind_quoted from text rest closes) h in
    subst (λ place. Spells (Quoted text true ∷ tokens) (39 ∷ place) to) (sym (append_assoc (flat_map quoted_byte text) (39 ∷ []) rest)) spelled
