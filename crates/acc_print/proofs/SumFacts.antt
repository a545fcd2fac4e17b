-- Names, terms and sums are spelled by their canonical texts.
use Rattle.std.proofs.Common.{◌≡◌, ℕ, zero, suc, ◌<◌, ◌^◌, Bool, true, false, not, List, [], ◌∷◌, ◌++◌, length, ℤ, pos, negsuc, Some, refl, sym, ap, subst, append_assoc, arith}
use Rattle.std.specs.Prelude.{codes, slice_get, nat_lt, if◌then◌else◌}
use Rattle.std.specs.Option.{option_map_or}
use Rattle.std.specs.List.{flat_map}
use Rattle.std.proofs.lemmas.Bool.{or_parts, not-false, ltb-true, leb-false}
use lib.Signed.{mag}
use Rattle.acc_token.specs.Tokens.{Word, Mark, Quoted, continues_word, token_at, token_of, token_len, behind, after_blanks}
use Rattle.acc_txn.specs.declared.parts.Let.{Let}
use Rattle.acc_txn.specs.declared.parts.Term.{Term}
use Rattle.acc_txn.specs.declared.parts.Term.TheVariants.{Number, Name, Null, Text}
use Rattle.acc_txn.specs.declared.parts.Part.{Part}
use Rattle.acc_txn.specs.Words.{is_name}
use Rattle.acc_txn.specs.Rules.{has_bad_name, is_unbound, term_is_unbound, mentions_unbound, is_malformed}
use Rattle.acc_print.specs.Canonical.{quoted, name_of, cell_text, term_text, sign_text, signed_text, sum_text}
use Rattle.acc_print.proofs.WordUtf8.{lower_word}
use Rattle.acc_print.specs.Numbers.{is_wide, is_unsaid, has_unsaid_term}
use Rattle.acc_lang.specs.Grammar.{Spells, Each, Behind, NameSpelled, TermSpelled, PartSpelled, ExpressionSpelled}
use Rattle.acc_print.proofs.TokenFacts.{stops, goes_on, word_stop, quote_stop, spaced, letters, name_spelled}
use Rattle.acc_print.proofs.QuotedFacts.{quoted_spelled}
use Rattle.acc_print.proofs.NumberFacts.{number_spelled}

-- the LET of a number
found : (lets : List Let) (number : ℕ) → has_bad_name lets ≡ false → number < length lets →
    (l : Let) × (slice_get lets number ≡ Some l) × (is_name l.name ≡ true)
found [] number named within = absurd (omega arith)
found (l ∷ lets) zero named within = (l, refl, not-false (is_name l.name) (or_parts (not (is_name l.name)) (has_bad_name lets) named).0)
found (l ∷ lets) (suc number) named within = found lets number (or_parts (not (is_name l.name)) (has_bad_name lets) named).1 (omega arith)

narrow : (number : ℤ) → is_wide number ≡ false → mag number < 2 ^ 63
narrow (pos n) h = ltb-true n (2 ^ 63) (not-false (nat_lt n (2 ^ 63)) h)
narrow (negsuc n) h = ltb-true n (2 ^ 63) (not-false (nat_lt n (2 ^ 63)) h)

module _ (lets : List Let) (named : has_bad_name lets ≡ false) where
  -- name . v
  pub cell_spelled : (number : ℕ) (rest : List ℕ) → is_unbound (length lets) number ≡ false → stops continues_word rest ≡ true →
      NameSpelled lets number (32 ∷ cell_text lets number ++ rest) rest
  unfolding token_at token_of token_len behind after_blanks
  cell_spelled number rest bound stop =
      let binding = found lets number named (leb-false (length lets) number bound) in
      let name = binding.0.name in
      let is : name_of lets number ≡ name = ap (λ o. option_map_or (λ l. l.name) o []) binding.1 in
      let column = letters 118 [] rest rest [] refl refl stop refl in
      let spelled = name_spelled name (46 ∷ 118 ∷ rest) rest (Mark (codes ".") ∷ Word (codes "v") ∷ []) (lower_word name binding.2) refl (refl, column) in
      let joined = subst (λ from. Spells (Word name ∷ Mark (codes ".") ∷ Word (codes "v") ∷ []) (32 ∷ from) rest) (sym (append_assoc name (codes ".v") rest)) spelled in
      (binding.0, binding.1, subst (λ word. Spells (Word name ∷ Mark (codes ".") ∷ Word (codes "v") ∷ []) (32 ∷ (word ++ codes ".v") ++ rest) rest) (sym is) joined)

module _ (texts : Bool) (lets : List Let) (named : has_bad_name lets ≡ false) where
  -- [ - ] number | name . v | NULL | 'text'
  pub term_spelled : (term : Term) (rest : List ℕ) → term_is_unbound (length lets) term ≡ false → is_unsaid texts term ≡ false → stops goes_on rest ≡ true →
      TermSpelled texts lets term (32 ∷ term_text lets term ++ rest) rest
  term_spelled (Number number) rest bound fits stop = number_spelled number rest (narrow number fits) (word_stop rest stop)
  term_spelled (Name number) rest bound fits stop = cell_spelled lets named number rest bound (word_stop rest stop)
  term_spelled Null rest bound fits stop =
      spaced (Word (codes "null")) [] (codes "NULL" ++ rest) rest (letters 78 (codes "ULL") rest rest [] refl refl (word_stop rest stop) refl)
  term_spelled (Text text) rest bound fits stop =
      (not-false texts fits, spaced (Quoted text true) [] (quoted text ++ rest) rest (quoted_spelled text rest rest [] (quote_stop rest stop) refl))

  signed_spelled : (minus : Bool) (term : Term) (rest : List ℕ) → TermSpelled texts lets term (32 ∷ term_text lets term ++ rest) rest →
      Behind (Mark (if minus then codes "-" else codes "+") ∷ []) (TermSpelled texts lets) term ((sign_text minus ++ term_text lets term) ++ rest) rest
  unfolding token_at token_of token_len behind after_blanks
  signed_spelled true term rest h = (32 ∷ term_text lets term ++ rest, (refl, refl), h)
  signed_spelled false term rest h = (32 ∷ term_text lets term ++ rest, (refl, refl), h)

  sign_stops : (minus : Bool) (text : List ℕ) → stops goes_on (sign_text minus ++ text) ≡ true
  sign_stops true text = refl
  sign_stops false text = refl

  parts_stop : (parts : List Part) (rest : List ℕ) → stops goes_on rest ≡ true → stops goes_on (flat_map (signed_text lets) parts ++ rest) ≡ true
  parts_stop [] rest stop = stop
  parts_stop (part ∷ parts) rest stop =
      let others = flat_map (signed_text lets) parts in
      let apart : ((sign_text part.minus ++ term_text lets part.term) ++ others) ++ rest ≡ sign_text part.minus ++ (term_text lets part.term ++ (others ++ rest)) =
      simp append_assoc in
      subst (λ from. stops goes_on from ≡ true) (sym apart) (sign_stops part.minus (term_text lets part.term ++ (others ++ rest)))

  -- { ( + | - ) term }
  parts_spelled : (parts : List Part) (rest : List ℕ) → mentions_unbound (length lets) parts ≡ false → has_unsaid_term texts parts ≡ false → stops goes_on rest ≡ true →
      Each (PartSpelled texts lets) parts (flat_map (signed_text lets) parts ++ rest) rest
  parts_spelled [] rest bound fits stop = refl
  parts_spelled (part ∷ parts) rest bound fits stop =
      let bounds = or_parts (term_is_unbound (length lets) part.term) (mentions_unbound (length lets) parts) bound in
      let sizes = or_parts (is_unsaid texts part.term) (has_unsaid_term texts parts) fits in
      let next = flat_map (signed_text lets) parts ++ rest in
      let first = signed_spelled part.minus part.term next (term_spelled part.term next bounds.0 sizes.0 (parts_stop parts rest stop)) in (
        next,
        subst (λ from. PartSpelled texts lets part from next) (sym (append_assoc (signed_text lets part) (flat_map (signed_text lets) parts) rest)) first,
        parts_spelled parts rest bounds.1 sizes.1 stop,
      )

  -- term { ( + | - ) term }
  pub sum_spelled : (sum : List Part) (rest : List ℕ) → is_malformed sum ≡ false → mentions_unbound (length lets) sum ≡ false → has_unsaid_term texts sum ≡ false →
      stops goes_on rest ≡ true → ExpressionSpelled texts lets sum (32 ∷ sum_text lets sum ++ rest) rest
  sum_spelled [] rest shaped bound fits stop = cc
  sum_spelled (part ∷ parts) rest shaped bound fits stop =
      let bounds = or_parts (term_is_unbound (length lets) part.term) (mentions_unbound (length lets) parts) bound in
      let sizes = or_parts (is_unsaid texts part.term) (has_unsaid_term texts parts) fits in
      let next = flat_map (signed_text lets) parts ++ rest in
      let first = term_spelled part.term next bounds.0 sizes.0 (parts_stop parts rest stop) in (
        next,
        shaped,
        subst (λ from. TermSpelled texts lets part.term (32 ∷ from) next) (sym (append_assoc (term_text lets part.term) (flat_map (signed_text lets) parts) rest)) first,
        parts_spelled parts rest bounds.1 sizes.1 stop,
      )
