-- What tokens of a text say: words are in small letters, and what stands in quotes in a UTF-8 text is UTF-8.
use Rattle.std.proofs.Common.{◌≡◌, ◌<◌, ◌+◌, ℕ, suc, Bool, true, false, cond, List, [], ◌∷◌, ◌++◌, length, map, take, drop, get_or, IsUtf8, refl, sym, ap, ◌∙◌, subst, append_assoc, length-append, arith}
use Rattle.std.proofs.lemmas.List.{append-nil}
use Rattle.std.specs.Char.{is_ascii_digit, to_ascii_lowercase}
use Rattle.std.specs.List.{list_all, prefix_len, take_while}
use Rattle.std.proofs.iter.FirstChar.{cut, beside_ascii}
use Rattle.std.proofs.lemmas.Str.{IsUtf8-append, IsUtf8-nil}
use Rattle.std.proofs.lemmas.List.{drop_at}
use Rattle.std.proofs.Math.Seq.{take-append_seam, drop-append_seam, get_or-append_seam}
use Rattle.std.proofs.lemmas.Bool.Decides.{nat_tests}
use Rattle.acc_token.specs.Tokens.{is_blank, is_quote, content, quoted_len, begins_word, continues_word}
use Rattle.acc_txn.specs.Words.{is_lower_word, begins_word as begins_small, continues_word as continues_small}

-- a text around an ASCII byte
pub around : (front : List ℕ) (c : ℕ) (rest : List ℕ) → IsUtf8 (front ++ c ∷ rest) → c < 128 → IsUtf8 front × IsUtf8 (c ∷ rest) × IsUtf8 rest
around front c rest utf8 ascii =
    let text = front ++ c ∷ rest in
    let seam : get_or text (length front) 0 < 128 = subst (λ n. n < 128) (sym (get_or-append_seam front c rest 0)) ascii in
    let within : length front < length text = omega (arith, length-append front (c ∷ rest)) in
    let b = beside_ascii text (length front) utf8 within seam in
    let here = cut text (length front) utf8 b.0 in
    let past = cut text (length front + 1) utf8 b.1 in (
      subst IsUtf8 (take-append_seam front (c ∷ rest)) here.0,
      subst IsUtf8 (drop-append_seam front (c ∷ rest)) here.1,
      subst IsUtf8 (ap (drop (length front + 1)) (sym (append_assoc front (c ∷ []) rest)) ∙ drop_at (front ++ c ∷ []) rest (length front + 1) (length-append front (c ∷ []))) past.1,
    )

-- after ASCII bytes
pub behind_ascii : (p : ℕ → Bool) → ((c : ℕ) → p c ≡ true → c < 128) → (text : List ℕ) → IsUtf8 text → IsUtf8 (drop (prefix_len p text) text)
behind_ascii p ascii [] utf8 = utf8
behind_ascii p ascii (c ∷ cs) utf8 = tested (p c) refl (λ passes. behind_ascii p ascii cs (around [] c cs utf8 (ascii c passes)).2) where
  tested : (b : Bool) → p c ≡ b → (p c ≡ true → IsUtf8 (drop (prefix_len p cs) cs)) → IsUtf8 (drop (cond b (1 + prefix_len p cs) 0) (c ∷ cs))
  tested true passes others =
      let rest = others passes in
      let step : 1 + prefix_len p cs ≡ suc (prefix_len p cs) = omega arith in
      subst (λ n. IsUtf8 (drop n (c ∷ cs))) (sym step) rest
  tested false fails others = utf8

pub quote_ascii : (c : ℕ) → is_quote c ≡ true → c < 128
quote_ascii c is = grind (arith, nat_tests)

-- what is quoted, where the bytes in front and these are UTF-8 together. The flag is that of the content
pub content_utf8 : (front text : List ℕ) → IsUtf8 (front ++ text) → IsUtf8 (front ++ content false text)
content_utf8 front [] utf8 = utf8
content_utf8 front (c ∷ []) utf8 = tested (is_quote c) refl where
  tested : (b : Bool) → is_quote c ≡ b → IsUtf8 (front ++ cond b [] (c ∷ []))
  tested true quote = subst IsUtf8 (sym (append-nil front)) (around front c [] utf8 (quote_ascii c quote)).0
  tested false other = utf8
content_utf8 front (c ∷ d ∷ ds) utf8 = tested (is_quote c) refl (λ front. content_utf8 front (d ∷ ds)) (λ front. content_utf8 front ds) where
  doubled : is_quote c ≡ true → (b : Bool) → is_quote d ≡ b → ((front : List ℕ) → IsUtf8 (front ++ ds) → IsUtf8 (front ++ content false ds)) → IsUtf8 (front ++ cond b (d ∷ content false ds) [])
  doubled quote true again next =
      let a = around front c (d ∷ ds) utf8 (quote_ascii c quote) in
      let both : IsUtf8 ((front ++ d ∷ []) ++ ds) = subst IsUtf8 (sym (append_assoc front (d ∷ []) ds)) (IsUtf8-append front (d ∷ ds) a.0 a.2) in
      subst IsUtf8 (append_assoc front (d ∷ []) (content false ds)) (next (front ++ d ∷ []) both)
  doubled quote false other next = subst IsUtf8 (sym (append-nil front)) (around front c (d ∷ ds) utf8 (quote_ascii c quote)).0

  tested : (b : Bool) → is_quote c ≡ b → ((front : List ℕ) → IsUtf8 (front ++ d ∷ ds) → IsUtf8 (front ++ content false (d ∷ ds)))
      → ((front : List ℕ) → IsUtf8 (front ++ ds) → IsUtf8 (front ++ content false ds))
      → IsUtf8 (front ++ cond b (cond (is_quote d) (d ∷ content false ds) []) (c ∷ content false (d ∷ ds)))
  tested true quote here next = doubled quote (is_quote d) refl next
  tested false other here next =
      subst IsUtf8 (append_assoc front (c ∷ []) (content false (d ∷ ds)))
      (here (front ++ c ∷ []) (subst IsUtf8 (sym (append_assoc front (c ∷ []) (d ∷ ds))) utf8))

-- what follows what is quoted
pub quoted_rest : (front text : List ℕ) → IsUtf8 (front ++ text) → IsUtf8 (drop (quoted_len false text) text)
quoted_rest front [] utf8 = IsUtf8-nil
quoted_rest front (c ∷ []) utf8 = tested (is_quote c) refl where
  tested : (b : Bool) → is_quote c ≡ b → IsUtf8 (drop (1 + cond b 0 0) (c ∷ []))
  tested true quote = IsUtf8-nil
  tested false other = IsUtf8-nil
quoted_rest front (c ∷ d ∷ ds) utf8 = tested (is_quote c) refl (λ front. quoted_rest front (d ∷ ds)) (λ front. quoted_rest front ds) where
  doubled : is_quote c ≡ true → (b : Bool) → is_quote d ≡ b → ((front : List ℕ) → IsUtf8 (front ++ ds) → IsUtf8 (drop (quoted_len false ds) ds))
      → IsUtf8 (drop (1 + cond b (1 + quoted_len false ds) 0) (c ∷ d ∷ ds))
  doubled quote true again next =
      let a = around front c (d ∷ ds) utf8 (quote_ascii c quote) in
      let step : 1 + (1 + quoted_len false ds) ≡ suc (suc (quoted_len false ds)) = omega arith in
      subst (λ n. IsUtf8 (drop n (c ∷ d ∷ ds))) (sym step) (next (d ∷ []) a.2)
  doubled quote false other next = (around front c (d ∷ ds) utf8 (quote_ascii c quote)).2

  tested : (b : Bool) → is_quote c ≡ b → ((front : List ℕ) → IsUtf8 (front ++ d ∷ ds) → IsUtf8 (drop (quoted_len false (d ∷ ds)) (d ∷ ds)))
      → ((front : List ℕ) → IsUtf8 (front ++ ds) → IsUtf8 (drop (quoted_len false ds) ds))
      → IsUtf8 (drop (1 + cond b (cond (is_quote d) (1 + quoted_len false ds) 0) (quoted_len false (d ∷ ds))) (c ∷ d ∷ ds))
  tested true quote here next = doubled quote (is_quote d) refl next
  tested false other here next =
      let step : 1 + quoted_len false (d ∷ ds) ≡ suc (quoted_len false (d ∷ ds)) = omega arith in
      subst (λ n. IsUtf8 (drop n (c ∷ d ∷ ds))) (sym step) (here (front ++ c ∷ []) (subst IsUtf8 (sym (append_assoc front (c ∷ []) (d ∷ ds))) utf8))

pub word_ascii : (c : ℕ) → continues_word c ≡ true → c < 128
word_ascii c is = grind (arith, nat_tests)

pub digit_ascii : (c : ℕ) → is_ascii_digit c ≡ true → c < 128
digit_ascii c is = grind (arith, nat_tests)

pub blank_ascii : (c : ℕ) → is_blank c ≡ true → c < 128
blank_ascii c is = grind (arith, nat_tests)

small_first : (c : ℕ) → begins_word c ≡ true → begins_small (to_ascii_lowercase c) ≡ true
small_first c is = grind (arith, nat_tests)

small_next : (c : ℕ) → continues_word c ≡ true → continues_small (to_ascii_lowercase c) ≡ true
small_next c is = grind (arith, nat_tests)

all_small : (cs : List ℕ) → list_all continues_small (map to_ascii_lowercase (take (prefix_len continues_word cs) cs)) ≡ true
all_small [] = refl
all_small (c ∷ cs) = tested (continues_word c) refl (all_small cs) where
  tested : (b : Bool) → continues_word c ≡ b → list_all continues_small (map to_ascii_lowercase (take (prefix_len continues_word cs) cs)) ≡ true
      → list_all continues_small (map to_ascii_lowercase (take (cond b (1 + prefix_len continues_word cs) 0) (c ∷ cs))) ≡ true
  tested true passes others =
      let step : 1 + prefix_len continues_word cs ≡ suc (prefix_len continues_word cs) = omega arith in
      rw step (rw (small_next c passes) others)
  tested false fails others = refl

-- the letters of a word, in small letters
pub small_word : (c : ℕ) (cs : List ℕ) → begins_word c ≡ true → is_lower_word (map to_ascii_lowercase (take_while continues_word (c ∷ cs))) ≡ true
small_word c cs begins =
    let here : continues_word c ≡ true = rw begins refl in
    let step : 1 + prefix_len continues_word cs ≡ suc (prefix_len continues_word cs) = omega arith in
    rw here (rw step (rw (small_first c begins) (all_small cs)))
