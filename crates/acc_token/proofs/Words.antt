-- A word or a mark in front of a text, byte by byte.
use Rattle.std.proofs.Common.{◌≡◌, ℕ, zero, suc, ◌<◌, ◌≤◌, ◌==◌, Bool, true, false, not, cond, ◌&&◌, ◌||◌, List, [], ◌∷◌, length, take, drop, map, Option, refl, sym, ap, ◌∙◌, arith}
use Rattle.std.specs.Prelude.{zip, nat_le}
use Rattle.std.specs.Char.{is_ascii_alphabetic, is_ascii_lowercase, is_ascii_digit, to_ascii_lowercase}
use Rattle.std.specs.Int.Bits.{bit_or}
use Rattle.std.specs.List.{list_all, prefix_len, take_while}
use Rattle.std.specs.Str.{bytes_eq}
use Rattle.std.proofs.lemmas.Bool.Decides.{nat_tests}
use Rattle.std.proofs.lemmas.List.{length-map, length-take-le}
use Rattle.std.proofs.lemmas.List.Sums.{take_while-cons}
use Rattle.std.proofs.lemmas.List.Folds.{length-prefix_len}
use Rattle.std.proofs.lemmas.Slice.Eq.{bytes_eq-Decides}
use Rattle.acc_token.specs.Tokens.{Word, Mark, Number, Quoted, Strange, begins_word, continues_word, is_quote, is_mark, is_order, mark_len, number_of, content, is_closed, token_of, token_len, says_word, says_mark, spells, first_passes}

abbrev all_below : (ℕ → Bool) → ℕ → Bool
all_below p zero = true
all_below p (suc n) = p n && all_below p n

both : (a b : Bool) → (a && b) ≡ true → (a ≡ true) × (b ≡ true)
both true b is = (refl, is)
both false b is = cc

passes_below : (p : ℕ → Bool) (n b : ℕ) → all_below p n ≡ true → b < n → p b ≡ true
passes_below p zero b all small = absurd (omega arith)
passes_below p (suc n) b all small =
    let h = both (p n) (all_below p n) all in
    let rest = passes_below p n b h.1 in
    grind (arith, h.0, rest)

-- with its bit of 32 a letter is a small one, and nothing else is
abbrev folds : ℕ → Bool
folds b = cond (is_ascii_lowercase (bit_or b 32)) (is_ascii_alphabetic b && to_ascii_lowercase b == bit_or b 32) (not (is_ascii_alphabetic b))

folded : (b : ℕ) → b < 256 → folds b ≡ true
folded b small = passes_below folds 256 b refl small

-- a letter by its bit of 32
pub letter_spells : (b small : ℕ) → b < 256 → is_ascii_lowercase (bit_or b 32) ≡ true → (bit_or b 32 == small) ≡ spells b small
letter_spells b small byte is = by (is_ascii_lowercase (bit_or b 32)) is (folded b byte) where
  by : (t : Bool) → t ≡ true → cond t (is_ascii_alphabetic b && to_ascii_lowercase b == bit_or b 32) (not (is_ascii_alphabetic b)) ≡ true → (bit_or b 32 == small) ≡ spells b small
  by true is h = let p = both (is_ascii_alphabetic b) (to_ascii_lowercase b == bit_or b 32) h in grind (arith, nat_tests, p.0, p.1)
  by false is h = cc

pub other_spells : (b small : ℕ) → b < 256 → is_ascii_lowercase (bit_or b 32) ≡ false → (b == small && (b == 95 || is_ascii_digit b)) ≡ spells b small
other_spells b small byte is = by (is_ascii_lowercase (bit_or b 32)) is (folded b byte) where
  by : (t : Bool) → t ≡ false → cond t (is_ascii_alphabetic b && to_ascii_lowercase b == bit_or b 32) (not (is_ascii_alphabetic b)) ≡ true → (b == small && (b == 95 || is_ascii_digit b)) ≡ spells b small
  by true is h = cc
  by false is h = grind (arith, nat_tests, h)

no_test : (b : Bool) → (b && false) ≡ false
no_test true = refl
no_test false = refl

swap : (e le all ends same : Bool) → (le && (all && ends)) ≡ same → (le && ((e && all) && ends)) ≡ (e && same)
swap true le all ends same h = h
swap false le all ends same h = no_test le

le_suc : (m n : ℕ) → nat_le (suc m) (suc n) ≡ nat_le m n
le_suc m n = grind (arith, nat_tests)

le_zero : (n : ℕ) → nat_le 0 n ≡ true
le_zero n = grind (arith, nat_tests)

not_le : (n : ℕ) → nat_le (suc n) 0 ≡ false
not_le n = grind (arith, nat_tests)

chosen : (b : Bool) (x y : ℕ) → b ≡ true → cond b x y ≡ x
chosen true x y is = refl
chosen false x y is = cc

abbrev small_front : List ℕ → List ℕ
small_front text = map to_ascii_lowercase (take_while continues_word text)

-- the word in front of a text is that one
pub front : (text word : List ℕ)
    → (nat_le (length word) (length text) && (list_all (λ pair. spells pair.0 pair.1) (zip text word) && not (first_passes continues_word (drop (length word) text)))) ≡ bytes_eq (small_front text) word
front [] [] = refl
front [] (w ∷ ws) = ap (λ b. b && true) (not_le (length ws))
front (c ∷ cs) [] = ap (λ b. b && not (continues_word c)) (le_zero (suc (length cs))) ∙ tested (continues_word c) ∙ ap (λ t. bytes_eq (map to_ascii_lowercase t) []) (sym (take_while-cons continues_word c cs)) where
  tested : (b : Bool) → not b ≡ bytes_eq (map to_ascii_lowercase (cond b (c ∷ take_while continues_word cs) [])) []
  tested true = refl
  tested false = refl
front (c ∷ cs) (w ∷ ws) =
    ap (λ b. b && (list_all (λ pair. spells pair.0 pair.1) (zip (c ∷ cs) (w ∷ ws)) && not (first_passes continues_word (drop (suc (length ws)) (c ∷ cs))))) (le_suc (length ws) (length cs))
    ∙ tested (continues_word c) (nat_le (length ws) (length cs)) (list_all (λ pair. spells pair.0 pair.1) (zip cs ws)) (not (first_passes continues_word (drop (length ws) cs))) (front cs ws)
    ∙ ap (λ t. bytes_eq (map to_ascii_lowercase t) (w ∷ ws)) (sym (take_while-cons continues_word c cs))
  where
    tested : (b le all ends : Bool) → (le && (all && ends)) ≡ bytes_eq (small_front cs) ws
        → (le && (((b && to_ascii_lowercase c == w) && all) && ends)) ≡ bytes_eq (map to_ascii_lowercase (cond b (c ∷ take_while continues_word cs) [])) (w ∷ ws)
    tested true le all ends h = swap (to_ascii_lowercase c == w) le all ends (bytes_eq (small_front cs) ws) h
    tested false le all ends h = no_test le

marks_no_word : (word mark : List ℕ) (none : Bool) → says_word word (cond none Strange (Mark mark)) ≡ false
marks_no_word word mark true = refl
marks_no_word word mark false = refl

other_word : (word text said mark : List ℕ) (number : Option ℕ) (closed b digit quote none same : Bool)
    → same ≡ bytes_eq text word
    → says_word word (cond b (Word text) (cond digit (Number number) (cond quote (Quoted said closed) (cond none Strange (Mark mark))))) ≡ (b && same)
other_word word text said mark number closed true digit quote none same is = sym is
other_word word text said mark number closed false true quote none same is = refl
other_word word text said mark number closed false false true none same is = refl
other_word word text said mark number closed false false false none same is = marks_no_word word mark none

-- the token in front of a text is that word
pub word_in_front : (word text : List ℕ) → says_word word (token_of text) ≡ (first_passes begins_word text && bytes_eq (small_front text) word)
unfolding token_of
word_in_front word [] = refl
word_in_front word (c ∷ cs) = other_word word (small_front (c ∷ cs)) (content false cs) (take (mark_len (c ∷ cs)) (c ∷ cs)) (number_of (take_while is_ascii_digit (c ∷ cs))) (is_closed false cs) (begins_word c) (is_ascii_digit c) (is_quote c) (mark_len (c ∷ cs) == 0) (bytes_eq (small_front (c ∷ cs)) word) refl

pub word_tested : (word text : List ℕ)
    → says_word word (token_of text) ≡ (first_passes begins_word text && (nat_le (length word) (length text) && (list_all (λ pair. spells pair.0 pair.1) (zip text word) && not (first_passes continues_word (drop (length word) text)))))
word_tested word text = word_in_front word text ∙ ap (λ t. first_passes begins_word text && t) (sym (front text word))

second : (a b c : Bool) → (a && (b && c)) ≡ true → b ≡ true
second true true c is = refl
second true false c is = cc
second false b c is = cc

pub word_within : (word text : List ℕ) → says_word word (token_of text) ≡ true → length word ≤ length text
word_within word text is =
    let le =
    second (first_passes begins_word text) (nat_le (length word) (length text)) (list_all (λ pair. spells pair.0 pair.1) (zip text word) && not (first_passes continues_word (drop (length word) text)))
    (sym (word_tested word text) ∙ is)
    in
    grind (arith, nat_tests, le)

pub len_of_word : (word text : List ℕ) → says_word word (token_of text) ≡ true → token_len text ≡ length word
unfolding token_len
len_of_word word [] is = absurd (cc (word_in_front word [], is))
len_of_word word (c ∷ cs) is =
    let h = both (begins_word c) (bytes_eq (small_front (c ∷ cs)) word) (sym (word_in_front word (c ∷ cs)) ∙ is) in
    let same : small_front (c ∷ cs) ≡ word = (bytes_eq-Decides (small_front (c ∷ cs)) word).0 h.1 in
    chosen (begins_word c) (prefix_len continues_word (c ∷ cs)) _ h.0
    ∙ sym (length-prefix_len continues_word (c ∷ cs)) ∙ sym (length-map (take_while continues_word (c ∷ cs)) to_ascii_lowercase) ∙ ap length same

no_order : (c : ℕ) → begins_word c ≡ true → ((is_order c || c == 33) ≡ false) × ((is_mark c || is_order c) ≡ false)
no_order c is = (grind (arith, nat_tests, is), grind (arith, nat_tests, is))

no_order_digit : (c : ℕ) → is_ascii_digit c ≡ true → ((is_order c || c == 33) ≡ false) × ((is_mark c || is_order c) ≡ false)
no_order_digit c is = (grind (arith, nat_tests, is), grind (arith, nat_tests, is))

no_order_quote : (c : ℕ) → is_quote c ≡ true → ((is_order c || c == 33) ≡ false) × ((is_mark c || is_order c) ≡ false)
no_order_quote c is = (grind (arith, nat_tests, is), grind (arith, nat_tests, is))

-- what is in neither list begins no mark
no_mark : (c : ℕ) (cs : List ℕ) → ((is_order c || c == 33) ≡ false) × ((is_mark c || is_order c) ≡ false) → mark_len (c ∷ cs) ≡ 0
no_mark c cs h = rw (h.0, h.1) refl

some_mark : (mark taken : List ℕ) (none : Bool) → says_mark mark (cond none Strange (Mark taken)) ≡ (not none && bytes_eq taken mark)
some_mark mark taken true = refl
some_mark mark taken false = refl

-- a text that begins with a mark begins with nothing else
other_mark : (mark taken text said : List ℕ) (number : Option ℕ) (closed b digit quote : Bool) (len : ℕ)
    → (b ≡ true → len ≡ 0) → (digit ≡ true → len ≡ 0) → (quote ≡ true → len ≡ 0)
    → says_mark mark (cond b (Word text) (cond digit (Number number) (cond quote (Quoted said closed) (cond (len == 0) Strange (Mark taken))))) ≡ (not (len == 0) && bytes_eq taken mark)
other_mark mark taken text said number closed true digit quote len w d q = rw (w refl) refl
other_mark mark taken text said number closed false true quote len w d q = rw (d refl) refl
other_mark mark taken text said number closed false false true len w d q = rw (q refl) refl
other_mark mark taken text said number closed false false false len w d q = some_mark mark taken (len == 0)

pub mark_in_front : (mark text : List ℕ) → says_mark mark (token_of text) ≡ (not (mark_len text == 0) && bytes_eq (take (mark_len text) text) mark)
unfolding token_of
mark_in_front mark [] = refl
mark_in_front mark (c ∷ cs) =
    other_mark mark (take (mark_len (c ∷ cs)) (c ∷ cs)) (small_front (c ∷ cs)) (content false cs) (number_of (take_while is_ascii_digit (c ∷ cs))) (is_closed false cs) (begins_word c) (is_ascii_digit c) (is_quote c) (mark_len (c ∷ cs))
    (λ h. no_mark c cs (no_order c h)) (λ h. no_mark c cs (no_order_digit c h)) (λ h. no_mark c cs (no_order_quote c h))

len_chosen : (b digit quote : Bool) (x y z len : ℕ) → (b ≡ true → len ≡ 0) → (digit ≡ true → len ≡ 0) → (quote ≡ true → len ≡ 0) → not (len == 0) ≡ true
    → cond b x (cond digit y (cond quote z len)) ≡ len
len_chosen true digit quote x y z len w d q some = absurd (cc (w refl, some))
len_chosen false true quote x y z len w d q some = absurd (cc (d refl, some))
len_chosen false false true x y z len w d q some = absurd (cc (q refl, some))
len_chosen false false false x y z len w d q some = refl

two : (a b e : Bool) → cond (a && e) 2 (cond b 1 0) ≤ 2
two true b true = omega arith
two true true false = omega arith
two true false false = omega arith
two false true e = omega arith
two false false e = omega arith

one : (a b : Bool) → cond (a && false) 2 (cond b 1 0) ≤ 1
one true true = omega arith
one true false = omega arith
one false true = omega arith
one false false = omega arith

mark_within : (text : List ℕ) → mark_len text ≤ length text
mark_within [] = omega arith
mark_within (c ∷ []) = one (is_order c || c == 33) (is_mark c || is_order c)
mark_within (c ∷ d ∷ ds) = let h = two (is_order c || c == 33) (is_mark c || is_order c) (d == 61) in omega (arith, h)

pub len_of_mark : (mark text : List ℕ) → says_mark mark (token_of text) ≡ true → token_len text ≡ length mark
unfolding token_len
len_of_mark mark [] is = absurd (cc (mark_in_front mark [], is))
len_of_mark mark (c ∷ cs) is =
    let text = c ∷ cs in
    let h = both (not (mark_len text == 0)) (bytes_eq (take (mark_len text) text) mark) (sym (mark_in_front mark text) ∙ is) in
    let same : take (mark_len text) text ≡ mark = (bytes_eq-Decides (take (mark_len text) text) mark).0 h.1 in
    len_chosen (begins_word c) (is_ascii_digit c) (is_quote c) _ _ _ (mark_len text)
    (λ h. no_mark c cs (no_order c h)) (λ h. no_mark c cs (no_order_digit c h)) (λ h. no_mark c cs (no_order_quote c h)) h.0
    ∙ sym (length-take-le (mark_len text) text (mark_within text)) ∙ ap length same

pub mark_fits : (mark text : List ℕ) → says_mark mark (token_of text) ≡ true → length mark ≤ length text
mark_fits mark text is =
    let h = both (not (mark_len text == 0)) (bytes_eq (take (mark_len text) text) mark) (sym (mark_in_front mark text) ∙ is) in
    let same : take (mark_len text) text ≡ mark = (bytes_eq-Decides (take (mark_len text) text) mark).0 h.1 in
    let len : length mark ≡ mark_len text = sym (ap length same) ∙ length-take-le (mark_len text) text (mark_within text) in
    let within = mark_within text in
    omega (arith, len, within)
