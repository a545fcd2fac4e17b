-- Where bytes are cut.
use Rattle.std.proofs.Common.{◌≡◌, ℕ, Bool, true, false, not, ◌&&◌, cond, List, [], ◌∷◌, ◌++◌, Option, Some, None, refl, sym, ap, ◌∙◌}
use Rattle.std.specs.Prelude.{option_map, ◌==◌}
use Rattle.std.specs.List.{list_all}
use Rattle.std.specs.Str.{bytes_eq}
use Rattle.std.proofs.lemmas.Bool.{and_parts, eqb-true, eq-eqb, not-true}
use Rattle.std.proofs.lemmas.Slice.Eq.{bytes_eq-Decides}
use Rattle.acc_report_reader.specs.Gives.{guarded}
use Rattle.acc_report_reader.specs.Fields.{parts_at, behind_word}
use Rattle.acc_report_reader.proofs.Options.{bind_some, map_some, guarded_some}

-- the byte doesn't stand among these
abbrev pub Lacks : ℕ → List ℕ → Type 0
Lacks c bytes = list_all (λ b. not (b == c)) bytes ≡ true

pub is_same : (word : List ℕ) → bytes_eq word word ≡ true
is_same word = (bytes_eq-Decides word word).1 refl

pub same_bytes : (a b : List ℕ) → bytes_eq a b ≡ true → a ≡ b
same_bytes a b h = (bytes_eq-Decides a b).0 h

-- ---- what is cut at its byte

pub parts-of : (c : ℕ) (a b : List ℕ) → Lacks c a → parts_at c (a ++ c ∷ b) ≡ Some (a, b)
parts-of c [] b h = let is : (c == c) ≡ true = eq-eqb c c refl in rw is refl
parts-of c (x ∷ a) b h =
    let p = and_parts (not (x == c)) (list_all (λ b. not (b == c)) a) h in
    let other : (x == c) ≡ false = not-true (x == c) p.0 in
    let f : List ℕ × List ℕ → List ℕ × List ℕ = λ q. (x ∷ q.0, q.1) in
    rw other (ap (option_map f) (parts-of c a b p.1))

here-is : (c b : ℕ) (bs : List ℕ) (p : List ℕ × List ℕ) → b ≡ c → Some ([], bs) ≡ Some p → p.0 ++ c ∷ p.1 ≡ b ∷ bs
here-is c b bs p e f =
    let found : ([], bs) ≡ p = cc in
    let whole : List ℕ × List ℕ → List ℕ = λ q. q.0 ++ c ∷ q.1 in
    ap whole (sym found) ∙ ap (λ d. d ∷ bs) (sym e)

step-is : (c b : ℕ) (bs : List ℕ) (p : List ℕ × List ℕ) (here : Bool) → (b == c) ≡ here
    → cond here (Some ([], bs)) (option_map (λ q. (b ∷ q.0, q.1)) (parts_at c bs)) ≡ Some p
    → ((q : List ℕ × List ℕ) → parts_at c bs ≡ Some q → q.0 ++ c ∷ q.1 ≡ bs) → p.0 ++ c ∷ p.1 ≡ b ∷ bs
step-is c b bs p true is e later = here-is c b bs p (eqb-true b c is) e
step-is c b bs p false is e later =
    let f : List ℕ × List ℕ → List ℕ × List ℕ = λ q. (b ∷ q.0, q.1) in
    let whole : List ℕ × List ℕ → List ℕ = λ q. q.0 ++ c ∷ q.1 in
    let q = map_some f (parts_at c bs) p e in
    ap whole (sym q.2) ∙ ap (λ l. b ∷ l) (later q.0 q.1)

pub parts-is : (c : ℕ) (bytes : List ℕ) (p : List ℕ × List ℕ) → parts_at c bytes ≡ Some p → p.0 ++ c ∷ p.1 ≡ bytes
parts-is c [] p e = cc
parts-is c (b ∷ bs) p e = step-is c b bs p (b == c) refl e (λ q h. parts-is c bs q h)

step_none : (c x : ℕ) (xs : List ℕ) (here : Bool) → (x == c) ≡ here → (Lacks c xs → parts_at c xs ≡ None) → (not here && list_all (λ b. not (b == c)) xs) ≡ true
    → cond {A = Option (List ℕ × List ℕ)} here (Some ([], xs)) (option_map (λ q. (x ∷ q.0, q.1)) (parts_at c xs)) ≡ None
step_none c x xs true is later h = cc
step_none c x xs false is later h =
    let f : List ℕ × List ℕ → List ℕ × List ℕ = λ q. (x ∷ q.0, q.1) in
    ap (option_map f) (later h)

pub parts-none : (c : ℕ) (bytes : List ℕ) → Lacks c bytes → parts_at c bytes ≡ None
parts-none c [] h = refl
parts-none c (x ∷ xs) h = step_none c x xs (x == c) refl (λ k. parts-none c xs k) h

-- ---- a word and a space

pub behind_word-of : (word rest : List ℕ) → Lacks 32 word → behind_word word (word ++ 32 ∷ rest) ≡ Some rest
unfolding behind_word
behind_word-of word rest h = rw (parts-of 32 word rest h) (rw (is_same word) refl)

pub behind_word-is : (word bytes rest : List ℕ) → behind_word word bytes ≡ Some rest → word ++ 32 ∷ rest ≡ bytes
unfolding behind_word
behind_word-is word bytes rest e =
    let p = bind_some (parts_at 32 bytes) (λ q. guarded (bytes_eq q.0 word) q.1) rest e in
    let g = guarded_some (bytes_eq p.0.0 word) p.0.1 rest p.2 in
    let same = same_bytes p.0.0 word g.0 in
    ap (λ r. word ++ 32 ∷ r) (sym g.1) ∙ ap (λ w. w ++ 32 ∷ p.0.1) (sym same) ∙ parts-is 32 bytes p.0 p.1

-- ---- what lacks a byte

other_case : (p : ℕ → Bool) (c x : ℕ) (here : Bool) → (x == c) ≡ here → p c ≡ false → p x ≡ true → not here ≡ true
other_case p c x true is h k = let e = ap p (eqb-true x c is) in cc
other_case p c x false is h k = refl

-- bytes that pass a test lack one that doesn't
pub lacks_from : (p : ℕ → Bool) (c : ℕ) (bytes : List ℕ) → p c ≡ false → list_all p bytes ≡ true → Lacks c bytes
lacks_from p c [] h all = refl
lacks_from p c (x ∷ xs) h all =
    let parts = and_parts (p x) (list_all p xs) all in
    let other = other_case p c x (x == c) refl h parts.0 in
    rw other (lacks_from p c xs h parts.1)

lacks_step : (c x : ℕ) (a b : List ℕ) (p : Bool) → (Lacks c a → Lacks c (a ++ b)) → (p && list_all (λ d. not (d == c)) a) ≡ true → (p && list_all (λ d. not (d == c)) (a ++ b)) ≡ true
lacks_step c x a b true later h = later h
lacks_step c x a b false later h = cc

pub lacks_both : (c : ℕ) (a b : List ℕ) → Lacks c a → Lacks c b → Lacks c (a ++ b)
lacks_both c [] b h k = k
lacks_both c (x ∷ a) b h k = lacks_step c x a b (not (x == c)) (λ h. lacks_both c a b h k) h
