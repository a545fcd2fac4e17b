-- Reading goes by the tokens from the left: texts that show the same tokens are read alike, and a fault is found as soon as
-- its token is seen, or the one after a word v.
use Rattle.std.proofs.Common.{◌≡◌, ◌≤◌, ◌⊎◌, ℕ, zero, suc, Bool, true, false, cond, List, Option, Some, None, Result, Ok, Err, refl, sym, ap, ◌∙◌, subst, inl, inr, ⊎_elim, arith}
use Rattle.acc_token.specs.Tokens.{Token, token_at, left_at, behind, says_mark}
use Rattle.acc_lang.specs.declared.error.LangKind.{LangKind}
use Rattle.acc_lang.specs.declared.fault.Fault.{Fault}
use Rattle.acc_lang.specs.declared.fault.Standing.{Standing}
use Rattle.acc_lang.specs.Faults.{fault_of}
use Rattle.acc_lang.specs.Reading.{Reads, ◌>>=◌, passed, fault_at, step, skip_mark, each}
use Rattle.acc_lang.specs.First.{behind_all, SameTokens, Seen}
use Rattle.acc_lang.proofs.Steps.{both}

-- sums of numbers of tokens
plus : ℕ → ℕ → ℕ
plus zero n = n
plus (suc m) n = suc (plus m n)

at_least : (m n : ℕ) → m ≤ plus m n
unfolding plus
at_least zero n = omega arith
at_least (suc m) n = let h = at_least m n in omega arith

behind_plus : (m n : ℕ) (a : List ℕ) → behind_all n (behind_all m a) ≡ behind_all (plus m n) a
unfolding plus
behind_plus zero n a = refl
behind_plus (suc m) n a = behind_plus m n (behind a)

pub seen_same : (m : ℕ) (a b : List ℕ) → Seen m a b → SameTokens m a b
seen_same zero a b seen = seen.0
seen_same (suc m) a b seen = (seen.0, seen_same m (behind a) (behind b) seen.1)

pub same_first : (m : ℕ) (a b : List ℕ) → SameTokens m a b → token_at a ≡ token_at b
same_first zero a b same = same
same_first (suc m) a b same = same.0

same_front : (m n : ℕ) (a b : List ℕ) → SameTokens (plus m n) a b → SameTokens m a b
unfolding plus
same_front zero n a b same = same_first n a b same
same_front (suc m) n a b same = (same.0, same_front m n (behind a) (behind b) same.1)

same_back : (m n : ℕ) (a b : List ℕ) → SameTokens (plus m n) a b → SameTokens n (behind_all m a) (behind_all m b)
unfolding plus
same_back zero n a b same = same
same_back (suc m) n a b same = same_back m n (behind a) (behind b) same.1

seen_back : (m n : ℕ) (a b : List ℕ) → Seen (plus m n) a b → Seen n (behind_all m a) (behind_all m b)
unfolding plus
seen_back zero n a b seen = seen
seen_back (suc m) n a b seen = seen_back m n (behind a) (behind b) seen.1

-- where what was read holds what follows
pub record Shape (R : Type 0) : Type 0 where
  pub rest : R → List ℕ
  pub put : R → List ℕ → R
  pub back : (y : R) → put y (rest y) ≡ y

abbrev pub pairs : {A : Type 0} → Shape (A × List ℕ)
pairs = record { rest = λ y. y.1; put = λ y place. (y.0, place); back = λ y. refl }

abbrev pub places : Shape (List ℕ)
places = record { rest = λ y. y; put = λ y place. place; back = λ y. refl }

abbrev pub Stops : {R : Type 0} → (List ℕ → Result R Fault) → Type 0
Stops F = (a : List ℕ) (f : Fault) → F a ≡ Err f
    → (m : ℕ) × (f.left ≡ left_at (behind_all m a)) × ((b : List ℕ) → Seen m a b → (g : Fault) × (F b ≡ Err g) × (g.kind ≡ f.kind))

abbrev pub GoesOn : {R : Type 0} → ℕ → Shape R → (List ℕ → Result R Fault) → Type 0
GoesOn {R} least s F = (a : List ℕ) (y : R) → F a ≡ Ok y
    → (m : ℕ) × (least ≤ m) × (s.rest y ≡ behind_all m a) × ((b : List ℕ) → SameTokens m a b → F b ≡ Ok (s.put y (behind_all m b)))

pub record Follows {R : Type 0} (least : ℕ) (s : Shape R) (F : List ℕ → Result R Fault) : Type 0 where
  pub ok : GoesOn least s F
  pub err : Stops F

first_fault : {R S : Type 0} (read : Result R Fault) (next : R → Result S Fault) (f : Fault) → (read >>= next) ≡ Err f
    → (read ≡ Err f) ⊎ ((y : R) × (read ≡ Ok y) × (next y ≡ Err f))
first_fault (Ok y) next f is = inr (y, refl, is)
first_fault (Err g) next f is = inl (let same : g ≡ f = cc in ap Err same)

module _ {R S : Type 0} (least : ℕ) (s : Shape R) (F : List ℕ → Result R Fault) (G : Token → R → Result S Fault) (first : Follows least s F) where
  abbrev Both : List ℕ → Result S Fault
  Both a = F a >>= G (token_at a)

  stops_both : ((token : Token) (y : R) → Stops (λ a. G token (s.put y a))) → Stops Both
  stops_both second a f is =
      ⊎_elim
      (λ at_once.
      let e = first.err a f at_once in
      (e.0, e.1, λ b seen. let g = e.2 b seen in (g.0, ap (λ r. r >>= G (token_at b)) g.1, g.2)))
      (λ later.
      let y = later.0 in
      let m = first.ok a y later.1 in
      let e = second (token_at a) y (s.rest y) f (ap (G (token_at a)) (s.back y) ∙ later.2) in (
        plus m.0 e.0,
        e.1 ∙ ap (λ place. left_at (behind_all e.0 place)) m.2 ∙ ap left_at (behind_plus m.0 e.0 a),
        λ b seen.
            let same = seen_same (plus m.0 e.0) a b seen in
            let there = subst (λ place. Seen e.0 place (behind_all m.0 b)) (sym m.2) (seen_back m.0 e.0 a b seen) in
            let g = e.2 (behind_all m.0 b) there in (
              g.0,
              ap (λ r. r >>= G (token_at b)) (m.3 b (same_front m.0 e.0 a b same))
                  ∙ ap (λ token. G token (s.put y (behind_all m.0 b))) (sym (same_first (plus m.0 e.0) a b same)) ∙ g.1,
              g.2,
            ),
      ))
      (first_fault (F a) (G (token_at a)) f is)

  goes_on_both : (t : Shape S) → ((token : Token) (y : R) → GoesOn 0 t (λ a. G token (s.put y a))) → GoesOn least t Both
  goes_on_both t second a z is =
      let p = both (F a) (G (token_at a)) z is in
      let m = first.ok a p.0 p.1 in
      let n = second (token_at a) p.0 (s.rest p.0) z (ap (G (token_at a)) (s.back p.0) ∙ p.2) in (
        plus m.0 n.0,
        (let h = at_least m.0 n.0 in let l = m.1 in omega arith),
        n.2 ∙ ap (behind_all n.0) m.2 ∙ behind_plus m.0 n.0 a,
        λ b same.
            let there = subst (λ place. SameTokens n.0 place (behind_all m.0 b)) (sym m.2) (same_back m.0 n.0 a b same) in
            ap (λ r. r >>= G (token_at b)) (m.3 b (same_front m.0 n.0 a b same))
            ∙ ap (λ token. G token (s.put p.0 (behind_all m.0 b))) (sym (same_first (plus m.0 n.0) a b same))
            ∙ n.3 (behind_all m.0 b) there ∙ ap (λ place. Ok (t.put z place)) (behind_plus m.0 n.0 b),
      )

-- one after the other, where the second may go by the token at which the first began
pub in_sight : {R S : Type 0} (least : ℕ) (s : Shape R) (t : Shape S) (F : List ℕ → Result R Fault) (G : Token → R → Result S Fault)
    → Follows least s F → ((token : Token) (y : R) → Follows 0 t (λ a. G token (s.put y a))) → Follows least t (λ a. F a >>= G (token_at a))
in_sight least s t F G first second = record {
  ok = goes_on_both least s F G first t (λ token y. (second token y).ok);
  err = stops_both least s F G first (λ token y. (second token y).err);
}

-- one after the other
pub in_turn : {R S : Type 0} (least : ℕ) (s : Shape R) (t : Shape S) (F : List ℕ → Result R Fault) (G : R → Result S Fault)
    → Follows least s F → ((y : R) → Follows 0 t (λ a. G (s.put y a))) → Follows least t (λ a. F a >>= G)
in_turn least s t F G first second = in_sight least s t F (λ token. G) first (λ token. second)

pub then_stops : {R S : Type 0} (least : ℕ) (s : Shape R) (F : List ℕ → Result R Fault) (G : R → Result S Fault)
    → Follows least s F → ((y : R) → Stops (λ a. G (s.put y a))) → Stops (λ a. F a >>= G)
then_stops least s F G first second = stops_both least s F (λ token. G) first (λ token. second)

same_ok : {R : Type 0} (x y : R) → ◌≡◌ {A = Result R Fault} (Ok x) (Ok y) → x ≡ y
same_ok x y is = cc

not_err : {R : Type 0} (x : R) (f : Fault) → ◌≡◌ {A = Result R Fault} (Ok x) (Err f) → ⊥
not_err x f is = cc

passed_ok : (found : Option LangKind) (a y : List ℕ) → passed found a ≡ Ok y → (found ≡ None) × (behind a ≡ y)
passed_ok None a y is = (refl, cc)
passed_ok (Some kind) a y is = cc

passed_err : (found : Option LangKind) (a : List ℕ) (f : Fault) → passed found a ≡ Err f → (kind : LangKind) × (found ≡ Some kind) × (fault_at kind a ≡ f)
passed_err None a f is = cc
passed_err (Some kind) a f is = (kind, refl, cc)

-- nothing is read
pub nothing : {A : Type 0} (x : A) → Follows 0 (pairs {A = A}) (λ a. Ok (x, a))
nothing x = record {
  ok = λ a y is. (zero, omega arith, ap (λ r. r.1) (sym (same_ok _ _ is)), λ b same. ap (λ value. Ok (value, b)) (ap (λ r. r.0) (same_ok _ _ is)));
  err = λ a f is. absurd (not_err _ _ is);
}

-- one token, by what is wrong with it
pub passed_follows : (judge : Token → Option LangKind) → Follows 1 places (λ a. passed (judge (token_at a)) a)
passed_follows judge = record {
  ok = λ a y is.
      let p = passed_ok (judge (token_at a)) a y is in
      (suc zero, omega arith, sym p.1, λ b same. ap (λ token. passed (judge token) b) (sym same.0) ∙ ap (λ f. passed f b) p.0);
  err = λ a f is.
      let p = passed_err (judge (token_at a)) a f is in (
        zero,
        ap (λ f. f.left) (sym p.2),
        λ b seen. (fault_at p.0 b, ap (λ token. passed (judge token) b) (sym seen.0) ∙ ap (λ f. passed f b) p.1, ap (λ f. f.kind) p.2),
      );
}

pub one_token : (as_key : Bool) (standing : Token → Standing) → Follows 1 places (λ a. step as_key (standing (token_at a)) a)
unfolding step
one_token as_key standing = passed_follows (λ token. fault_of as_key (standing token) token)

-- by the next token
module _ {R : Type 0} (least : ℕ) (s : Shape R) (test : Token → Bool) (F G : List ℕ → Result R Fault) (yes : Follows least s F) (no : Follows least s G) where
  abbrev Chosen : List ℕ → Result R Fault
  Chosen a = cond (test (token_at a)) (F a) (G a)

  alike : (t : Bool) (a b : List ℕ) → test (token_at a) ≡ t → token_at a ≡ token_at b → Chosen b ≡ cond t (F b) (G b)
  alike t a b is same = ap (λ token. cond (test token) (F b) (G b)) (sym same) ∙ ap (λ t. cond t (F b) (G b)) is

  ok_by : (t : Bool) (a : List ℕ) (y : R) → test (token_at a) ≡ t → cond t (F a) (G a) ≡ Ok y
      → (m : ℕ) × (least ≤ m) × (s.rest y ≡ behind_all m a) × ((b : List ℕ) → SameTokens m a b → Chosen b ≡ Ok (s.put y (behind_all m b)))
  ok_by true a y is read = let m = yes.ok a y read in (m.0, m.1, m.2, λ b same. alike true a b is (same_first m.0 a b same) ∙ m.3 b same)
  ok_by false a y is read = let m = no.ok a y read in (m.0, m.1, m.2, λ b same. alike false a b is (same_first m.0 a b same) ∙ m.3 b same)

  err_by : (t : Bool) (a : List ℕ) (f : Fault) → test (token_at a) ≡ t → cond t (F a) (G a) ≡ Err f
      → (m : ℕ) × (f.left ≡ left_at (behind_all m a)) × ((b : List ℕ) → Seen m a b → (g : Fault) × (Chosen b ≡ Err g) × (g.kind ≡ f.kind))
  err_by true a f is read =
      let e = yes.err a f read in
      (e.0, e.1, λ b seen. let g = e.2 b seen in (g.0, alike true a b is (same_first e.0 a b (seen_same e.0 a b seen)) ∙ g.1, g.2))
  err_by false a f is read =
      let e = no.err a f read in
      (e.0, e.1, λ b seen. let g = e.2 b seen in (g.0, alike false a b is (same_first e.0 a b (seen_same e.0 a b seen)) ∙ g.1, g.2))

  pub by_token : Follows least s (λ a. cond (test (token_at a)) (F a) (G a))
  by_token = record { ok = λ a y is. ok_by (test (token_at a)) a y refl is; err = λ a f is. err_by (test (token_at a)) a f refl is }

-- after the next token
pub behind_one : {R : Type 0} (s : Shape R) (F : List ℕ → Result R Fault) → Follows 0 s F → Follows 0 s (λ a. F (behind a))
behind_one s F first = record {
  ok = λ a y is. let m = first.ok (behind a) y is in (suc m.0, omega arith, m.2, λ b same. m.3 (behind b) same.1);
  err = λ a f is. let e = first.err (behind a) f is in (suc e.0, e.1, λ b seen. e.2 (behind b) seen.1);
}

pub loose : {R : Type 0} (s : Shape R) (F : List ℕ → Result R Fault) → Follows 1 s F → Follows 0 s F
loose s F first = record {
  ok = λ a y is. let m = first.ok a y is in (m.0, omega arith, m.2, m.3);
  err = first.err;
}

-- repetitions
pub repeats : {S : Type 0} (again : Token → Bool) (one : Bool → S → List ℕ → Reads S) → ((extra : Bool) (so_far : S) → Follows 0 pairs (one extra so_far))
    → (room : ℕ) (so_far : S) → Follows 0 pairs (each again one room so_far)
unfolding each
repeats again one first zero so_far = by_token 0 pairs again (one true so_far) (λ a. Ok (so_far, a)) (first true so_far) (nothing so_far)
repeats again one first (suc room) so_far =
    by_token 0 pairs again (λ a. one false so_far a >>= (λ x. each again one room x.0 x.1)) (λ a. Ok (so_far, a))
    (in_turn 0 pairs pairs (one false so_far) (λ x. each again one room x.0 x.1) (first false so_far) (λ y. repeats again one first room y.0)) (nothing so_far)

-- a mark that may stand there
skipped : (mark : List ℕ) (a : List ℕ) → (m : ℕ) × (skip_mark mark a ≡ behind_all m a) × ((b : List ℕ) → SameTokens m a b → skip_mark mark b ≡ behind_all m b)
unfolding skip_mark
skipped mark a = by_test (says_mark mark (token_at a)) refl where
  by_test : (t : Bool) → says_mark mark (token_at a) ≡ t
      → (m : ℕ) × (cond (says_mark mark (token_at a)) (behind a) a ≡ behind_all m a) × ((b : List ℕ) → SameTokens m a b → cond (says_mark mark (token_at b)) (behind b) b ≡ behind_all m b)
  by_test true is = (
    suc zero,
    ap (λ t. cond t (behind a) a) is,
    λ b same. ap (λ t. cond t (behind b) b) (ap (says_mark mark) (sym same.0) ∙ is),
  )
  by_test false is = (
    zero,
    ap (λ t. cond t (behind a) a) is,
    λ b same. ap (λ t. cond t (behind b) b) (ap (says_mark mark) (sym same) ∙ is),
  )

pub skip_place : (mark : List ℕ) → Follows 0 places (λ a. Ok (skip_mark mark a))
skip_place mark = record {
  ok = λ a y is. let m = skipped mark a in (m.0, omega arith, sym (same_ok _ _ is) ∙ m.1, λ b same. ap Ok (m.2 b same));
  err = λ a f is. absurd (not_err _ _ is);
}

pub skip_follows : {A : Type 0} (mark : List ℕ) (x : A) → Follows 0 (pairs {A = A}) (λ a. Ok (x, skip_mark mark a))
skip_follows mark x = record {
  ok = λ a y is.
      let m = skipped mark a in
      let same = same_ok _ _ is in
      (m.0, omega arith, ap (λ y. y.1) (sym same) ∙ m.1, λ b alike. (λ i. Ok (ap (λ y. y.0) same i, m.2 b alike i)));
  err = λ a f is. absurd (not_err _ _ is);
}
