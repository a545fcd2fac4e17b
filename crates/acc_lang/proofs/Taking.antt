-- What a token that was judged makes of the text.
use Rattle.std.proofs.Common.{◌≡◌, ℕ, Bool, true, false, cond, List, Option, Some, None, Result, Ok, Err, OnOk, refl, sym, ap, ◌∙◌}
use Rattle.acc_token.specs.Tokens.{Token, Word, Mark, Number, Quoted, Strange, End, left_at, behind}
use Rattle.acc_lang.specs.declared.error.LangKind.{LangKind}
use Rattle.acc_lang.specs.declared.fault.Fault.{Fault}
use Rattle.acc_lang.specs.declared.fault.ReadError.{ReadError}
use Rattle.acc_lang.specs.declared.fault.ReadError.TheVariants.{At, OutOfMemory}
use Rattle.acc_lang.specs.declared.fault.Standing.{Standing}
use Rattle.acc_lang.specs.declared.fault.Standing.TheVariants.{Misplaced}
use Rattle.acc_lang.specs.Faults.{fault_of, greatest_fault, is_long, is_broken, is_large}
use Rattle.acc_lang.specs.Answer.{Fails, Passes, IsFaultOf, Judges}
use Rattle.acc_lang.specs.Reading.{passed, standing_of, ◌>>=◌}

-- a fault that was found stops at the token
pub fault_fails : (error : ReadError) (found : Option LangKind) (left : ℕ) (text : List ℕ)
    → IsFaultOf error found left → left ≡ left_at text → Fails error (passed found text)
fault_fails (At fault) found left text judged is =
    let at : ℕ → Fault = λ n. record { kind = fault.kind; left = n } in
    ap (λ f. passed f text) judged.0 ∙ ap (λ n. Err (at n)) (sym is ∙ sym judged.1)
fault_fails OutOfMemory found left text judged is = absurd judged

pub passes : {U : Type 0} (result : Result U ReadError) (found : Option LangKind) (left : ℕ) (text rest : List ℕ)
    → Judges result found left → left ≡ left_at text → rest ≡ behind text → Passes result rest (passed found text)
passes (Ok x) found left text rest judged is follows = cc
passes (Err error) found left text rest judged is follows = fault_fails error found left text judged is

-- a fault ends all that goes on from there
pub fails_on : {A B : Type 0} (error : ReadError) (read : Result A Fault) (next : A → Result B Fault) → Fails error read → Fails error (read >>= next)
fails_on (At fault) read next failed = ap (λ r. r >>= next) failed
fails_on OutOfMemory read next failed = tt

pub fails_at_once : {A : Type 0} (error : ReadError) (found : Option LangKind) (left : ℕ) (text : List ℕ) (next : List ℕ → Result A Fault)
    → IsFaultOf error found left → left ≡ left_at text → Fails error (passed found text >>= next)
fails_at_once error found left text next judged is = fails_on error (passed found text) next (fault_fails error found left text judged is)

chain : {K : Type 0} (a b c : Bool) (x y z w : K) → cond a (Some x) (cond b (Some y) (cond c (Some z) (Some w))) ≡ None → ⊥
chain true b c x y z w none = cc
chain false true c x y z w none = cc
chain false false true x y z w none = cc
chain false false false x y z w none = cc

-- what isn't allowed is at fault
pub misplaced : {A : Type 0} (as_key : Bool) (token : Token) → greatest_fault as_key Misplaced token ≡ None → A
misplaced as_key token none = absurd (chain (is_long token) (is_broken as_key token) (is_large token) _ _ _ _ none)

-- what is one too many is at fault
pub fits : (as_key allowed extra suits : Bool) (token : Token) → fault_of as_key (standing_of allowed extra suits) token ≡ None → extra ≡ false
unfolding fault_of standing_of
fits as_key true true suits (Word letters) none = cc
fits as_key true true suits (Mark mark) none = cc
fits as_key true true suits (Number number) none = cc
fits as_key true true suits (Quoted text closed) none = cc
fits as_key true true suits Strange none = cc
fits as_key true true suits End none = cc
fits as_key true false suits token none = refl
fits as_key false true suits (Word letters) none = misplaced as_key (Word letters) none
fits as_key false true suits (Mark mark) none = misplaced as_key (Mark mark) none
fits as_key false true suits (Number number) none = misplaced as_key (Number number) none
fits as_key false true suits (Quoted text closed) none = misplaced as_key (Quoted text closed) none
fits as_key false true suits Strange none = cc
fits as_key false true suits End none = cc
fits as_key false false suits token none = refl

-- what holds in any case holds of a success
pub on_ok : {X E P : Type 0} (result : Result X E) → P → OnOk result P
on_ok (Ok x) holds = holds
on_ok (Err e) holds = tt

pub fits_at : (as_key : Bool) (standing : Standing) (allowed extra suits : Bool) (token : Token) → standing ≡ standing_of allowed extra suits → fault_of as_key standing token ≡ None → extra ≡ false
fits_at as_key standing allowed extra suits token is none = fits as_key allowed extra suits token (ap (λ s. fault_of as_key s token) (sym is) ∙ none)
