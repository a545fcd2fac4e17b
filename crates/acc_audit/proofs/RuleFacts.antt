-- The first of the seven rules that is broken, from what is known of some of them.
use Rattle.std.proofs.Common.{◌≡◌, ℕ, ◌+◌, ◌<◌, ◌≤◌, add-zero, length, take, get_or, arith, List, ◌∷◌, Bool, true, false, not, ◌&&◌, ◌||◌, Option, Some, None, cond, refl, sym, ap, subst, ◌∙◌}
use Rattle.std.specs.Prelude.{count_by}
use Rattle.std.specs.List.{list_all, list_any}
use Rattle.std.proofs.lemmas.List.Sums.{count_by_more_no, count_by_more_yes}
use Rattle.acc_txn.specs.declared.parts.BodyParts.{BodyParts}
use Rattle.acc_stamp.specs.declared.stamps.Stamp.{Stamp}
use Rattle.acc_message.specs.declared.note.Path.{Path}
use Rattle.acc_report_line.specs.declared.line.Line.{Line}
use Rattle.acc_report_line.specs.declared.line.Line.TheVariants.{Decide}
use Rattle.acc_audit.specs.Fronts.{is_known, number_of}
use Rattle.acc_audit.specs.Said.{decides_another, decides_otherwise}
use Rattle.acc_audit.specs.Rules.{is_missed, rule_of, rules, IsFound}
use Rattle.acc_audit.proofs.NumberFacts.{known_as}

pub all_known : (names : List (List ℕ)) (name : List ℕ) (deps : List (List ℕ)) (n : ℕ) (known : Bool) → number_of names name ≡ Some n → known ≡ list_all (is_known names) deps → known ≡ true → false ≡ not (list_all (is_known names) (name ∷ deps))
all_known names name deps n known is tells holds =
    sym (ap (λ (b : Bool). not (b && list_all (is_known names) deps)) (known_as names name (Some n) (sym is)) ∙ ap (λ (b : Bool). not b) (sym tells ∙ holds))

pub not_all_known : (names : List (List ℕ)) (name : List ℕ) (deps : List (List ℕ)) (known : Bool) → known ≡ list_all (is_known names) deps → known ≡ false → true ≡ not (list_all (is_known names) (name ∷ deps))
not_all_known names name deps known tells fails =
    sym (ap (λ (b : Bool). not (is_known names name && b)) (sym tells ∙ fails) ∙ not_both (is_known names name))
  where
    not_both : (a : Bool) → not (a && false) ≡ true
    not_both true = refl
    not_both false = refl

-- a decision of one that there is not
pub unknown_decision : (names : List (List ℕ)) (bodies : List BodyParts) (lines earlier : List Line) (last : Bool) (name : List ℕ) (t : Stamp) (path : Path) (deps : List (List ℕ)) → None ≡ number_of names name
    → Some 1 ≡ rule_of names bodies lines earlier last (Decide name t path deps)
unknown_decision names bodies lines earlier last name t path deps unknown =
    ap (λ (b : Bool). rules b false (list_any (decides_otherwise name t) earlier || list_any (decides_another name t) earlier) (list_any (is_missed names bodies name t deps) lines) false false last)
    (sym (ap (λ (b : Bool). not (b && list_all (is_known names) deps)) (known_as names name None unknown)))

-- where no rule is broken, the third is kept
pub agreed : (r3 r4 last : Bool) (rule : Option ℕ) → rule ≡ rules false false r3 r4 false false last → rule ≡ None → r3 ≡ false
agreed true r4 last rule is none = absurd (some_none 3 (sym is ∙ none))
  where
    some_none : (n : ℕ) → Some n ≡ None → ⊥
    some_none n e = cc
agreed false r4 last rule is none = refl

-- ---- counts

pub count_more : (p : Line → Bool) (xs : List Line) (i : ℕ) (x : Line) (one : Bool) (count new : ℕ) → i < length xs → x ≡ get_or xs i x → one ≡ p x → count ≡ count_by p (take i xs) → new ≡ count + cond one 1 0 → new ≡ count_by p (take (i + 1) xs)
count_more p xs i x true count new within at is so_far made =
    made ∙ ap (λ n. n + 1) so_far ∙ sym (count_by_more_yes p xs i x within (ap p (sym at) ∙ sym is))
count_more p xs i x false count new within at is so_far made =
    made ∙ add-zero count ∙ so_far ∙ sym (count_by_more_no p xs i x within (ap p (sym at) ∙ sym is))

pub counted_few : (one : Bool) (count new place : ℕ) → count ≤ place → new ≡ count + cond one 1 0 → new ≤ place + 1
counted_few true count new place few made = omega (arith, few, made)
counted_few false count new place few made = omega (arith, few, made)

-- what is found of equal lists
pub found_same : (names names' : List (List ℕ)) (bodies bodies' : List BodyParts) (lines lines' : List Line) (fault fault' : Option (ℕ × ℕ)) → names ≡ names' → bodies ≡ bodies' → lines ≡ lines' → fault ≡ fault' → IsFound names bodies lines fault → IsFound names' bodies' lines' fault'
found_same names names' bodies bodies' lines lines' fault fault' n b l f found =
    subst (λ (x : Option (ℕ × ℕ)). IsFound names' bodies' lines' x) f (subst (λ (x : List Line). IsFound names' bodies' x fault) l (subst (λ (x : List BodyParts). IsFound names' x lines fault) b (subst (λ (x : List (List ℕ)). IsFound x bodies lines fault) n found)))
