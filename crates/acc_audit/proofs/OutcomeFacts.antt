-- The outcomes of the lines so far, with one more.
use Rattle.std.proofs.Common.{◌≡◌, ℕ, ◌<◌, List, [], ◌∷◌, ◌++◌, length, map, get_or, set, Bool, true, false, cond, Option, Some, None, is_some, unwrap_or, slice_get, refl, sym, ap, subst, ◌∙◌}
use Rattle.std.proofs.lemmas.List.{get_or_default}
use Rattle.std.proofs.lemmas.Option.{unwrap_or-slice_get}
use Rattle.std.proofs.lemmas.Slice.Eq.{bytes_eq-Decides}
use Rattle.std.specs.Prelude.{option_and_then}
use Rattle.acc_base.specs.Faults.{or_else}
use Rattle.acc_value.specs.declared.key.Key.{Key}
use Rattle.acc_value.specs.declared.value.Value.{Value}
use Rattle.acc_value.specs.Cells.{cells_of}
use Rattle.acc_txn.specs.declared.parts.BodyParts.{BodyParts}
use Rattle.acc_txn.specs.declared.outcome.Reply.{Reply}
use Rattle.acc_txn.specs.Meaning.{outcome_of}
use Rattle.acc_txn.specs.Serial.{map_after}
use Rattle.acc_report_line.specs.declared.line.Line.{Line}
use Rattle.acc_report_line.specs.declared.line.Line.TheVariants.{Outcome}
use Rattle.acc_audit.specs.declared.outcomes.Outcomes.{Outcomes}
use Rattle.acc_audit.specs.Said.{same_reply}
use Rattle.acc_audit.specs.Fronts.{number_of, body_of, no_body, first_reply, with_outcomes, cells_of_all, cells_after, answer_of}
use Rattle.acc_audit.specs.Rules.{Differ}
use Rattle.acc_audit.specs.Kept.{AreOutcomes}
use Rattle.acc_audit.proofs.NumberFacts.{numbered}
use Rattle.acc_audit.proofs.TableFacts.{name-set}
use Rattle.acc_audit.proofs.DecisionFacts.{at_number}

pub body_is : (names : List (List ℕ)) (bodies : List BodyParts) (name : List ℕ) (n : ℕ) (body : BodyParts) → number_of names name ≡ Some n → body ≡ get_or bodies n no_body → body ≡ body_of names bodies name
body_is names bodies name n body is at =
    at ∙ sym (unwrap_or-slice_get bodies n no_body) ∙ sym (ap (λ (o : Option ℕ). unwrap_or (option_and_then (slice_get bodies) o) no_body) is)

pub body_item : (names : List (List ℕ)) (bodies : List BodyParts) (name : List ℕ) (n : ℕ) (body : BodyParts) → length bodies ≡ length names → number_of names name ≡ Some n → body ≡ get_or bodies n body → body ≡ body_of names bodies name
body_item names bodies name n body many is at =
    let within : n < length bodies = subst (λ k. n < k) (sym many) (numbered names name n is).0 in
    body_is names bodies name n body is (at ∙ get_or_default bodies n body no_body within)

pub or_none : (o : Option Reply) → or_else o None ≡ o
or_none None = refl
or_none (Some r) = refl

-- what is kept of the first outcome of a transaction
pub first_is : (names : List (List ℕ)) (bodies : List BodyParts) (earlier : List Line) (o : Outcomes) (name : List ℕ) (n : ℕ) → number_of names name ≡ Some n → AreOutcomes names bodies earlier o
    → get_or o.first.items n None ≡ first_reply name earlier
first_is names bodies earlier o name n is are = at_number (λ other. first_reply other earlier) names n name o.first.items None is are.first

pub cells_are : (names : List (List ℕ)) (bodies : List BodyParts) (earlier : List Line) (o : Outcomes) → AreOutcomes names bodies earlier o → cells_of o.cells ≡ cells_after names bodies earlier
cells_are names bodies earlier o are = λ i key. are.cells key i

-- whether an outcome is right
pub right_is : (names : List (List ℕ)) (bodies : List BodyParts) (earlier : List Line) (o : Outcomes) (name : List ℕ) (n : ℕ) (body : BodyParts) (reply : Reply) → number_of names name ≡ Some n → body ≡ body_of names bodies name → AreOutcomes names bodies earlier o
    → same_reply (unwrap_or (get_or o.first.items n None) (outcome_of body (cells_of o.cells)).reply) reply ≡ same_reply (unwrap_or (first_reply name earlier) (answer_of names bodies earlier name)) reply
right_is names bodies earlier o name n body reply is its are =
    λ i. same_reply (unwrap_or (first_is names bodies earlier o name n is are i) (outcome_of (its i) (cells_are names bodies earlier o are i)).reply) reply

-- the cells after one that may have an outcome already
abbrev left_by : List (List ℕ) → List BodyParts → List Line → List ℕ → Bool → Key → Option Value
left_by names bodies earlier name has key = cells_of_all (map (body_of names bodies) (cond has [] (name ∷ []) ++ with_outcomes earlier)) key

cells_with : (names : List (List ℕ)) (bodies : List BodyParts) (earlier : List Line) (name : List ℕ) (key : Key) (has : Bool)
    → cond has (cells_after names bodies earlier key) (map_after (cells_after names bodies earlier) (body_of names bodies name) key) ≡ left_by names bodies earlier name has key
cells_with names bodies earlier name key true = refl
cells_with names bodies earlier name key false = refl

-- a right outcome is noted
pub outcome_noted : (names : List (List ℕ)) (bodies : List BodyParts) (earlier : List Line) (o o' : Outcomes) (name : List ℕ) (n : ℕ) (body : BodyParts) (reply : Reply) → Differ names → number_of names name ≡ Some n → body ≡ body_of names bodies name
    → AreOutcomes names bodies earlier o → o'.first.items ≡ set o.first.items n (or_else (get_or o.first.items n None) (Some reply))
    → ((key : Key) → cells_of o'.cells key ≡ cond (is_some (get_or o.first.items n None)) (cells_of o.cells key) (map_after (cells_of o.cells) body key))
    → AreOutcomes names bodies (Outcome name reply ∷ earlier) o'
outcome_noted names bodies earlier o o' name n body reply differ is its are firsts cells =
    let at = numbered names name n is in
    let first = first_is names bodies earlier o name n is are in
    record {
      first =
          firsts ∙ (λ i. set (are.first i) n (or_else (first i) (Some reply)))
          ∙ name-set (λ other. first_reply other earlier) (λ other. first_reply other (Outcome name reply ∷ earlier)) names n (or_else (first_reply name earlier) (Some reply)) name differ at.0 at.1
          (ap (λ b. or_else (first_reply name earlier) (cond b (Some reply) None)) ((bytes_eq-Decides name name).1 refl))
          (λ other apart. ap (λ b. or_else (first_reply other earlier) (cond b (Some reply) None)) apart ∙ or_none (first_reply other earlier));
      cells = λ key.
          cells key
          ∙ (λ i. cond (is_some (first i)) (are.cells key i) (map_after (cells_are names bodies earlier o are i) (its i) key))
          ∙ cells_with names bodies earlier name key (is_some (first_reply name earlier));
    }
