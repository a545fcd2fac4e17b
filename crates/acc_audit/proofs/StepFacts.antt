-- What is kept of the lines, one line further.
use Rattle.std.proofs.Common.{◌≡◌, ℕ, ◌+◌, List, [], ◌∷◌, ◌++◌, length, map, set, Bool, true, false, not, ◌&&◌, ◌||◌, Option, Some, None, is_some, refl, sym, ap, subst, ◌∙◌, arith}
use Rattle.std.specs.Prelude.{replicate}
use Rattle.std.specs.List.{list_any}
use Rattle.std.specs.Str.{bytes_eq}
use Rattle.std.specs.BTreeMap as tree
use Rattle.std.proofs.lemmas.List.{length-map}
use Rattle.std.proofs.lemmas.Slice.Eq.{bytes_eq-Decides}
use Rattle.acc_base.specs.Faults.{or_else}
use Rattle.acc_stamp.specs.declared.stamps.Stamp.{Stamp}
use Rattle.acc_stamp.specs.Stamp.{stamp_cmp}
use Rattle.acc_value.specs.declared.key.Key.{Key}
use Rattle.acc_value.specs.Cells.{cells_of}
use Rattle.acc_txn.specs.declared.parts.BodyParts.{BodyParts}
use Rattle.acc_report_line.specs.declared.line.Line.{Line}
use Rattle.acc_report_reader.specs.declared.placed.PlacedForm.{PlacedForm}
use Rattle.acc_report_reader.specs.Placed.{line_said}
use Rattle.acc_audit.specs.declared.decisions.Decisions.{Decisions}
use Rattle.acc_audit.specs.declared.outcomes.Outcomes.{Outcomes}
use Rattle.acc_audit.specs.declared.front.Front.{Front}
use Rattle.acc_audit.specs.Said.{begins, decision_in, is_of_another, is_otherwise, outcome_in, timestamp_of}
use Rattle.acc_audit.specs.Fronts.{number_of, is_known, body_of, first_reply, newly_in, with_outcomes, cells_of_all}
use Rattle.acc_audit.specs.Kept.{newest_timestamp, newest_at, owner_in, is_other, is_another, IsNumberOf, AreDecisions, AreOutcomes, AreSized, Holds}
use Rattle.acc_audit.specs.Rules.{Differ}
use Rattle.acc_audit.proofs.NumberFacts.{numbered, known_as}
use Rattle.acc_audit.proofs.TableFacts.{name-set}
use Rattle.acc_audit.proofs.LeastFacts.{all_one}
use Rattle.acc_audit.proofs.MarkFacts.{marks_later}
use Rattle.acc_audit.proofs.OutcomeFacts.{or_none}

-- whether the names of a line are known, the first of which has been looked up
pub known_first : (names : List (List ℕ)) (name : List ℕ) (found : Option ℕ) (others : Bool) → found ≡ number_of names name → not (is_some found && others) ≡ not (is_known names name && others)
known_first names name found others is = ap (λ b. not (b && others)) (sym (known_as names name found is))

-- a transaction is begun
pub begun_more : (was : List ℕ → Bool) (names : List (List ℕ)) (n : ℕ) (name : List ℕ) (old : List Bool) → Differ names → number_of names name ≡ Some n → old ≡ map was names → set old n true ≡ map (λ other. bytes_eq other name || was other) names
begun_more was names n name old differ is are =
    let at = numbered names name n is in
    ap (λ (xs : List Bool). set xs n true) are
    ∙ name-set was (λ other. bytes_eq other name || was other) names n true name differ at.0 at.1
    (ap (λ b. b || was name) ((bytes_eq-Decides name name).1 refl)) (λ other apart. ap (λ b. b || was other) apart)

-- ---- lines that change nothing of it

pub begun_kept : (names : List (List ℕ)) (earlier : List Line) (line : Line) (begun : List Bool) → ((name : List ℕ) → begins name line ≡ false) → begun ≡ map (λ name. list_any (begins name) earlier) names → begun ≡ map (λ name. list_any (begins name) (line ∷ earlier)) names
begun_kept names earlier line begun none are = are ∙ (λ i. map (λ name. sym (none name) i || list_any (begins name) earlier) names)

pub decisions_kept : (names : List (List ℕ)) (earlier : List Line) (line : Line) (d : Decisions) → decision_in line ≡ None → AreDecisions names earlier d → AreDecisions names (line ∷ earlier) d
decisions_kept names earlier line d says are = record {
  timestamps = are.timestamps ∙ (λ i. map (λ name. or_else (timestamp_of name (sym says i)) (newest_timestamp name earlier)) names);
  owners = λ t. subst (λ (said : Option (List ℕ × Stamp)). IsNumberOf names (tree.get stamp_cmp d.owners t) (or_else (owner_in t said) (newest_at t earlier))) (sym says) (are.owners t);
  agree = λ name t. (λ i. is_otherwise name t (says i) || list_any (λ other. is_otherwise name t (decision_in other)) earlier) ∙ are.agree name t
      ∙ (λ i. is_other (or_else (timestamp_of name (sym says i)) (newest_timestamp name earlier)) t);
  agree_back = λ name t. (λ i. is_of_another name t (says i) || list_any (λ other. is_of_another name t (decision_in other)) earlier) ∙ are.agree_back name t
      ∙ (λ i. is_another (or_else (owner_in t (sym says i)) (newest_at t earlier)) name);
}

pub outcomes_kept : (names : List (List ℕ)) (bodies : List BodyParts) (earlier : List Line) (line : Line) (o : Outcomes) → ((name : List ℕ) → outcome_in name line ≡ None) → newly_in earlier line ≡ [] → AreOutcomes names bodies earlier o → AreOutcomes names bodies (line ∷ earlier) o
outcomes_kept names bodies earlier line o none newly are = record {
  first = are.first ∙ (λ i. map (λ name. (sym (or_none (first_reply name earlier)) ∙ ap (or_else (first_reply name earlier)) (sym (none name))) i) names);
  cells = λ key. are.cells key ∙ ap (λ (new : List (List ℕ)). cells_of_all (map (body_of names bodies) (new ++ with_outcomes earlier)) key) (sym newly);
}

-- a line that neither begins nor decides a transaction nor tells an outcome
pub holds_other : (names : List (List ℕ)) (bodies : List BodyParts) (earlier : List Line) (place : ℕ) (front : Front) (line : Line) → ((name : List ℕ) → begins name line ≡ false) → decision_in line ≡ None → ((name : List ℕ) → outcome_in name line ≡ None)
    → newly_in earlier line ≡ [] → Holds names bodies earlier place front → Holds names bodies (line ∷ earlier) (place + 1) front
holds_other names bodies earlier place front line begun decided told newly holds = record {
  marks = marks_later names front.marks.items place holds.marks;
  begun = begun_kept names earlier line front.begun.items begun holds.begun;
  decisions = decisions_kept names earlier line front.decisions decided holds.decisions;
  outcomes = outcomes_kept names bodies earlier line front.outcomes told newly holds.outcomes;
}

-- there is something of each transaction
pub holds_sized : (names : List (List ℕ)) (bodies : List BodyParts) (earlier : List Line) (place : ℕ) (front : Front) → length bodies ≡ length names → Holds names bodies earlier place front → AreSized names bodies front
holds_sized names bodies earlier place front many holds = record {
  marks = ap length holds.marks.1 ∙ length-map names holds.marks.0;
  begun = ap length holds.begun ∙ length-map names (λ name. list_any (begins name) earlier);
  timestamps = ap length holds.decisions.timestamps ∙ length-map names (λ name. newest_timestamp name earlier);
  first = ap length holds.outcomes.first ∙ length-map names (λ name. first_reply name earlier);
  as_many = many;
}

-- what is kept of no lines
pub holds_none : (names : List (List ℕ)) (bodies : List BodyParts) (count : ℕ) (front : Front) → count ≡ length names → front.marks.items ≡ replicate count 0 → front.begun.items ≡ replicate count false → front.decisions.timestamps.items ≡ replicate count None
    → ((t : Stamp) → tree.get stamp_cmp front.decisions.owners t ≡ None) → front.outcomes.first.items ≡ replicate count None → ((key : Key) → cells_of front.outcomes.cells key ≡ None) → Holds names bodies [] 0 front
holds_none names bodies count front many marks begun timestamps owners first cells = record {
  marks = (λ _. 0, all_one names 0 count front.marks.items marks many, λ name. omega arith);
  begun = all_one names false count front.begun.items begun many;
  decisions = record {
    timestamps = all_one names None count front.decisions.timestamps.items timestamps many;
    owners = λ t. subst (λ (found : Option ℕ). IsNumberOf names found None) (sym (owners t)) tt;
    agree = λ name t. refl;
    agree_back = λ name t. refl;
  };
  outcomes = record { first = all_one names None count front.outcomes.first.items first many; cells = cells };
}

-- the line that these words say
pub said : (form : PlacedForm) (line : Line) (words : PlacedForm) → form ≡ words → line_said form ≡ line → line_said words ≡ line
said form line words is says = ap line_said (sym is) ∙ says
