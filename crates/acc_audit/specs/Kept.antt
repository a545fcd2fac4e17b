-- What is kept of the lines before a line, by the numbers of transactions.
use Rattle.std.specs.Prelude.{◌≡◌, ℕ, ◌≤◌, ◌==◌, Bool, false, not, List, [], ◌∷◌, length, map, Option, Some, None, if◌then◌else◌}
use Rattle.std.specs.List.{list_any}
use Rattle.std.specs.Str.{bytes_eq}
use Rattle.std.specs.BTreeMap as tree
use Rattle.acc_base.specs.Faults.{or_else}
use Rattle.acc_stamp.specs.declared.stamps.Stamp.{Stamp}
use Rattle.acc_stamp.specs.Stamp.{stamp_cmp, stamp_eq, stamp_lt}
use Rattle.acc_value.specs.declared.key.Key.{Key}
use Rattle.acc_value.specs.Cells.{cells_of}
use Rattle.acc_txn.specs.declared.parts.BodyParts.{BodyParts}
use Rattle.acc_report_line.specs.declared.line.Line.{Line}
use Rattle.acc_audit.specs.declared.decisions.Decisions.{Decisions}
use Rattle.acc_audit.specs.declared.outcomes.Outcomes.{Outcomes}
use Rattle.acc_audit.specs.declared.front.Front.{Front}
use Rattle.acc_audit.specs.Said.{decision_in, begins, timestamp_in, decides_otherwise, decides_another}
use Rattle.acc_audit.specs.Fronts.{number_of, first_reply, cells_after}

-- ---- timestamps

-- the lesser of two timestamps, of which there may be one alone
abbrev pub lesser : Option Stamp → Stamp → Stamp
lesser None t = t
lesser (Some held) t = if stamp_lt held t then held else t

abbrev pub lowered : Option Stamp → Option Stamp → Option Stamp
lowered held None = held
lowered held (Some t) = Some (lesser held t)

-- the least timestamp that these lines decide for the transaction of this name
abbrev pub least_in : List ℕ → List Line → Option Stamp
least_in name [] = None
least_in name (line ∷ lines) = lowered (least_in name lines) (timestamp_in name line)

-- the entry of a transaction that has a timestamp
abbrev pub entry_of : Option Stamp → ℕ → List (Stamp × ℕ)
entry_of None number = []
entry_of (Some t) number = (t, number) ∷ []

abbrev pub is_below : Option Stamp → Stamp → Bool
is_below None t = false
is_below (Some held) t = stamp_lt held t

-- ---- decisions, which agree

-- the timestamp that the newest of them decides for the transaction of this name
abbrev pub newest_timestamp : List ℕ → List Line → Option Stamp
newest_timestamp name [] = None
newest_timestamp name (line ∷ earlier) = or_else (timestamp_in name line) (newest_timestamp name earlier)

-- the transaction that a line decides at this timestamp
abbrev pub owner_in : Stamp → Option (List ℕ × Stamp) → Option (List ℕ)
owner_in t None = None
owner_in t (Some decision) = if stamp_eq t decision.1 then Some decision.0 else None

abbrev pub decided_at : Stamp → Line → Option (List ℕ)
decided_at t line = owner_in t (decision_in line)

-- the one that the newest of them decides at this timestamp
abbrev pub newest_at : Stamp → List Line → Option (List ℕ)
newest_at t [] = None
newest_at t (line ∷ earlier) = or_else (decided_at t line) (newest_at t earlier)

abbrev pub is_other : Option Stamp → Stamp → Bool
is_other None t = false
is_other (Some held) t = not (stamp_eq t held)

abbrev pub is_another : Option (List ℕ) → List ℕ → Bool
is_another None name = false
is_another (Some held) name = not (bytes_eq name held)

abbrev pub is_not : Option ℕ → ℕ → Bool
is_not None number = false
is_not (Some held) number = not (held == number)

-- a number that stands for a name, or neither is there
abbrev pub IsNumberOf : List (List ℕ) → Option ℕ → Option (List ℕ) → Type 0
IsNumberOf names None None = Unit {0}
IsNumberOf names (Some number) (Some name) = number_of names name ≡ Some number
IsNumberOf names _ _ = ⊥

-- the decisions of these lines, which agree
pub record AreDecisions (names : List (List ℕ)) (earlier : List Line) (d : Decisions) : Type 0 where
  pub timestamps : d.timestamps.items ≡ map (λ name. newest_timestamp name earlier) names
  pub owners : (t : Stamp) → IsNumberOf names (tree.get stamp_cmp d.owners t) (newest_at t earlier)
  pub agree : (name : List ℕ) (t : Stamp) → list_any (decides_otherwise name t) earlier ≡ is_other (newest_timestamp name earlier) t
  pub agree_back : (name : List ℕ) (t : Stamp) → list_any (decides_another name t) earlier ≡ is_another (newest_at t earlier) name

-- ---- outcomes

-- the first outcomes of these lines, and the cells that they have left
pub record AreOutcomes (names : List (List ℕ)) (bodies : List BodyParts) (earlier : List Line) (o : Outcomes) : Type 0 where
  pub first : o.first.items ≡ map (λ name. first_reply name earlier) names
  pub cells : (key : Key) → cells_of o.cells key ≡ cells_after names bodies earlier key

-- ---- all of it

-- marks, each at most this
abbrev pub AreMarks : List (List ℕ) → ℕ → List ℕ → Type 0
AreMarks names most marks = (was : List ℕ → ℕ) × (marks ≡ map was names) × ((name : List ℕ) → was name ≤ most)

pub record Holds (names : List (List ℕ)) (bodies : List BodyParts) (earlier : List Line) (place : ℕ) (front : Front) : Type 0 where
  pub marks : AreMarks names place front.marks.items
  pub begun : front.begun.items ≡ map (λ name. list_any (begins name) earlier) names
  pub decisions : AreDecisions names earlier front.decisions
  pub outcomes : AreOutcomes names bodies earlier front.outcomes

-- there is one for each transaction
pub record AreSized (names : List (List ℕ)) (bodies : List BodyParts) (front : Front) : Type 0 where
  pub marks : length front.marks.items ≡ length names
  pub begun : length front.begun.items ≡ length names
  pub timestamps : length front.decisions.timestamps.items ≡ length names
  pub first : length front.outcomes.first.items ≡ length names
  pub as_many : length bodies ≡ length names
