-- What the lines before a line say, which stand with the newest first.
--     before lines place      the lines before the one at a place, counted from 0
--     first_reply name earlier      the first outcome of a transaction
--     cells_after names bodies earlier      the cells that the bodies of the first outcomes have left
use Rattle.std.specs.Prelude.{ℕ, Bool, List, [], ◌∷◌, ◌++◌, Option, None, if◌then◌else◌, map, take, reverse, position, slice_get, is_some, unwrap_or, option_and_then}
use Rattle.std.specs.List.{list_any}
use Rattle.std.specs.Str.{bytes_eq}
use Rattle.acc_base.specs.Faults.{or_else}
use Rattle.acc_value.specs.declared.key.Key.{Key}
use Rattle.acc_value.specs.declared.value.Value.{Value}
use Rattle.acc_value.specs.Footprint.{clashes}
use Rattle.acc_txn.specs.declared.parts.BodyParts.{BodyParts}
use Rattle.acc_txn.specs.declared.parts.Select.TheVariants.{Nothing}
use Rattle.acc_txn.specs.declared.outcome.Reply.{Reply as ReplyValue}
use Rattle.acc_txn.specs.Meaning.{outcome_of}
use Rattle.acc_txn.specs.Serial.{map_after}
use Rattle.acc_txn.specs.Uses.{footprint_of}
use Rattle.acc_report_line.specs.declared.line.Line.{Line}
use Rattle.acc_report_line.specs.declared.line.Line.TheVariants.{Outcome}
use Rattle.acc_audit.specs.Said.{outcome_in}

-- ---- transactions

-- the number of the transaction with this name
abbrev pub number_of : List (List ℕ) → List ℕ → Option ℕ
number_of names name = position (bytes_eq name) names

abbrev pub is_known : List (List ℕ) → List ℕ → Bool
is_known names name = list_any (bytes_eq name) names

-- a name that is unknown stands for no keys and no updates
abbrev pub no_body : BodyParts
no_body = record { lets = []; select = Nothing; guards = []; updates = [] }

-- the body of the transaction with this name
abbrev pub body_of : List (List ℕ) → List BodyParts → List ℕ → BodyParts
body_of names bodies name = unwrap_or (option_and_then (slice_get bodies) (number_of names name)) no_body

-- the two share a key that one of them writes
abbrev pub conflict : List (List ℕ) → List BodyParts → List ℕ → List ℕ → Bool
conflict names bodies a b = clashes (footprint_of (body_of names bodies a)) (footprint_of (body_of names bodies b))

-- ---- lines before a line

abbrev pub before : List Line → ℕ → List Line
before lines place = reverse (take place lines)

-- the first outcome of the transaction of this name
abbrev pub first_reply : List ℕ → List Line → Option ReplyValue
first_reply name [] = None
first_reply name (line ∷ earlier) = or_else (first_reply name earlier) (outcome_in name line)

abbrev pub has_outcome : List ℕ → List Line → Bool
has_outcome name earlier = is_some (first_reply name earlier)

-- the transaction whose first outcome the line tells
abbrev pub newly_in : List Line → Line → List (List ℕ)
newly_in earlier (Outcome name reply) = if has_outcome name earlier then [] else name ∷ []
newly_in earlier _ = []

-- the transactions that have outcomes, the one with the newest first outcome first
abbrev pub with_outcomes : List Line → List (List ℕ)
with_outcomes [] = []
with_outcomes (line ∷ earlier) = newly_in earlier line ++ with_outcomes earlier

-- the cells after bodies that are run one by one, of which the newest stands first; every cell is null before them
abbrev pub cells_of_all : List BodyParts → Key → Option Value
cells_of_all [] = λ key. None
cells_of_all (body ∷ earlier) = map_after (cells_of_all earlier) body

-- the cells that the bodies of the first outcomes have left
abbrev pub cells_after : List (List ℕ) → List BodyParts → List Line → Key → Option Value
cells_after names bodies earlier = cells_of_all (map (body_of names bodies) (with_outcomes earlier))

-- the reply of a transaction whose body is run on these cells
abbrev pub answer_of : List (List ℕ) → List BodyParts → List Line → List ℕ → ReplyValue
answer_of names bodies earlier name = (outcome_of (body_of names bodies name) (cells_after names bodies earlier)).reply
