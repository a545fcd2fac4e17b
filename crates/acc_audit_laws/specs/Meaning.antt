-- What the lines of a report say as a whole.
--     LinesKnow names lines      each name that stands in a line is that of a transaction
--     BeginOnce lines      no transaction begins twice
--     LinesAgree lines      each transaction is decided at one timestamp, and no two at the same
--     LinesCover names bodies lines      each decision names every conflicting transaction that some line decides below it
--     LinesAreSerial names bodies lines      the outcomes are those of the bodies run one by one
use Rattle.std.specs.Prelude.{◌≡◌, ℕ, ◌<◌, true, false, List, reverse, map, slice_get, Option, Some}
use Rattle.std.specs.List.{list_any}
use Rattle.std.specs.Str.{bytes_eq}
use Rattle.acc_stamp.specs.declared.stamps.Stamp.{Stamp}
use Rattle.acc_stamp.specs.Stamp.{stamp_lt}
use Rattle.acc_txn.specs.declared.parts.BodyParts.{BodyParts}
use Rattle.acc_txn.specs.declared.outcome.Reply.{Reply as ReplyValue}
use Rattle.acc_txn.specs.Serial.{serial}
use Rattle.acc_message.specs.declared.note.Path.{Path}
use Rattle.acc_report_line.specs.declared.line.Line.{Line}
use Rattle.acc_report_line.specs.declared.line.Line.TheVariants.{Begin, Decide, Outcome, Reply}
use Rattle.acc_audit.specs.Said.{names_in}
use Rattle.acc_audit.specs.Fronts.{body_of, conflict, first_reply, is_known, with_outcomes}

-- the line at this place
abbrev pub StandsAt : List Line → ℕ → Line → Type 0
StandsAt lines place line = slice_get lines place ≡ Some line

-- some line decides the transaction of this name at this timestamp
pub record DecidesAt (lines : List Line) (name : List ℕ) (t : Stamp) : Type 0 where
  pub place : ℕ
  pub path : Path
  pub deps : List (List ℕ)
  pub stands : StandsAt lines place (Decide name t path deps)

-- ---- names and begins

-- each name that stands in a line, also in its list of names, is that of a transaction
abbrev pub LinesKnow : List (List ℕ) → List Line → Type 0
LinesKnow names lines =
    (place : ℕ) (line : Line) (name : List ℕ) → StandsAt lines place line → list_any (bytes_eq name) (names_in line) ≡ true → is_known names name ≡ true

-- there is one begin of each transaction at most
abbrev pub BeginOnce : List Line → Type 0
BeginOnce lines =
    (place other : ℕ) (name : List ℕ) (id another : Stamp) → StandsAt lines place (Begin name id) → StandsAt lines other (Begin name another) → place ≡ other

-- ---- agreement

-- two decisions are of one transaction where they are at one timestamp, and the other way
abbrev pub LinesAgree : List Line → Type 0
LinesAgree lines =
    (name other : List ℕ) (t u : Stamp) → DecidesAt lines name t → DecidesAt lines other u → (name ≡ other → t ≡ u) × (t ≡ u → name ≡ other)

-- ---- coverage

abbrev pub LinesCover : List (List ℕ) → List BodyParts → List Line → Type 0
LinesCover names bodies lines =
    (place : ℕ) (name : List ℕ) (t : Stamp) (path : Path) (deps : List (List ℕ)) (other : List ℕ) (u : Stamp) → StandsAt lines place (Decide name t path deps)
    → DecidesAt lines other u → stamp_lt u t ≡ true → bytes_eq other name ≡ false → conflict names bodies name other ≡ true
    → list_any (bytes_eq other) deps ≡ true

-- ---- serial outcomes

-- the transactions with outcomes, in the order of the first outcome of each
abbrev pub in_turn : List Line → List (List ℕ)
in_turn lines = reverse (with_outcomes (reverse lines))

-- the first outcome of the transaction of this name
abbrev pub outcome_of : List Line → List ℕ → Option ReplyValue
outcome_of lines name = first_reply name (reverse lines)

-- the first outcomes are the replies of the bodies that are run one by one, in their order. An outcome stands after a begin, and a
-- reply after an outcome; no outcome and no reply differs from the first outcome
pub record LinesAreSerial (names : List (List ℕ)) (bodies : List BodyParts) (lines : List Line) : Type 0 where
  pub replies : map (outcome_of lines) (in_turn lines) ≡ map (λ reply. Some reply) (serial (map (body_of names bodies) (in_turn lines)))
  pub outcomes_alike : (place : ℕ) (name : List ℕ) (reply : ReplyValue) → StandsAt lines place (Outcome name reply) → outcome_of lines name ≡ Some reply
  pub replies_alike : (place : ℕ) (name : List ℕ) (reply : ReplyValue) → StandsAt lines place (Reply name reply) → outcome_of lines name ≡ Some reply
  pub begun_first : (place : ℕ) (name : List ℕ) (reply : ReplyValue) → StandsAt lines place (Outcome name reply)
      → (earlier : ℕ) × (id : Stamp) × (earlier < place) × StandsAt lines earlier (Begin name id)
  pub outcome_first : (place : ℕ) (name : List ℕ) (reply : ReplyValue) → StandsAt lines place (Reply name reply)
      → (earlier : ℕ) × (first : ReplyValue) × (earlier < place) × StandsAt lines earlier (Outcome name first)
