-- The rules that the lines of a report keep, against transactions with names and bodies.
--     Breaks names bodies lines place rule      the line at the place, counted from 0, breaks this rule
--     KeepsRules names bodies lines      no line breaks a rule
--     IsFirstFault names bodies lines place rule      this is the first line that breaks one, and its least rule
use Rattle.std.specs.Prelude.{◌≡◌, ℕ, ◌+◌, ◌-◌, ◌≤◌, ◌<◌, Bool, true, false, not, ◌&&◌, ◌||◌, ◌==◌, List, [], ◌∷◌, length, count_by, slice_get, slice_index_or, Option, Some, None, unwrap_or, Result, Ok, Err, if◌then◌else◌}
use Rattle.std.specs.List.{list_any, list_all}
use Rattle.std.specs.Str.{bytes_eq}
use Rattle.acc_stamp.specs.declared.stamps.Stamp.{Stamp}
use Rattle.acc_stamp.specs.Stamp.{stamp_lt}
use Rattle.acc_txn.specs.declared.parts.BodyParts.{BodyParts}
use Rattle.acc_txn.specs.declared.outcome.Reply.{Reply as ReplyValue}
use Rattle.acc_report_line.specs.declared.line.Line.{Line}
use Rattle.acc_report_line.specs.declared.line.Line.TheVariants.{Begin, Decide, Outcome, Reply, Decided, End}
use Rattle.acc_audit.specs.declared.error.AuditError.{AuditError}
use Rattle.acc_audit.specs.declared.error.AuditError.TheVariants.{No, OutOfMemory}
use Rattle.acc_audit.specs.Said.{decision_in, names_in, begins, is_begin, is_reply, decides_otherwise, decides_another, same_reply}
use Rattle.acc_audit.specs.Fronts.{is_known, conflict, before, first_reply, has_outcome, answer_of}

-- no two of the names are equal
abbrev pub Differ : List (List ℕ) → Type 0
Differ names = (i j : ℕ) → i < length names → j < length names → slice_index_or names i [] ≡ slice_index_or names j [] → i ≡ j

-- ---- the rules, one by one. The lines before stand with the newest first

-- 1: the line names a transaction that there is not
abbrev pub names_another : List (List ℕ) → Line → Bool
names_another names line = not (list_all (is_known names) (names_in line))

-- 2: it begins one that is begun
abbrev pub begins_again : List Line → Line → Bool
begins_again earlier (Begin name id) = list_any (begins name) earlier
begins_again earlier _ = false

-- 3: it decides one that is decided at another timestamp, or at a timestamp at which another one is decided
abbrev pub disagrees : List Line → Line → Bool
disagrees earlier (Decide name t path deps) = list_any (decides_otherwise name t) earlier || list_any (decides_another name t) earlier
disagrees earlier _ = false

-- 4: it decides one, and does not name another that conflicts with it and that some line decides below it
abbrev pub is_unnamed : List (List ℕ) → List BodyParts → List ℕ → Stamp → List (List ℕ) → Option (List ℕ × Stamp) → Bool
is_unnamed names bodies name t deps None = false
is_unnamed names bodies name t deps (Some decision) =
    stamp_lt decision.1 t && not (bytes_eq decision.0 name) && conflict names bodies name decision.0 && not (list_any (bytes_eq decision.0) deps)

abbrev pub is_missed : List (List ℕ) → List BodyParts → List ℕ → Stamp → List (List ℕ) → Line → Bool
is_missed names bodies name t deps line = is_unnamed names bodies name t deps (decision_in line)

abbrev pub misses : List (List ℕ) → List BodyParts → List Line → Line → Bool
misses names bodies lines (Decide name t path deps) = list_any (is_missed names bodies name t deps) lines
misses names bodies lines _ = false

-- 5: it is an outcome of one that is not begun, or a reply of one that has no outcome
abbrev pub comes_early : List Line → Line → Bool
comes_early earlier (Outcome name reply) = not (list_any (begins name) earlier)
comes_early earlier (Reply name reply) = not (has_outcome name earlier)
comes_early earlier _ = false

abbrev pub differs_from : Option ReplyValue → ReplyValue → Bool
differs_from None reply = false
differs_from (Some first) reply = not (same_reply first reply)

-- 6: it is a first outcome that is not what the body answers on the cells before it, or another outcome or a reply that is
-- not the first outcome
abbrev pub answers_wrongly : List (List ℕ) → List BodyParts → List Line → Line → Bool
answers_wrongly names bodies earlier (Outcome name reply) =
    not (same_reply (unwrap_or (first_reply name earlier) (answer_of names bodies earlier name)) reply)
answers_wrongly names bodies earlier (Reply name reply) = differs_from (first_reply name earlier) reply
answers_wrongly names bodies earlier _ = false

-- 7: it is a line of a summary, an end that is not the last line or has other counts, or a last line that is no end
abbrev pub has_counts : List Line → ℕ → ℕ → ℕ → Bool
has_counts lines txns replied unreplied = (txns == count_by is_begin lines) && (replied == count_by is_reply lines) && (replied + unreplied == txns)

abbrev pub ends_wrongly : List Line → Bool → Line → Bool
ends_wrongly lines last (Decided fast slow recovered adopted) = true
ends_wrongly lines last (End txns replied unreplied) = not (last && has_counts lines txns replied unreplied)
ends_wrongly lines last _ = last

-- ---- lines that break them

-- of the seven rules, those that a line breaks, of which it is told whether it is the last one
abbrev pub broken_by : List (List ℕ) → List BodyParts → List Line → List Line → Bool → Line → List Bool
broken_by names bodies lines earlier last line =
    names_another names line
    ∷ begins_again earlier line
    ∷ disagrees earlier line
    ∷ misses names bodies lines line
    ∷ comes_early earlier line
    ∷ answers_wrongly names bodies earlier line
    ∷ ends_wrongly lines last line
    ∷ []

-- the line at this place is the last one
abbrev pub is_last : List Line → ℕ → Bool
is_last lines place = place + 1 == length lines

-- a report without a line breaks the last rule where its first line would stand
abbrev pub no_line : List Line → ℕ → List Bool
no_line [] place = false ∷ false ∷ false ∷ false ∷ false ∷ false ∷ (place == 0) ∷ []
no_line (line ∷ lines) place = []

abbrev pub broken_at : List (List ℕ) → List BodyParts → List Line → ℕ → Option Line → List Bool
broken_at names bodies lines place None = no_line lines place
broken_at names bodies lines place (Some line) = broken_by names bodies lines (before lines place) (is_last lines place) line

abbrev pub Breaks : List (List ℕ) → List BodyParts → List Line → ℕ → ℕ → Type 0
Breaks names bodies lines place rule =
    (1 ≤ rule) × (slice_index_or (broken_at names bodies lines place (slice_get lines place)) (rule - 1) false ≡ true)

abbrev pub KeepsRules : List (List ℕ) → List BodyParts → List Line → Type 0
KeepsRules names bodies lines = (place rule : ℕ) → Breaks names bodies lines place rule → ⊥

-- no line before this one breaks a rule, and this one breaks none below this rule
pub record IsFirstFault (names : List (List ℕ)) (bodies : List BodyParts) (lines : List Line) (place rule : ℕ) : Type 0 where
  pub broken : Breaks names bodies lines place rule
  pub least_line : (earlier other : ℕ) → earlier < place → Breaks names bodies lines earlier other → ⊥
  pub least_rule : (other : ℕ) → other < rule → Breaks names bodies lines place other → ⊥

-- what is answered; lines are counted from 1
abbrev pub Judges : Result (Unit {0}) AuditError → List (List ℕ) → List BodyParts → List Line → Type 0
Judges (Ok _) names bodies lines = KeepsRules names bodies lines
Judges (Err (No line rule)) names bodies lines = (1 ≤ line) × IsFirstFault names bodies lines (line - 1) rule
Judges (Err OutOfMemory) names bodies lines = Unit {0}

-- ---- the first of them

-- the number of the first rule that is broken, where the first of these has this number
abbrev pub first_broken : ℕ → List Bool → Option ℕ
first_broken rule [] = None
first_broken rule (broken ∷ others) = if broken then Some rule else first_broken (rule + 1) others

-- the least of the seven rules that is broken
abbrev pub rules : Bool → Bool → Bool → Bool → Bool → Bool → Bool → Option ℕ
rules r1 r2 r3 r4 r5 r6 r7 = first_broken 1 (r1 ∷ r2 ∷ r3 ∷ r4 ∷ r5 ∷ r6 ∷ r7 ∷ [])

-- the least rule that a line breaks
abbrev pub rule_of : List (List ℕ) → List BodyParts → List Line → List Line → Bool → Line → Option ℕ
rule_of names bodies lines earlier last line = first_broken 1 (broken_by names bodies lines earlier last line)

-- the number of the first line that breaks a rule, and its least rule
abbrev pub IsFound : List (List ℕ) → List BodyParts → List Line → Option (ℕ × ℕ) → Type 0
IsFound names bodies lines None = KeepsRules names bodies lines
IsFound names bodies lines (Some at) = (1 ≤ at.0) × IsFirstFault names bodies lines (at.0 - 1) at.1
