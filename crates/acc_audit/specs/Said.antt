-- What one line of a report says of transactions, which stand by their names.
use Rattle.std.specs.Prelude.{ℕ, Bool, true, false, not, ◌&&◌, List, [], ◌∷◌, Option, Some, None, if◌then◌else◌}
use Rattle.std.specs.Str.{bytes_eq}
use Rattle.std.specs.Option.{option_eq}
use Rattle.std.specs.Cmp.Lexicographic.{pointwise}
use Rattle.acc_stamp.specs.declared.stamps.Stamp.{Stamp}
use Rattle.acc_stamp.specs.Stamp.{stamp_eq, stamp_lt}
use Rattle.acc_value.specs.Value.{value_eq}
use Rattle.acc_txn.specs.declared.outcome.Verdict.{Verdict}
use Rattle.acc_txn.specs.declared.outcome.Verdict.TheVariants.{Ok as Done, Skipped, Overflow}
use Rattle.acc_txn.specs.declared.outcome.Reply.{Reply as ReplyValue}
use Rattle.acc_report_line.specs.declared.line.Line.{Line}
use Rattle.acc_report_line.specs.declared.line.Line.TheVariants.{Begin, Recover, Blocked, Ended, Decide, Outcome, Reply, SkipNoMessage, SkipDown, SkipBegun, SkipUnknown, SkipNoQuorum, Down, Restart, Decided, End}

-- the names that stand in a line, also in its list of names
abbrev pub names_in : Line → List (List ℕ)
names_in (Begin name id) = name ∷ []
names_in (Recover name ballot) = name ∷ []
names_in (Blocked name ballot by) = name ∷ by
names_in (Ended name ballot by) = name ∷ []
names_in (Decide name t path deps) = name ∷ deps
names_in (Outcome name reply) = name ∷ []
names_in (Reply name reply) = name ∷ []
names_in (SkipNoMessage step number sent) = []
names_in (SkipDown step actor) = []
names_in (SkipBegun step name) = name ∷ []
names_in (SkipUnknown step name) = name ∷ []
names_in (SkipNoQuorum step name) = name ∷ []
names_in (Down actor) = []
names_in (Restart actor kept) = []
names_in (Decided fast slow recovered adopted) = []
names_in (End txns replied unreplied) = []

-- ---- begins and replies

-- the line begins the transaction of this name
abbrev pub begins : List ℕ → Line → Bool
begins name (Begin other id) = bytes_eq name other
begins name _ = false

abbrev pub is_begin : Line → Bool
is_begin (Begin name id) = true
is_begin _ = false

abbrev pub is_reply : Line → Bool
is_reply (Reply name reply) = true
is_reply _ = false

-- ---- decisions

-- the transaction that the line decides, and its timestamp
abbrev pub decision_in : Line → Option (List ℕ × Stamp)
decision_in (Decide name t path deps) = Some (name, t)
decision_in _ = None

abbrev pub timestamp_of : List ℕ → Option (List ℕ × Stamp) → Option Stamp
timestamp_of name None = None
timestamp_of name (Some decision) = if bytes_eq name decision.0 then Some decision.1 else None

-- the timestamp that the line decides for the transaction of this name
abbrev pub timestamp_in : List ℕ → Line → Option Stamp
timestamp_in name line = timestamp_of name (decision_in line)

-- the line decides another timestamp for this transaction
abbrev pub is_otherwise : List ℕ → Stamp → Option (List ℕ × Stamp) → Bool
is_otherwise name t None = false
is_otherwise name t (Some decision) = bytes_eq name decision.0 && not (stamp_eq t decision.1)

abbrev pub decides_otherwise : List ℕ → Stamp → Line → Bool
decides_otherwise name t line = is_otherwise name t (decision_in line)

-- the line decides another transaction at this timestamp
abbrev pub is_of_another : List ℕ → Stamp → Option (List ℕ × Stamp) → Bool
is_of_another name t None = false
is_of_another name t (Some decision) = not (bytes_eq name decision.0) && stamp_eq t decision.1

abbrev pub decides_another : List ℕ → Stamp → Line → Bool
decides_another name t line = is_of_another name t (decision_in line)

-- the line decides this transaction at a timestamp below this one
abbrev pub is_lower : List ℕ → Stamp → Option (List ℕ × Stamp) → Bool
is_lower name t None = false
is_lower name t (Some decision) = bytes_eq name decision.0 && stamp_lt decision.1 t

abbrev pub decides_below : List ℕ → Stamp → Line → Bool
decides_below name t line = is_lower name t (decision_in line)

-- ---- outcomes

-- the outcome of the transaction of this name that the line tells
abbrev pub outcome_in : List ℕ → Line → Option ReplyValue
outcome_in name (Outcome other reply) = if bytes_eq name other then Some reply else None
outcome_in name _ = None

abbrev pub same_verdict : Verdict → Verdict → Bool
same_verdict Done Done = true
same_verdict Skipped Skipped = true
same_verdict Overflow Overflow = true
same_verdict _ _ = false

-- the two are one reply
abbrev pub same_reply : ReplyValue → ReplyValue → Bool
same_reply a b = same_verdict a.verdict b.verdict && pointwise (option_eq value_eq) a.values b.values
