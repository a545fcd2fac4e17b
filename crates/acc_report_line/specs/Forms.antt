-- Which values the lines of a report may have.
--     HasForm line      the parts of the line have their forms
use Rattle.std.specs.Prelude.{◌≡◌, ℕ, ◌<◌, ◌≤◌, ◌^◌, Bool, true, false, ◌&&◌, ◌||◌, nat_le, List, [], ◌∷◌, length, Option, None, Some, FitsSigned}
use Rattle.std.specs.Int.{w64}
use Rattle.std.specs.Char.{is_ascii_lowercase, is_ascii_digit}
use Rattle.std.specs.List.{list_all, AllByRecursion}
use Rattle.acc_stamp.specs.declared.stamps.Stamp.{Stamp}
use Rattle.acc_stamp.specs.declared.actors.Actor.{Actor}
use Rattle.acc_stamp.specs.Actor.{node_of, shard_of}
use Rattle.acc_value.specs.declared.value.Value.{Value}
use Rattle.acc_value.specs.declared.value.Value.TheVariants.{Number as NumberValue, Text as TextValue}
use Rattle.acc_txn.specs.declared.outcome.Verdict.{Verdict}
use Rattle.acc_txn.specs.declared.outcome.Verdict.TheVariants.{Ok as Done, Skipped, Overflow}
use Rattle.acc_txn.specs.declared.outcome.Reply.{Reply as ReplyValue}
use Rattle.acc_txn.specs.Words.{is_text_value}
use Rattle.acc_report_line.specs.declared.line.Line.{Line}
use Rattle.acc_report_line.specs.declared.line.Line.TheVariants.{Begin, Recover, Blocked, Ended, Decide, Outcome, Reply, SkipNoMessage, SkipDown, SkipBegun, SkipUnknown, SkipNoQuorum, Down, Restart, Decided, End}

-- ---- parts

-- a small letter or a digit
abbrev pub is_name_byte : ℕ → Bool
is_name_byte byte = is_ascii_lowercase byte || is_ascii_digit byte

-- 1 to 16 small letters and digits, a letter first
abbrev pub is_name : List ℕ → Bool
is_name [] = false
is_name (first ∷ others) = is_ascii_lowercase first && nat_le (length others) 15 && list_all is_name_byte others

abbrev pub IsName : List ℕ → Type 0
IsName name = is_name name ≡ true

abbrev pub AreNames : List (List ℕ) → Type 0
AreNames names = list_all is_name names ≡ true

abbrev pub IsCount : ℕ → Type 0
IsCount number = number < 2 ^ 64

abbrev pub IsStamp : Stamp → Type 0
IsStamp s = (s.h < 2 ^ 64) × (s.origin < 2 ^ 32)

-- nodes and shards have the numbers from 1 to 15, and a node itself stands as its shard 0
abbrev pub IsActor : Actor → Type 0
IsActor actor = (1 ≤ node_of actor) × (node_of actor ≤ 15) × (shard_of actor ≤ 15)

abbrev pub IsCell : Option Value → Type 0
IsCell None = Unit {0}
IsCell (Some (NumberValue number)) = FitsSigned w64 number
IsCell (Some (TextValue text)) = is_text_value text ≡ true

-- an overflow has no values
abbrev pub MayHave : Verdict → List (Option Value) → Type 0
MayHave Done values = AllByRecursion IsCell values
MayHave Skipped values = AllByRecursion IsCell values
MayHave Overflow values = values ≡ []

abbrev pub IsReply : ReplyValue → Type 0
IsReply reply = MayHave reply.verdict reply.values

-- ---- lines

abbrev pub HasForm : Line → Type 0
HasForm (Begin name id) = IsName name × IsStamp id
HasForm (Recover name ballot) = IsName name × IsStamp ballot
HasForm (Blocked name ballot by) = IsName name × IsStamp ballot × AreNames by
HasForm (Ended name ballot by) = IsName name × IsStamp ballot × IsStamp by
HasForm (Decide name t path deps) = IsName name × IsStamp t × AreNames deps
HasForm (Outcome name reply) = IsName name × IsReply reply
HasForm (Reply name reply) = IsName name × IsReply reply
HasForm (SkipNoMessage step number sent) = IsCount step × IsCount number × IsCount sent
HasForm (SkipDown step actor) = IsCount step × IsActor actor
HasForm (SkipBegun step name) = IsCount step × IsName name
HasForm (SkipUnknown step name) = IsCount step × IsName name
HasForm (SkipNoQuorum step name) = IsCount step × IsName name
HasForm (Down actor) = IsActor actor
HasForm (Restart actor kept) = IsActor actor × IsCount kept
HasForm (Decided fast slow recovered adopted) = IsCount fast × IsCount slow × IsCount recovered × IsCount adopted
HasForm (End txns replied unreplied) = IsCount txns × IsCount replied × IsCount unreplied

abbrev pub HaveForms : List Line → Type 0
HaveForms lines = AllByRecursion HasForm lines
