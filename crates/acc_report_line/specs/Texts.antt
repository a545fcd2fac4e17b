-- The text of a line of a report, and that of its parts.
--     line_text line      the text of a line, without its line feed
--     lines_text lines      the text of lines, each with its line feed
use Rattle.std.specs.Prelude.{ℕ, ◌==◌, if◌then◌else◌, List, [], ◌∷◌, ◌++◌, Option, None, Some, flat_map, codes, decimal}
use Rattle.std.specs.Fmt.{signed_decimal}
use Rattle.std.specs.List.{join_by}
use Rattle.acc_stamp.specs.declared.stamps.Stamp.{Stamp}
use Rattle.acc_stamp.specs.declared.actors.Actor.{Actor}
use Rattle.acc_stamp.specs.Actor.{node_of, shard_of}
use Rattle.acc_value.specs.declared.value.Value.{Value}
use Rattle.acc_value.specs.declared.value.Value.TheVariants.{Number as NumberValue, Text as TextValue}
use Rattle.acc_txn.specs.declared.outcome.Verdict.{Verdict}
use Rattle.acc_txn.specs.declared.outcome.Verdict.TheVariants.{Ok as Done, Skipped, Overflow}
use Rattle.acc_txn.specs.declared.outcome.Reply.{Reply as ReplyValue}
use Rattle.acc_message.specs.declared.note.Path.{Path}
use Rattle.acc_message.specs.declared.note.Path.TheVariants.{Fast, Slow, Recovered, Adopted}
use Rattle.acc_report_line.specs.declared.line.Line.{Line}
use Rattle.acc_report_line.specs.declared.line.Line.TheVariants.{Begin, Recover, Blocked, Ended, Decide, Outcome, Reply, SkipNoMessage, SkipDown, SkipBegun, SkipUnknown, SkipNoQuorum, Down, Restart, Decided, End}

-- ---- parts

abbrev pub stamp_text : Stamp → List ℕ
stamp_text s = decimal s.h ++ codes "." ++ decimal s.origin

-- a node by its number, and a store by those of its node and of its shard
abbrev pub actor_text : Actor → List ℕ
actor_text actor = if shard_of actor == 0 then decimal (node_of actor) else decimal (node_of actor) ++ codes "." ++ decimal (shard_of actor)

-- names with commas between them, and a hyphen for none
abbrev pub names_text : List (List ℕ) → List ℕ
names_text [] = codes "-"
names_text (name ∷ names) = join_by (λ n. n) (codes ",") (name ∷ names)

abbrev pub path_text : Path → List ℕ
path_text Fast = codes "fast"
path_text Slow = codes "slow"
path_text Recovered = codes "recovered"
path_text Adopted = codes "adopted"

abbrev pub verdict_text : Verdict → List ℕ
verdict_text Done = codes "ok"
verdict_text Skipped = codes "skipped"
verdict_text Overflow = codes "overflow"

-- a quote inside a quoted text is written twice
abbrev pub quoted_byte : ℕ → List ℕ
quoted_byte byte = if byte == 39 then codes "''" else byte ∷ []

abbrev pub quoted : List ℕ → List ℕ
quoted text = codes "'" ++ flat_map quoted_byte text ++ codes "'"

abbrev pub cell_text : Option Value → List ℕ
cell_text None = codes "null"
cell_text (Some (NumberValue number)) = signed_decimal number
cell_text (Some (TextValue text)) = quoted text

-- the values after a verdict; there are none where nothing was selected
abbrev pub values_text : List (Option Value) → List ℕ
values_text [] = []
values_text (cell ∷ cells) = codes " " ++ join_by cell_text (codes ",") (cell ∷ cells)

abbrev pub reply_text : ReplyValue → List ℕ
reply_text reply = verdict_text reply.verdict ++ values_text reply.values

-- ---- lines

abbrev pub line_text : Line → List ℕ
line_text (Begin name id) = codes "begin " ++ name ++ codes " " ++ stamp_text id
line_text (Recover name ballot) = codes "recover " ++ name ++ codes " " ++ stamp_text ballot
line_text (Blocked name ballot by) = codes "blocked " ++ name ++ codes " " ++ stamp_text ballot ++ codes " by " ++ names_text by
line_text (Ended name ballot by) = codes "ended " ++ name ++ codes " " ++ stamp_text ballot ++ codes " by " ++ stamp_text by
line_text (Decide name t path deps) =
    codes "decide " ++ name ++ codes " " ++ stamp_text t ++ codes " " ++ path_text path ++ codes " deps " ++ names_text deps
line_text (Outcome name reply) = codes "outcome " ++ name ++ codes " " ++ reply_text reply
line_text (Reply name reply) = codes "reply " ++ name ++ codes " " ++ reply_text reply
line_text (SkipNoMessage step number sent) = codes "skip " ++ decimal step ++ codes " nomessage " ++ decimal number ++ codes " " ++ decimal sent
line_text (SkipDown step actor) = codes "skip " ++ decimal step ++ codes " down " ++ actor_text actor
line_text (SkipBegun step name) = codes "skip " ++ decimal step ++ codes " begun " ++ name
line_text (SkipUnknown step name) = codes "skip " ++ decimal step ++ codes " unknown " ++ name
line_text (SkipNoQuorum step name) = codes "skip " ++ decimal step ++ codes " noquorum " ++ name
line_text (Down actor) = codes "down " ++ actor_text actor
line_text (Restart actor kept) = codes "restart " ++ actor_text actor ++ codes " kept " ++ decimal kept
line_text (Decided fast slow recovered adopted) =
    codes "decided fast=" ++ decimal fast ++ codes " slow=" ++ decimal slow ++ codes " recovered=" ++ decimal recovered ++ codes " adopted=" ++ decimal adopted
line_text (End txns replied unreplied) =
    codes "end txns=" ++ decimal txns ++ codes " replied=" ++ decimal replied ++ codes " open=" ++ decimal unreplied

abbrev pub full_text : Line → List ℕ
full_text line = line_text line ++ codes "\n"

abbrev pub lines_text : List Line → List ℕ
lines_text lines = flat_map full_text lines
