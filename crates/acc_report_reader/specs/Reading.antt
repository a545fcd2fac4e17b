-- What a line says.
use Rattle.std.specs.Prelude.{ℕ, if◌then◌else◌, List, codes, Option, Some, None, option_map}
use Rattle.std.specs.Str.{bytes_eq}
use Rattle.acc_stamp.specs.declared.stamps.Stamp.{Stamp}
use Rattle.acc_txn.specs.declared.outcome.Reply.{Reply as ReplyValue}
use Rattle.acc_report_line.specs.declared.line.Line.{Line}
use Rattle.acc_report_line.specs.declared.line.Line.TheVariants.{Begin, Recover, Blocked, Ended, Decide, Outcome, Reply, SkipNoMessage, SkipDown, SkipBegun, SkipUnknown, SkipNoQuorum, Down, Restart, Decided, End}
use Rattle.acc_report_reader.specs.Gives.{◌>>=◌}
use Rattle.acc_report_reader.specs.Fields.{parts_at, behind_word, name_in, names_in, number_in, count_in, stamp_in, actor_in, path_in, reply_in}

-- ---- lines of notes, after their first word

unfoldable pub stamped_in : List ℕ → Option (List ℕ × Stamp)
stamped_in bytes = do
  parts ← parts_at 32 bytes
  name ← name_in parts.0
  stamp ← stamp_in parts.1
  Some (name, stamp)

unfoldable pub blocked_in : List ℕ → Option Line
blocked_in bytes = do
  parts ← parts_at 32 bytes
  name ← name_in parts.0
  more ← parts_at 32 parts.1
  ballot ← stamp_in more.0
  rest ← behind_word (codes "by") more.1
  by ← names_in rest
  Some (Blocked name ballot by)

unfoldable pub ended_in : List ℕ → Option Line
ended_in bytes = do
  parts ← parts_at 32 bytes
  name ← name_in parts.0
  more ← parts_at 32 parts.1
  ballot ← stamp_in more.0
  rest ← behind_word (codes "by") more.1
  by ← stamp_in rest
  Some (Ended name ballot by)

unfoldable pub decide_in : List ℕ → Option Line
decide_in bytes = do
  parts ← parts_at 32 bytes
  name ← name_in parts.0
  more ← parts_at 32 parts.1
  t ← stamp_in more.0
  others ← parts_at 32 more.1
  path ← path_in others.0
  rest ← behind_word (codes "deps") others.1
  deps ← names_in rest
  Some (Decide name t path deps)

unfoldable pub replied_in : List ℕ → Option (List ℕ × ReplyValue)
replied_in bytes = do
  parts ← parts_at 32 bytes
  name ← name_in parts.0
  reply ← reply_in parts.1
  Some (name, reply)

-- ---- lines of steps that were passed over

unfoldable pub no_message_in : ℕ → List ℕ → Option Line
no_message_in step bytes = do
  parts ← parts_at 32 bytes
  number ← number_in parts.0
  sent ← number_in parts.1
  Some (SkipNoMessage step number sent)

unfoldable pub cause_in : ℕ → List ℕ → List ℕ → Option Line
cause_in step word bytes =
    if bytes_eq word (codes "nomessage") then no_message_in step bytes
    else (if bytes_eq word (codes "down") then option_map (λ actor. SkipDown step actor) (actor_in bytes)
    else (if bytes_eq word (codes "begun") then option_map (λ name. SkipBegun step name) (name_in bytes)
    else (if bytes_eq word (codes "unknown") then option_map (λ name. SkipUnknown step name) (name_in bytes)
    else (if bytes_eq word (codes "noquorum") then option_map (λ name. SkipNoQuorum step name) (name_in bytes)
    else None))))

unfoldable pub skip_in : List ℕ → Option Line
skip_in bytes = do
  parts ← parts_at 32 bytes
  step ← number_in parts.0
  more ← parts_at 32 parts.1
  cause_in step more.0 more.1

-- ---- lines of actors and counts

unfoldable pub restart_in : List ℕ → Option Line
restart_in bytes = do
  parts ← parts_at 32 bytes
  actor ← actor_in parts.0
  rest ← behind_word (codes "kept") parts.1
  kept ← number_in rest
  Some (Restart actor kept)

unfoldable pub decided_in : List ℕ → Option Line
decided_in bytes = do
  parts ← parts_at 32 bytes
  fast ← count_in (codes "fast") parts.0
  more ← parts_at 32 parts.1
  slow ← count_in (codes "slow") more.0
  others ← parts_at 32 more.1
  recovered ← count_in (codes "recovered") others.0
  adopted ← count_in (codes "adopted") others.1
  Some (Decided fast slow recovered adopted)

unfoldable pub end_in : List ℕ → Option Line
end_in bytes = do
  parts ← parts_at 32 bytes
  txns ← count_in (codes "txns") parts.0
  more ← parts_at 32 parts.1
  replied ← count_in (codes "replied") more.0
  unreplied ← count_in (codes "open") more.1
  Some (End txns replied unreplied)

-- ---- lines

unfoldable pub note_in : List ℕ → List ℕ → Option Line
note_in word bytes =
    if bytes_eq word (codes "begin") then option_map (λ p. Begin p.0 p.1) (stamped_in bytes)
    else (if bytes_eq word (codes "recover") then option_map (λ p. Recover p.0 p.1) (stamped_in bytes)
    else (if bytes_eq word (codes "blocked") then blocked_in bytes
    else (if bytes_eq word (codes "ended") then ended_in bytes
    else (if bytes_eq word (codes "decide") then decide_in bytes
    else (if bytes_eq word (codes "outcome") then option_map (λ p. Outcome p.0 p.1) (replied_in bytes)
    else (if bytes_eq word (codes "reply") then option_map (λ p. Reply p.0 p.1) (replied_in bytes)
    else None))))))

unfoldable pub kind_in : List ℕ → List ℕ → Option Line
kind_in word bytes =
    if bytes_eq word (codes "skip") then skip_in bytes
    else (if bytes_eq word (codes "down") then option_map (λ actor. Down actor) (actor_in bytes)
    else (if bytes_eq word (codes "restart") then restart_in bytes
    else (if bytes_eq word (codes "decided") then decided_in bytes
    else (if bytes_eq word (codes "end") then end_in bytes
    else note_in word bytes))))

unfoldable pub line_in : List ℕ → Option Line
line_in bytes = do
  parts ← parts_at 32 bytes
  kind_in parts.0 parts.1
