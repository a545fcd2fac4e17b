-- What a line says that is read in place.
use Rattle.acc_report_line.specs.declared.line.Line.{Line}
use Rattle.acc_report_line.specs.declared.line.Line.TheVariants.{Begin, Recover, Blocked, Ended, Decide, Outcome, Reply, SkipNoMessage, SkipDown, SkipBegun, SkipUnknown, SkipNoQuorum, Down, Restart, Decided, End}
use Rattle.acc_report_reader.specs.declared.placed.PlacedForm.{PlacedForm}
use Rattle.acc_report_reader.specs.declared.placed.PlacedForm.TheVariants.{Begin as PlacedBegin, Recover as PlacedRecover, Blocked as PlacedBlocked, Ended as PlacedEnded, Decide as PlacedDecide, Outcome as PlacedOutcome, Reply as PlacedReply, SkipNoMessage as PlacedSkipNoMessage, SkipDown as PlacedSkipDown, SkipBegun as PlacedSkipBegun, SkipUnknown as PlacedSkipUnknown, SkipNoQuorum as PlacedSkipNoQuorum, Down as PlacedDown, Restart as PlacedRestart, Decided as PlacedDecided, End as PlacedEnd}

-- the line with these words
abbrev pub line_said : PlacedForm → Line
line_said (PlacedBegin name id) = Begin name.now id
line_said (PlacedRecover name ballot) = Recover name.now ballot
line_said (PlacedBlocked name ballot by) = Blocked name.now ballot by
line_said (PlacedEnded name ballot by) = Ended name.now ballot by
line_said (PlacedDecide name t path deps) = Decide name.now t path deps
line_said (PlacedOutcome name reply) = Outcome name.now reply
line_said (PlacedReply name reply) = Reply name.now reply
line_said (PlacedSkipNoMessage step number sent) = SkipNoMessage step number sent
line_said (PlacedSkipDown step actor) = SkipDown step actor
line_said (PlacedSkipBegun step name) = SkipBegun step name.now
line_said (PlacedSkipUnknown step name) = SkipUnknown step name.now
line_said (PlacedSkipNoQuorum step name) = SkipNoQuorum step name.now
line_said (PlacedDown actor) = Down actor
line_said (PlacedRestart actor kept) = Restart actor kept
line_said (PlacedDecided fast slow recovered adopted) = Decided fast slow recovered adopted
line_said (PlacedEnd txns replied unreplied) = End txns replied unreplied
