-- So many journals, the last ones, are put.
use Rattle.std.proofs.Common.{◌≡◌, ◌-◌, length, drop}
use Rattle.serde_json.specs.View.{members_view}
use Rattle.acc_left.specs.Documents.{journal_members}
use Rattle.acc_left.proofs.document.journals_in.Given as goal

abbrev pub invariant-loop-after : goal.invariant-loop-after
invariant-loop-after l = members_view l.members.entries ≡ journal_members (drop (length l.images - l.after) l.images)
