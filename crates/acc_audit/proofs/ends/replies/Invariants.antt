-- The lines so far are counted.
use Rattle.std.proofs.Common.{◌≡◌, ◌≤◌, take}
use Rattle.std.specs.Prelude.{count_by}
use Rattle.acc_audit.specs.Said.{is_reply}
use Rattle.acc_audit.proofs.ends.replies.Given as goal

abbrev pub invariant-loop-place : goal.invariant-loop-place
invariant-loop-place l = record {
  counted : l.count ≡ count_by is_reply (take l.place l.lines);
  few : l.count ≤ l.place;
}
