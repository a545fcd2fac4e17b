use Rattle.std.proofs.Common.{sym}
use Rattle.std.proofs.lemmas.List.Folds.{list_any_at}
use Rattle.acc_audit.specs.Users.{is_lacking}
use Rattle.acc_audit.proofs.UserFacts.{walk_ends}
use Rattle.acc_audit.proofs.users.lack.Goals as goal

pub returns-then-not-is_before : goal.returns-then-not-is_before
returns-then-not-is_before c =
    sym (walk_ends c.args.number c.args.t c.args.marks.now c.args.mark c.args.entries.now c.loop-entry.entry-index _ c.requires c.loop-entry-test.true (sym c.if-not-is_before.ensures) c.loop-entry.invariant)

pub returns-then-lacks : goal.returns-then-lacks
returns-then-lacks c =
    sym (list_any_at (is_lacking c.args.number c.args.t c.args.marks.now c.args.mark) c.args.entries.now c.loop-entry.entry-index _ c.loop-entry-test.true (sym c.if-lacks.ensures))
