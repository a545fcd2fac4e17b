use Rattle.std.proofs.Common.{reverse}
use Rattle.acc_message.specs.Items.{notes_of}
use Rattle.acc_report.proofs.CountedNotes.{last_line_is, decided_line_is}
use Rattle.acc_report.proofs.summary.Counts.of.Goals as goal

pub returns-clause-last : goal.returns-clause-last
returns-clause-last c = last_line_is c.in_ok-all.all (notes_of (reverse c.args.items.now)) c.in_ok-all.ensures

pub returns-clause-decided : goal.returns-clause-decided
returns-clause-decided c = decided_line_is c.in_ok-all.all (notes_of (reverse c.args.items.now)) c.in_ok-all.ensures
