use Rattle.std.proofs.Common.{sym}
use Rattle.acc_report_reader.proofs.Found.{cut_at, uncut}
use Rattle.acc_report_reader.proofs.parts.first_line.Goals as goal

pub returns-in-Some : goal.returns-in-Some
returns-in-Some c = sym (cut_at 10 c.args.bytes.now c.in-Some.place c.in-Some.ensures.0 c.in-Some.ensures.1)

pub returns-in-None : goal.returns-in-None
returns-in-None c = sym (uncut 10 c.args.bytes.now c.in-None.ensures)
