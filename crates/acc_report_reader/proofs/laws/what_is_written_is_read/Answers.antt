use Rattle.acc_report_reader.proofs.WholeReport.{gives_back}
use Rattle.acc_report_reader.proofs.laws.what_is_written_is_read.Goals as goal

pub returns : goal.returns
returns c lines answer forms reads = gives_back lines answer forms reads
