use Rattle.acc_report_reader.proofs.WholeReport.{only_lines}
use Rattle.acc_report_reader.proofs.laws.bytes_have_one_reading.Goals as goal

pub returns : goal.returns
returns c bytes lines others is are = only_lines bytes lines others is are
