use Rattle.acc_report.specs.Report.{report_lines}
use Rattle.acc_report_reader.proofs.WholeReport.{gives_back}
use Rattle.acc_report_laws.proofs.Forms.{lines_formed}
use Rattle.acc_report_laws.proofs.laws.a_report_is_read_again.Goals as goal

pub returns : goal.returns
returns c print names roll items answer are fit few reads =
    gives_back (report_lines print names roll items) answer (lines_formed print names roll items are fit few) reads
