use Rattle.acc_report_laws.proofs.Forms.{lines_formed}
use Rattle.acc_report_laws.proofs.laws.the_lines_have_forms.Goals as goal

pub returns : goal.returns
returns c print names roll items are fit few = lines_formed print names roll items are fit few
