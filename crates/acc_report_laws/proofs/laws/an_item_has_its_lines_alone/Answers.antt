use Rattle.acc_report_laws.proofs.Alone.{same_alone}
use Rattle.acc_report_laws.proofs.laws.an_item_has_its_lines_alone.Goals as goal

pub returns : goal.returns
returns c names roll known later item earlier same fits = same_alone names roll later item earlier known same fits
