use Rattle.acc_report_laws.proofs.Alone.{same_later}
use Rattle.acc_report_laws.proofs.laws.an_item_keeps_its_lines.Goals as goal

pub returns : goal.returns
returns c names roll later item earlier fits = same_later names roll later item earlier fits
