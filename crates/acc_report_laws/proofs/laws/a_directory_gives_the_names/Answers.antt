use Rattle.std.proofs.Common.{ap}
use Rattle.acc_stamp.specs.declared.stamps.TxnId.{TxnId}
use Rattle.acc_report.proofs.NameFacts.{name_in-is}
use Rattle.acc_report_laws.proofs.laws.a_directory_gives_the_names.Goals as goal

pub returns : goal.returns
returns c directory names roll items is x = ap (λ name. name x) (name_in-is directory names roll items is)
