use Rattle.acc_left_laws.proofs.WrittenTexts.{written_read}
use Rattle.acc_left_laws.proofs.laws.left_documents_are_read.Goals as goal

pub returns : goal.returns
returns c = λ bytes d plan images text reads rules says is of bytes_are left line. written_read plan images is of bytes_are bytes text d reads rules says left line
