use Rattle.acc_lang.proofs.Versions.{text_both}
use Rattle.acc_lang.proofs.laws.texts_of_version_1_are_of_version_2.Goals as goal

pub returns : goal.returns
returns c text parts is = text_both text parts is
