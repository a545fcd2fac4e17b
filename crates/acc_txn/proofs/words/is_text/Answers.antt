use Rattle.acc_txn.proofs.Texts.{text_test}
use Rattle.acc_txn.proofs.words.is_text.Goals as goal

pub returns : goal.returns
returns c = text_test c.args.bytes.now _ _ c.from_utf8.result c.is_ok.result c.is_ok.ensures.value c.from_utf8.ensures.cases
