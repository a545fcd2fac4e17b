use Rattle.std.proofs.Common.{◌<◌, arith}
use Rattle.acc_wire.proofs.Fields.{head_of}
use Rattle.acc_wire.proofs.Texts.{text_of_none, split_whole, split_cut}
use Rattle.acc_wire.proofs.reader.split_text.Goals as goal

pub returns-in_err-length-clause-cut : goal.returns-in_err-length-clause-cut
returns-in_err-length-clause-cut c = rw c.from_residual.ensures (λ text rest short e. text_of_none c.args.bytes.now text rest c.in_err-length.ensures.cases e)

pub returns-clause-whole : goal.returns-clause-whole
returns-clause-whole c =
    let parts = c.in_ok-length.ensures.cases in
    let is_byte : c.in_ok-length.length.now < 256 = head_of _ _ _ parts.0 (λ i. omega (arith, c.type_inv.bytes i)) in
    split_whole (λ p. p.0.now) (λ p. p.1.now) c.split_at_checked.result c.args.bytes.now c.in_ok-length.behind.now _ _ parts.0 c.from.ensures is_byte c.split_at_checked.ensures.cases

pub returns-clause-cut : goal.returns-clause-cut
returns-clause-cut c =
    let parts = c.in_ok-length.ensures.cases in
    split_cut (λ p. p.0.now) (λ p. p.1.now) c.split_at_checked.result c.args.bytes.now c.in_ok-length.behind.now _ _ parts.0 c.from.ensures c.split_at_checked.ensures.cases
