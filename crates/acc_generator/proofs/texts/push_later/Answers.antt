use Rattle.std.proofs.Common.{codes, decimal, string_bytes, ◌/◌, ◌%◌}
use Rattle.std.proofs.lemmas.Result.{on_ok_weaker}
use Rattle.acc_generator.specs.Texts.{end_text}
use Rattle.acc_generator.proofs.TextFacts.{joined}
use Rattle.acc_generator.proofs.texts.push_later.Goals as goal

pub returns : goal.returns
returns c =
    on_ok_weaker c.push_end.result (λ e.
    joined (string_bytes c.args.text.now) (codes "BEGIN TRANSACTION LET r = (SELECT v FROM t WHERE k = 'k") (decimal (c.args.read / 10)) (decimal (c.args.read % 10)) (codes "')")
    (codes "; SELECT r.v; UPDATE t SET v = r.v + ") (decimal c.args.added) (end_text c.args.written)
    _ _ _ c.in_ok-write.ensures.bytes c.in_ok-write-2.ensures.bytes e) c.push_end.ensures
