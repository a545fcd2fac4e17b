use Rattle.std.proofs.Common.{[], ◌∷◌}
use Rattle.std.proofs.lemmas.Result.{IfOk-weaker}
use Rattle.acc_report.proofs.item_lines.line.Goals as goal

pub returns : goal.returns
returns c =
    let is = c.in_ok-directory.ensures c.args.names.now c.args.roll.now [] c.in_ok-known.ensures in
    IfOk-weaker c.lines.result _ _ (λ lines told. told c.args.names.now c.args.roll.now (c.args.item.now ∷ []) is) c.lines.ensures
