use Rattle.std.specs.Prelude.{codes, decimal}
use Rattle.acc_report.proofs.Joined.{joined_counts}
use Rattle.acc_report.proofs.summary.push_decided.Goals as goal

pub returns : goal.returns
returns c =
    let counts = c.args.all.now in
    joined_counts c.args.text.now.items _ _ _ _ _
    (codes "decided fast=") (decimal counts.fast) (codes " slow=") (decimal counts.slow) (codes " recovered=") (decimal counts.recovered) (codes " adopted=") (decimal counts.adopted) (codes "\n")
    c.in_ok-push_decisions.ensures c.in_ok-push_decisions-2.ensures c.in_ok-push_decisions-3.ensures c.in_ok-push_decisions-4.ensures
    c.in_ok-push.ensures.items
