use Rattle.std.proofs.Common.{◌-◌, ◌≤◌, length, take, drop, List, Bool, sym, subst}
use Rattle.acc_value.specs.declared.key.Key.{Key}
use Rattle.acc_value.specs.Pairs.{IsRising}
use Rattle.acc_index.proofs.ShareFacts.{part_rises}
use Rattle.acc_index.proofs.share.Share.part.Goals as goal

pub invariant_of-result : goal.invariant_of-result
invariant_of-result c =
    subst (λ (xs : List (Key × Bool)). (c.args.from ≤ c.args.to) × (c.args.to ≤ length xs) × IsRising (take (c.args.to - c.args.from) (drop c.args.from xs))) (sym c.in_ok-copy.ensures)
    (c.requires.begins, c.requires.ends, part_rises c.args.from (c.args.to - c.args.from) c.args.footprint.now c.pairs-rising.ensures.rising)
