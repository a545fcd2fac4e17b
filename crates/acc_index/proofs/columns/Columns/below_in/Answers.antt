use Rattle.std.proofs.Common.{false, ◌∙◌, arith}
use Rattle.std.proofs.lemmas.List.{get_or_append_left}
use Rattle.acc_lanes.specs.Pairs.{pair_lt}
use Rattle.acc_index.proofs.BlockFacts.{below_at, below_length}
use Rattle.acc_index.proofs.columns.Columns.below_in.Goals as goal

pub returns : goal.returns
returns c i l =
    let b = c.args.block.now in
    let wide = below_length c.args.self.now c.deref.result.now c.deref-2.result.now b.start b.width (λ s. pair_lt s (c.args.bound.h, c.args.bound.origin)) c.below.new.out c.requires.even c.deref.ensures.value c.deref-2.ensures.value c.requires.in_range c.below.ensures in
    get_or_append_left c.below.new.out _ false i (omega arith)
    ∙ below_at c.args.self.now c.deref.result.now c.deref-2.result.now b.start b.width i c.args.bound c.below.new.out c.requires.even c.deref.ensures.value c.deref-2.ensures.value c.requires.in_range l c.below.ensures
