-- The lanes' answer is that of the stamps which the mask tells.
use Rattle.std.proofs.Common.{arith}
use Rattle.acc_index.proofs.BlockFacts.{window_of, greatest_some, greatest_none}
use Rattle.acc_index.proofs.columns.Columns.greatest_in.Goals as goal

pub returns-in-Some : goal.returns-in-Some
returns-in-Some c places id block =
    greatest_some c.args.self.now places id c.args.block.now block _ _ _
    (window_of c.args.self.now c.args.block.now c.deref.result.now c.deref-2.result.now c.requires.even c.deref.ensures.value c.deref-2.ensures.value c.requires.in_range (omega arith))
    (c.in-Some.h, c.in-Some.origin) c.in-Some.ensures

pub returns-in-None : goal.returns-in-None
returns-in-None c places id block =
    greatest_none c.args.self.now places id c.args.block.now block _ _ _
    (window_of c.args.self.now c.args.block.now c.deref.result.now c.deref-2.result.now c.requires.even c.deref.ensures.value c.deref-2.ensures.value c.requires.in_range (omega arith))
    c.in-None.ensures
