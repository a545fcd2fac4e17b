use Rattle.std.proofs.Common.{sym, ◌∙◌, arith}
use Rattle.acc_execute.proofs.Ballots.{more_below, split_here, split_behind}
use Rattle.acc_execute.proofs.own.place_of.Goals as goal

pub loop-place-preserved : goal.loop-place-preserved
loop-place-preserved c = (
  omega arith,
  more_below c.args.ballot c.args.ballots.now c.loop-place.place _ c.loop-place-test.true c.loop-place.invariant.1 (sym c.is_below.ensures ∙ c.if-not-is_below.false),
)

pub returns-then-not-is_below : goal.returns-then-not-is_below
returns-then-not-is_below c =
    split_here c.args.ballot c.args.ballots.now c.loop-place.place _ c.loop-place-test.true c.loop-place.invariant.1 (sym c.is_below.ensures ∙ c.if-not-is_below.true)

pub returns : goal.returns
returns c = split_behind c.args.ballot c.args.ballots.now c.loop-place.place c.loop-place.invariant.0 c.loop-place-test.false c.loop-place.invariant.1
