-- What is left completes what was found so far.
use Rattle.std.proofs.Common.{drop}
use Rattle.acc_token.proofs.QuotedFacts.{Completes}
use Rattle.acc_token.proofs.scan.quoted_extent.Given as goal

abbrev pub invariant-loop-reach : goal.invariant-loop-reach
invariant-loop-reach l = Completes l.text l.waits (drop l.reach l.text) l.reach l.len l.plain
