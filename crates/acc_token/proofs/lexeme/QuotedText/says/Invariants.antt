-- What is left completes what was read so far.
use Rattle.std.proofs.Common.{◌≡◌, ◌++◌, drop, false}
use Rattle.acc_token.specs.Tokens.{content}
use Rattle.acc_token.proofs.lexeme.QuotedText.says.Given as goal

abbrev pub invariant-loop-byte : goal.invariant-loop-byte
invariant-loop-byte l = l.text ++ content l.waits (drop l.byte-index l.fn.self.behind_quote.now) ≡ content false l.fn.self.behind_quote.now
