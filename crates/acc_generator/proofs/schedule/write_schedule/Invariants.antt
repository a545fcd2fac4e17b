-- The steps of the transactions so far are written.
use Rattle.std.proofs.Common.{◌≡◌, ◌∷◌, [], ◌++◌, flat_map}
use Rattle.json.specs.Token.{begin_array}
use Rattle.acc_generator.specs.Document.{numbers, steps_at}
use Rattle.acc_generator.specs.Tokens.{data_tokens}
use Rattle.acc_generator.proofs.schedule.write_schedule.Given as goal

abbrev pub invariant-loop-number : goal.invariant-loop-number
invariant-loop-number l = record {
  before : l.out.before ≡ l.fn.out.before;
  written : l.out.tokens ≡ (l.fn.out.tokens ++ begin_array ∷ []) ++ flat_map data_tokens (flat_map steps_at (numbers l.number));
}
