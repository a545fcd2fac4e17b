-- The transactions so far are written, and the draws stand in front of the next.
use Rattle.std.proofs.Common.{◌≡◌, ◌∷◌, [], ◌++◌, flat_map, map}
use Rattle.json.specs.Token.{begin_array}
use Rattle.acc_generator.specs.Document.{numbers, transaction}
use Rattle.acc_generator.specs.Texts.{state_before}
use Rattle.acc_generator.specs.Tokens.{data_tokens}
use Rattle.acc_generator.proofs.transactions.write_transactions.Given as goal

abbrev pub invariant-loop-number : goal.invariant-loop-number
invariant-loop-number l = record {
  state : l.draws.state ≡ state_before l.fn.seed l.number;
  before : l.out.before ≡ l.fn.out.before;
  written : l.out.tokens ≡ (l.fn.out.tokens ++ begin_array ∷ []) ++ flat_map data_tokens (map (transaction l.fn.seed) (numbers l.number));
}
