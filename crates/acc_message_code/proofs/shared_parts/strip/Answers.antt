use Rattle.std.proofs.Common.{◌≡◌, ◌≢◌, ◌++◌, List, ℕ}
use Rattle.std.proofs.lemmas.Bool.Decides.{Decides-eqb}
use Rattle.std.proofs.lemmas.Slice.Eq.{strip_prefix_is}
use Rattle.acc_message_code.proofs.Shared.{where_some}
use Rattle.acc_message_code.proofs.shared_parts.strip.Goals as goal

pub returns : goal.returns
returns c =
    where_some c.strip_prefix.result (λ x. c.args.bytes.now ≡ c.args.front.now ++ x.now) ((rest : List ℕ) → c.args.bytes.now ≢ c.args.front.now ++ rest)
    (strip_prefix_is Decides-eqb c.args.bytes.now c.args.front.now c.strip_prefix.result c.strip_prefix.ensures.cases)
