use Rattle.std.proofs.Common.{◌+◌, ◌*◌, ◌≤◌, get_or, sym, ◌∙◌, subst, arith}
use Rattle.acc_message_index.proofs.Leaves.{root_below, leaf_below, leaf_at}
use Rattle.acc_message_index.proofs.least.least.Goals as goal

pub returns-clause-bound : goal.returns-clause-bound
returns-clause-bound c = λ number low.
    let places = c.args.places.now in
    let count = c.args.count in
    subst (λ m. get_or places 1 0 ≤ m) (sym (leaf_at count places number low)) (root_below c.requires (count + number) (count + number) (omega arith) (omega arith) (omega arith))

pub returns-clause-found : goal.returns-clause-found
returns-clause-found c = λ low.
    let found = leaf_below c.requires (2 * c.args.count) 1 (omega arith) (omega arith) (omega arith) in
    (found.0, found.1, leaf_at c.args.count c.args.places.now found.0 found.1 ∙ found.2)
