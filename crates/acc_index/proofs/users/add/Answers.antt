use Rattle.std.proofs.Common.{Some, ◌∷◌, ◌++◌, [], cond, ◌∙◌, rules}
use Rattle.std.specs.Bool.{beq}
use Rattle.acc_value.specs.Key.{key_eq}
use Rattle.acc_index.specs.Users.{places_at}
use Rattle.acc_index.proofs.UserFacts.{places_then, set_here}
use Rattle.acc_index.proofs.users.add.Goals as goal

pub returns-in-Some-clause-set : goal.returns-in-Some-clause-set
returns-in-Some-clause-set c k w =
    let before = places_at c.args.users.now k w in
    places_then c.args.users.now (c.get_mut.follows.lender c.push.new.self) c.args.key.now c.push.new.self (Some c.in-Some.there.now) c.in-Some.ensures.value ((c.get_mut.follows.holds c.push.new.self).3 (search rules)).0
    (λ v places. cond (beq c.args.writes v) (places ++ c.args.place ∷ []) places) c.push.ensures k w
    ∙ set_here (key_eq c.args.key.now k) (beq c.args.writes w) before (before ++ c.args.place ∷ [])
