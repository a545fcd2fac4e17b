-- The thing is in the hand.
use Rattle.std.proofs.Common.{[], ◌∷◌, ◌++◌, ◌∙◌, ap}
use Rattle.std.specs.Prelude.{Vec}
use Rattle.acc_free.proofs.Hands.{into_hand}
use Rattle.acc_free.proofs.dealing.put.Goals as goal

pub returns-clause-all : goal.returns-clause-all
returns-clause-all g c =
    into_hand c.args.thing c.args.hands.now.items c.args.place _ c.push.new.self c.requires
    (c.in_ok-push.ensures.items ∙ ap (λ (hand : Vec g.row.T.Denot _). hand.items ++ c.args.thing ∷ []) c.index_mut.ensures.value)
