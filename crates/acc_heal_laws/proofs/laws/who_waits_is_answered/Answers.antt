use Rattle.acc_heal_laws.proofs.HealingTurns.{turned_alone}
use Rattle.acc_heal_laws.proofs.Healed.{who_waits_is_answered as is_answered}
use Rattle.acc_heal_laws.proofs.laws.who_waits_is_answered.Goals as goal

pub returns : goal.returns
returns c =
    is_answered c.plans_are_valid.ensures
    (turned_alone c.plans_are_valid.ensures c.messages_go_to_actors.ensures.to c.nodes_are_actors.ensures.node)
