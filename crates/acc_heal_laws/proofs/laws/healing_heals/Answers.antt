use Rattle.acc_heal_laws.proofs.HealingTurns.{healing_turns}
use Rattle.acc_heal_laws.proofs.Healed.{healing_heals}
use Rattle.acc_heal_laws.proofs.laws.healing_heals.Goals as goal

pub returns-clause-turned : goal.returns-clause-turned
returns-clause-turned c = healing_turns c.plans_are_valid.ensures c.messages_go_to_actors.ensures.to c.nodes_are_actors.ensures.node

pub returns-clause-healed : goal.returns-clause-healed
returns-clause-healed c =
    healing_heals c.plans_are_valid.ensures
    (healing_turns c.plans_are_valid.ensures c.messages_go_to_actors.ensures.to c.nodes_are_actors.ensures.node)
