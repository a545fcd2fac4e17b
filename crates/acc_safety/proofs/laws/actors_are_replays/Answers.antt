use Rattle.acc_safety.proofs.Bridge.{each_answers, each_emits}
use Rattle.acc_safety.proofs.Replays.{store_is_replay, node_is_replay}
use Rattle.acc_safety.proofs.laws.actors_are_replays.Goals as goal

pub returns-clause-store : goal.returns-clause-store
returns-clause-store c = each_answers

pub returns-clause-node : goal.returns-clause-node
returns-clause-node c = each_emits

pub returns-clause-store_replayed : goal.returns-clause-store_replayed
returns-clause-store_replayed c = store_is_replay

pub returns-clause-node_replayed : goal.returns-clause-node_replayed
returns-clause-node_replayed c = node_is_replay
