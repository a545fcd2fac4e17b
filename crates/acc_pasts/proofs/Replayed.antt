-- In a run what an actor did is the replay of what it took, and it emits what its rules give over that.
use Rattle.std.proofs.Common.{◌≡◌, Bool, true, false, List, [], refl, ◌∙◌, ap}
use Rattle.acc_stamp.specs.declared.actors.Actor.{Actor}
use Rattle.acc_stamp.specs.Actor.{node_of}
use Rattle.acc_message.specs.declared.message.Message.{Message}
use Rattle.acc_message.specs.declared.item.Item.{Item}
use Rattle.acc_message.specs.Taken.{Taken}
use Rattle.acc_message.specs.StoreRules.{store_answer, replay}
use Rattle.acc_message.specs.NodeRules.{Act, Takes, Restarts, Deed, node_emits}
use Rattle.acc_message.specs.Coordinator.{silence}
use Rattle.acc_message.specs.Run.{Cluster, clock_start, deeds_of, taken_of, is_node, emits_by, emits}
use Rattle.acc_safety.specs.Valid.{IsStanding}
use Rattle.acc_safety.proofs.Bridge.{each_emits, each_answers}
use Rattle.acc_safety.proofs.Replays.{store_is_replay, node_is_replay}
use Rattle.acc_run_laws.specs.Calls.{replayed_deeds, replayed_steps}

module _ (cluster : Cluster) (items : List Item) (a : Actor) where
  pub node_replayed : IsStanding cluster items → is_node a ≡ true → deeds_of cluster a items ≡ replayed_deeds cluster a items
  node_replayed standing node =
      node_is_replay cluster.layout (node_of a) (clock_start cluster.starts (node_of a)) (deeds_of cluster a items)
      (each_emits cluster a items standing.stands node)

  pub store_replayed : IsStanding cluster items → is_node a ≡ false → taken_of cluster a items ≡ replay cluster.layout a (replayed_steps cluster a items)
  store_replayed standing store = store_is_replay cluster.layout a (taken_of cluster a items) (each_answers cluster a items standing.stands store)

  -- what the next entry emits
  pub node_emits_next : (act : Act) → IsStanding cluster items → is_node a ≡ true
      → emits cluster items a act ≡ node_emits cluster.layout (node_of a) (clock_start cluster.starts (node_of a)) (replayed_deeds cluster a items) act
  node_emits_next act standing node =
      ap (λ b. emits_by b cluster a (deeds_of cluster a items) act) node
      ∙ ap (λ (past : List Deed). node_emits cluster.layout (node_of a) (clock_start cluster.starts (node_of a)) past act) (node_replayed standing node)

  pub store_emits_next : (m : Message) → IsStanding cluster items → is_node a ≡ false
      → emits cluster items a (Takes m) ≡ record { notes = []; out = store_answer cluster.layout a (replay cluster.layout a (replayed_steps cluster a items)) m }
  store_emits_next m standing store =
      ap (λ b. emits_by b cluster a (deeds_of cluster a items) (Takes m)) store
      ∙ ap (λ (past : List Taken). record { notes = []; out = store_answer cluster.layout a past m }) (store_replayed standing store)

  pub restart_emits : emits cluster items a Restarts ≡ silence
  restart_emits = by (is_node a)
    where
      by : (node : Bool) → emits_by node cluster a (deeds_of cluster a items) Restarts ≡ silence
      by true = refl
      by false = refl
