-- What an actor's part in some items becomes with those in front of them.
--     IsUntouched      nothing has changed
--     DidMore      it has one entry more
--     WentDown      it has one down more
use Rattle.std.specs.Prelude.{◌≡◌, ℕ, ◌+◌, Bool, true, false, ◌&&◌, List, ◌∷◌, ◌++◌}
use Rattle.acc_stamp.specs.declared.actors.Actor.{Actor}
use Rattle.acc_message.specs.declared.item.Item.{Item}
use Rattle.acc_message.specs.NodeRules.{Deed}
use Rattle.acc_message.specs.Run.{Cluster, deeds_of, is_down}
use Rattle.acc_payloads.specs.Items.{payloads_in, downs_in, ends_down}

pub record IsUntouched (cluster : Cluster) (before now : List Item) (a : Actor) : Type 0 where
  pub deeds : deeds_of cluster a now ≡ deeds_of cluster a before
  pub payloads : payloads_in a now ≡ payloads_in a before
  pub downs : downs_in a now ≡ downs_in a before
  pub down : is_down a now ≡ is_down a before
  pub ends : ends_down a now ≡ ends_down a before

-- a lost entry leaves the actor down
pub record DidMore (cluster : Cluster) (before now : List Item) (a : Actor) (deed : Deed) (payload : List (List ℕ)) (lost : Bool) : Type 0 where
  pub deeds : deeds_of cluster a now ≡ deed ∷ deeds_of cluster a before
  pub payloads : payloads_in a now ≡ payloads_in a before ++ payload
  pub downs : downs_in a now ≡ downs_in a before
  pub down : is_down a now ≡ (lost && is_down a before)
  pub ends : ends_down a now ≡ false

pub record WentDown (cluster : Cluster) (before now : List Item) (a : Actor) : Type 0 where
  pub deeds : deeds_of cluster a now ≡ deeds_of cluster a before
  pub payloads : payloads_in a now ≡ payloads_in a before
  pub downs : downs_in a now ≡ 1 + downs_in a before
  pub down : is_down a now ≡ true
  pub ends : ends_down a now ≡ true
