-- What turns of transactions add to a run, in words of the items alone: for each transaction one round, and a second one where the first
-- was ended, or nothing, which is for those alone whose stores all took its Apply.
use Rattle.std.specs.Prelude.{◌≡◌, true, false, List, [], ◌∷◌, ◌++◌}
use Rattle.acc_stamp.specs.declared.stamps.TxnId.{TxnId}
use Rattle.acc_stamp.specs.declared.stamps.Ballot.{Ballot}
use Rattle.acc_message.specs.declared.item.Item.{Item}
use Rattle.acc_message.specs.Coordinator.{home_node}
use Rattle.acc_message.specs.Run.{Cluster}
use Rattle.acc_schedule_runs.specs.Fronts.{Begins}
use Rattle.acc_delivered.specs.Rounds.{IsRound}
use Rattle.acc_delivered.specs.Ends.{AtEachStore, took_apply, is_ended}
use Rattle.acc_heal_laws.specs.Stages.{begun_ids}

abbrev pub EachTookApply : Cluster → List Item → TxnId → Type 0
EachTookApply cluster items x = AtEachStore cluster items x (λ store. took_apply cluster items x store ≡ true)

-- the turns of these transactions, in this order, take the base to the items
pub data Turned (cluster : Cluster) (items : List Item) : List TxnId → List Item → Type 0 where
  NoneLeft : Turned cluster items [] items
  PassedOver :
      (x : TxnId) (ids : List TxnId) (base : List Item) → EachTookApply cluster base x → Turned cluster items ids base
      → Turned cluster items (x ∷ ids) base
  Once :
      (x : TxnId) (ids : List TxnId) (b : Ballot) (base first : List Item) → IsRound (home_node x) x b base first
      → is_ended x b (first ++ base) ≡ false → Turned cluster items ids (first ++ base) → Turned cluster items (x ∷ ids) base
  Twice :
      (x : TxnId) (ids : List TxnId) (b c : Ballot) (base first second : List Item) → IsRound (home_node x) x b base first
      → is_ended x b (first ++ base) ≡ true → IsRound (home_node x) x c (first ++ base) second
      → Turned cluster items ids (second ++ (first ++ base)) → Turned cluster items (x ∷ ids) base

-- after some of the items, which begin with these, each transaction that they begin has had its turn
pub record HasTurned (cluster : Cluster) (before items : List Item) : Type 0 where
  pub base : List Item
  pub begins : Begins before base
  pub turned : Turned cluster items (begun_ids base) base
