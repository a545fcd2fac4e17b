-- Whether all stores of a transaction took an Apply of it, by the table of who took one.
use Rattle.std.proofs.Common.{◌≡◌, List, Option, Some, sym, ◌∙◌, ap}
use Rattle.std.specs.List.{list_all}
use Rattle.acc_stamp.specs.declared.stamps.TxnId.{TxnId}
use Rattle.acc_stamp.specs.declared.actors.Actor.{Actor}
use Rattle.acc_txn.specs.declared.parts.BodyParts.{BodyParts}
use Rattle.acc_message.specs.declared.item.Item.{Item}
use Rattle.acc_message.specs.Shares.{stores_used}
use Rattle.acc_message.specs.Run.{Cluster}
use Rattle.acc_heal_laws.specs.Stages.{all_took_apply}
use Rattle.acc_heal.specs.declared.seen.Seen.{Seen}
use Rattle.acc_heal.specs.Seen.{has_taker, Tells}

pub told : (cluster : Cluster) (x : TxnId) (entry : Option BodyParts) (body : BodyParts) → entry ≡ Some body → (seen : Seen) (stores : List Actor)
    → stores ≡ stores_used cluster.layout body → (items : List Item) → Tells seen items
    → all_took_apply cluster items x entry ≡ list_all (has_taker seen.taken.keys x) stores
told cluster x entry body is seen stores stores_are items tells =
    ap (all_took_apply cluster items x) is ∙ (λ i. list_all (λ store. sym (tells.taken cluster x store) i) (sym stores_are i))
