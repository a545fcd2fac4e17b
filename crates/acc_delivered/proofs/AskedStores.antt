-- A store that took a request about a transaction is one of its stores.
use Rattle.std.proofs.Common.{◌≡◌, true, List, Some, sym, ◌∙◌, subst}
use Rattle.std.proofs.lemmas.Bool.{true≢false}
use Rattle.acc_stamp.specs.declared.actors.Actor.{Actor}
use Rattle.acc_stamp.specs.Actor.{node_of}
use Rattle.acc_txn.specs.declared.parts.BodyParts.{BodyParts}
use Rattle.acc_message.specs.declared.entry.Emitted.{Emitted}
use Rattle.acc_message.specs.declared.item.Item.{Item}
use Rattle.acc_message.specs.Fields.{from_of, to_of}
use Rattle.acc_message.specs.Shares.{stores_used}
use Rattle.acc_message.specs.Taken.{Taken, body_in}
use Rattle.acc_message.specs.Run.{Cluster, clock_start, deeds_of, taken_of, EachStands}
use Rattle.acc_safety.specs.Places.{IsIn, StandsAt}
use Rattle.acc_safety.specs.Histories.{Sender, IsStore, IsNode}
use Rattle.acc_safety.proofs.Bridge.{store_step, each_emits, emits_at, sender}
use Rattle.acc_safety.proofs.Frame.{store_sent}
use Rattle.acc_calm.proofs.ZeroBallots.{is_request, store_asks_nothing, step_sending}
use Rattle.acc_delivered.proofs.Addressed.{to_store}

pub asked_store : (cluster : Cluster) (items : List Item) (h : EachStands cluster items) (store : Actor) (step : Taken) (past : List Taken)
    → StandsAt step past (taken_of cluster store items) → is_request step.message ≡ true → (body : BodyParts) → body_in step.message ≡ Some body
    → IsIn store (stores_used cluster.layout body)
asked_store cluster items h store step past at request body is =
    subst (λ k. IsIn k (stores_used cluster.layout body)) (store_step cluster store items h step past at).addressed
    (by (sender cluster items step.message h (step_sending cluster items h store step past at)))
  where
    by : Sender cluster items step.message → IsIn (to_of step.message) (stores_used cluster.layout body)
    by (IsStore f) =
        absurd (true≢false
        (sym request ∙ store_asks_nothing cluster.layout (from_of step.message) f.past f.step.message step.message (store_sent cluster items (from_of step.message) step.message h f)))
    by (IsNode f) =
        to_store cluster.layout (node_of (from_of step.message)) (clock_start cluster.starts (node_of (from_of step.message))) f.past f.deed.act step.message body
        (subst (λ (w : Emitted). IsIn step.message w.out)
        (emits_at cluster.layout (node_of (from_of step.message)) (clock_start cluster.starts (node_of (from_of step.message))) (deeds_of cluster (from_of step.message) items) f.deed f.past
        (each_emits cluster (from_of step.message) items h f.is_node) f.at) f.sent) is
