-- When a step is planned for a store and a message.
use Rattle.std.specs.Prelude.{◌≡◌, true, List}
use Rattle.acc_topology.specs.Layout.{Layout}
use Rattle.acc_message.specs.declared.message.Message.{Message}
use Rattle.acc_message.specs.Opening.{may_open}
use Rattle.acc_message.specs.StoreRules.{store_answer, replay}
use Rattle.acc_record.specs.declared.shelf.Shelf.{Shelf}
use Rattle.acc_record.specs.Planned.{IsPlanned}
use Rattle.acc_record.specs.Stands.{StandsFor}
use Rattle.acc_execute.specs.Executed.{IsReady}
use Rattle.acc_execute.specs.declared.step.PreparedStep.{PreparedStep}
use Rattle.acc_store.specs.declared.steps.Prepared.{Prepared}
use Rattle.acc_store.specs.declared.steps.Prepared.TheVariants.{Opens, Quiet}
use Rattle.acc_store.specs.declared.store.Store.{Store}

-- The step of a message that may open something: what it sends is the rules' answer, whatever messages the shelf stands for.
pub record IsOpening (layout : Layout) (shelf : Shelf) (m : Message) (step : PreparedStep) : Type 0 where
  pub opening : may_open m ≡ true
  pub ready : IsReady layout shelf m step.parts.value
  pub answers :
      (messages : List Message) → StandsFor layout shelf (replay layout shelf.actor messages)
      → step.parts.value.sent ≡ store_answer layout shelf.actor (replay layout shelf.actor messages) m

abbrev pub IsPreparedAt : Layout → Shelf → Message → Prepared → Type 0
IsPreparedAt layout shelf m (Opens step) = IsOpening layout shelf m step
IsPreparedAt layout shelf m (Quiet plan) = IsPlanned layout shelf m plan

abbrev pub sent_by : Prepared → List Message
sent_by (Opens step) = step.parts.value.sent
sent_by (Quiet plan) = plan.sent

-- planned for the message, while the store is this one
abbrev pub IsPrepared : Layout → Store → Message → Prepared → Type 0
IsPrepared layout store m prepared = IsPreparedAt layout store.shelf m prepared
