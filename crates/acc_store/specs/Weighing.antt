-- What a store may weigh: an answer whose messages are short.
use Rattle.std.specs.Prelude.{◌<◌, ◌^◌, List, All}
use Rattle.acc_topology.specs.Layout.{Layout}
use Rattle.acc_message.specs.declared.message.Message.{Message}
use Rattle.acc_message.specs.StoreRules.{store_answer, replay}
use Rattle.acc_message_code.specs.Short.{IsShortMessage}
use Rattle.acc_message_code.specs.Weight.{weight_of_all}
use Rattle.acc_store.specs.declared.store.Store.{Store}
use Rattle.acc_store.specs.Stands.{actor_of, StandsFor}

abbrev pub answer_after : Layout → Store → List Message → Message → List Message
answer_after layout store messages m = store_answer layout (actor_of store) (replay layout (actor_of store) messages) m

-- the store stands for some messages after which the answer to this one is short messages, whose bytes a number of 64 bits
-- counts
pub record SendsShort (layout : Layout) (store : Store) (m : Message) : Type 0 where
  pub messages : List Message
  pub stands : StandsFor layout store (replay layout (actor_of store) messages)
  pub short : All IsShortMessage (answer_after layout store messages m)
  pub fits : weight_of_all (answer_after layout store messages m) < 2 ^ 64
