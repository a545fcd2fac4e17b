-- What a coordinator may weigh: it stands for an attempt that would send short messages, whose lengths fit 64 bits together.
use Rattle.std.specs.Prelude.{◌<◌, ◌^◌, List, All}
use Rattle.acc_stamp.specs.declared.stamps.TxnId.{TxnId}
use Rattle.acc_stamp.specs.Actor.{home_of}
use Rattle.acc_topology.specs.Layout.{Layout}
use Rattle.acc_message.specs.declared.message.Message.{Message}
use Rattle.acc_message.specs.Attempts.{Attempt}
use Rattle.acc_message.specs.Coordinator.{reaction}
use Rattle.acc_message_code.specs.Short.{IsShortMessage}
use Rattle.acc_message_code.specs.Weight.{weight_of_all}
use Rattle.acc_coord.specs.declared.coord.Coord.{Coord}
use Rattle.acc_coord.specs.Stands.{StandsFor}

-- what an attempt sends when it takes a message
abbrev pub sent_on : Layout → TxnId → Attempt → Message → List Message
sent_on layout x a m = (reaction layout (home_of x a.ballot) x a m).emitted.out

pub record SendsShort (layout : Layout) (c : Coord) (m : Message) : Type 0 where
  pub id : TxnId
  pub attempt : Attempt
  pub stands : StandsFor layout id c attempt
  pub short : All IsShortMessage (sent_on layout id attempt m)
  pub fits : weight_of_all (sent_on layout id attempt m) < 2 ^ 64
