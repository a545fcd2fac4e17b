-- What fits the format of messages, and how much of it there is.
use Rattle.std.specs.Prelude.{◌≤◌, ◌<◌, ◌^◌, List, length, All}
use Rattle.acc_message.specs.declared.message.Message.{Message}
use Rattle.acc_message.specs.declared.item.Item.{Item}
use Rattle.acc_message.specs.Run.{Cluster}
use Rattle.acc_message_code.specs.Short.{IsShortMessage}
use Rattle.acc_message_code.specs.Weight.{weight_of_all}

-- so many items that the bytes of any of them are counted in 63 bits
abbrev pub AreFew : List Item → Type 0
AreFew items = length items < 2 ^ 31

-- so many transactions that a list of their ids fits the format of messages
abbrev pub HasFewBodies : Cluster → Type 0
HasFewBodies cluster = length cluster.bodies ≤ 10000

-- each message fits the format, and their lengths together are counted in 63 bits
pub record AreSendable (messages : List Message) : Type 0 where
  pub short : All IsShortMessage messages
  pub weight : weight_of_all messages < 2 ^ 63
