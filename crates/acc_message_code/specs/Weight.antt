-- The weight of an item: the sum of the lengths of its encoded messages. Items that send nothing weigh nothing.
use Rattle.std.specs.Prelude.{ℕ, List, length, sum_by}
use Rattle.acc_message.specs.declared.message.Message.{Message}
use Rattle.acc_message.specs.declared.item.Item.{Item}
use Rattle.acc_message.specs.Items.{sent_in}
use Rattle.acc_message_code.specs.MessageSpelling.{message_bytes}

-- of some messages
abbrev pub weight_of_all : List Message → ℕ
weight_of_all messages = sum_by (λ m. length (message_bytes m)) messages

abbrev pub weight_of : Item → ℕ
weight_of item = weight_of_all (sent_in item)

-- of some items together
abbrev pub weight_of_items : List Item → ℕ
weight_of_items items = sum_by weight_of items
