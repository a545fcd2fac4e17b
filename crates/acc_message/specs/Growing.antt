-- A list of items that still grows.
--     items        the items, in their order
--     own          how many of them, the last ones, no other list has
--     room         there is room for items and messages that are no more in all
--     notes_room   there is room for so many notes of items
use Rattle.std.specs.Prelude.{ℕ, List, Option, None, Some}
use Rattle.std.specs.List.{slice_get}
use Rattle.acc_message.specs.declared.message.Message.{Message}
use Rattle.acc_message.specs.declared.item.Item.{Item}
use Rattle.acc_message.specs.Items.{sent_in}

pub record Growing : Type 0 where
  pub items : List Item
  pub own : ℕ
  pub room : ℕ
  pub notes_room : ℕ

-- the message with this index among those that an item sent
abbrev pub message_in : Option Item → ℕ → Option Message
message_in None index = None
message_in (Some item) index = slice_get (sent_in item) index
