-- How many messages were sent: no more than they have bytes.
use Rattle.std.proofs.Common.{◌≤◌, List, [], ◌∷◌, length, arith, length-append}
use Rattle.std.proofs.lemmas.List.Sums.{sum_by-cons}
use Rattle.acc_message.specs.declared.message.Message.{Message}
use Rattle.acc_message.specs.declared.item.Item.{Item}
use Rattle.acc_message.specs.Items.{sent_in, sent_of}
use Rattle.acc_message_code.specs.MessageSpelling.{message_bytes}
use Rattle.acc_message_code.specs.Weight.{weight_of_all, weight_of, weight_of_items}
use Rattle.acc_safety.specs.Places.{IsPast, Whole, Behind}

has_byte : (m : Message) → 1 ≤ length (message_bytes m)
unfolding message_bytes
has_byte m = omega arith

some_weight : (messages : List Message) → length messages ≤ weight_of_all messages
some_weight [] = omega arith
some_weight (m ∷ messages) =
    omega (arith, sum_by-cons (λ (m : Message). length (message_bytes m)) m messages, has_byte m, some_weight messages)

pub sent_few : (items : List Item) → length (sent_of items) ≤ weight_of_items items
sent_few [] = omega arith
sent_few (item ∷ earlier) =
    omega (
      arith,
      sum_by-cons weight_of item earlier,
      length-append (sent_of earlier) (sent_in item),
      some_weight (sent_in item),
      sent_few earlier,
    )

pub sent_before : (past items : List Item) → IsPast past items → length (sent_of past) ≤ length (sent_of items)
sent_before past items (Whole xs) = omega arith
sent_before past items (Behind item before xs there) = omega (arith, length-append (sent_of xs) (sent_in item), sent_before before xs there)
