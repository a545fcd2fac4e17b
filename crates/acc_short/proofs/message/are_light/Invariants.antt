-- The bytes of the messages so far.
use Rattle.std.proofs.Common.{◌≡◌, ◌<◌, ◌^◌, take}
use Rattle.acc_message_code.specs.Weight.{weight_of_all}
use Rattle.acc_short.proofs.message.are_light.Given as goal

abbrev pub invariant-loop-message : goal.invariant-loop-message
invariant-loop-message l = (l.weight ≡ weight_of_all (take l.message-index l.messages)) × (l.weight < 2 ^ 63)
