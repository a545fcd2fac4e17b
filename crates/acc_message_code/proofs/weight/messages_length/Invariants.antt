use Rattle.std.proofs.Common.{◌≡◌, take}
use Rattle.acc_message_code.specs.Weight.{weight_of_all}
use Rattle.acc_message_code.proofs.weight.messages_length.Given as goal

abbrev pub invariant-loop-message : goal.invariant-loop-message
invariant-loop-message l = l.weight ≡ weight_of_all (take l.message-index l.messages)
