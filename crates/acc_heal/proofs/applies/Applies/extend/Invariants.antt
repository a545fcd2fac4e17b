-- The messages so far are appended.
use Rattle.std.proofs.Common.{◌≡◌, ◌++◌, map, take}
use Rattle.acc_heal.specs.Applies.{applied_by}
use Rattle.acc_heal.proofs.applies.Applies.extend.Given as goal

abbrev pub invariant-loop-message : goal.invariant-loop-message
invariant-loop-message l = l.self ≡ l.fn.self ++ map applied_by (take l.message-index l.messages)
