-- The payloads before this one are read.
use Rattle.std.proofs.Common.{List, take}
use Rattle.acc_left.specs.declared.image.Image.{Image}
use Rattle.acc_left.specs.Told.{bytes_in, TellDraws}
use Rattle.acc_left.proofs.StoreWalk.{StoreIsRead}
use Rattle.acc_left.proofs.stores.store_fault.Given as goal

abbrev pub invariant-loop-payload : goal.invariant-loop-payload
invariant-loop-payload l =
    (images : List Image) → TellDraws l.plan l.drawn.drawn.draws images → StoreIsRead l.plan images l.own (take l.payload-index (bytes_in l.payloads)) l.marked l.gate
