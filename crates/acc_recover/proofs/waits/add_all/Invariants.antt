use Rattle.std.proofs.Common.{◌≡◌, drop}
use Rattle.acc_stamp.specs.Rising.{IsRising, ids_union}
use Rattle.acc_recover.proofs.waits.add_all.Given as goal

abbrev pub invariant-loop-place : goal.invariant-loop-place
invariant-loop-place l = record { rises : IsRising l.ids; so_far : l.ids ≡ ids_union l.fn.ids (drop l.place l.more) }
