use Rattle.std.proofs.Common.{◌≡◌, ℕ, ◌+◌, ◌-◌, length}
use Rattle.std.specs.List.{slice_index_or}
use Rattle.acc_actors.specs.declared.slot.Slot.TheVariants.{Empty}
use Rattle.acc_cluster.proofs.opening.make_room.Given as goal

abbrev pub invariant-room : goal.invariant-room
invariant-room g l = (k : ℕ) → slice_index_or l.slots.items k Empty ≡ slice_index_or l.initial.slots.items k Empty

abbrev pub decreases-room : goal.decreases-room
decreases-room g l = (l.place + 1) - length l.slots.items
