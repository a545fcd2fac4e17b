-- So far the ranges of the first writes have the byte.
use Rattle.std.proofs.Common.{take}
use Rattle.acc_ports.specs.Strict.{IsFilled}
use Rattle.acc_ports.specs.Undo.{ranges_of}
use Rattle.acc_ports.proofs.undo.fill.Given as goal

abbrev pub invariant-loop-write : goal.invariant-loop-write
invariant-loop-write l = IsFilled l.byte (ranges_of (take l.write-index l.writes)) l.initial.content.items l.content.items
