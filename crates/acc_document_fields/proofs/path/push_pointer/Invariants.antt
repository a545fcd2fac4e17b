-- The parts before this one are written.
use Rattle.std.proofs.Common.{◌≡◌, ◌++◌, map, take}
use Rattle.acc_document_fields.specs.Parts.{part_text}
use Rattle.acc_schedule.specs.Paths.{pointer}
use Rattle.acc_document_fields.proofs.path.push_pointer.Given as goal

abbrev pub invariant-loop-part : goal.invariant-loop-part
invariant-loop-part l = l.text.items ≡ l.initial.text.items ++ pointer (map part_text (take l.part-index l.path))
