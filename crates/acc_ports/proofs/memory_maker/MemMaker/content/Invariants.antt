-- No disk from the place on was given back under the number.
use Rattle.std.proofs.Common.{◌≡◌, ◌≤◌, length, drop, None}
use Rattle.acc_ports.specs.MemoryMaker.{last_content}
use Rattle.acc_ports.proofs.memory_maker.MemMaker.content.Given as goal

abbrev pub invariant-loop-place : goal.invariant-loop-place
invariant-loop-place l = record {
  inside : l.place ≤ length l.given;
  none : last_content l.number (drop l.place l.given) ≡ None;
}

abbrev pub decreases-loop-place : goal.decreases-loop-place
decreases-loop-place l = l.place
