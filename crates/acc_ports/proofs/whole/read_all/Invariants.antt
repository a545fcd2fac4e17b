-- So far a front of the bytes was read, and it stands in the front of the buffer.
use Rattle.std.proofs.Common.{◌+◌, ◌-◌, ◌≡◌, ◌≤◌, vec_len}
use Rattle.acc_ports.specs.Source.{without_first, ReadsOn}
use Rattle.acc_ports.proofs.SourceLemmas.{HoldsFront, ReadsSoMany}
use Rattle.acc_ports.proofs.whole.read_all.Given as goal

abbrev pub invariant-loop-filled : goal.invariant-loop-filled
invariant-loop-filled g l = record {
  inside : l.filled ≤ vec_len l.bytes;
  within : vec_len l.bytes ≤ l.most;
  left : g.S.Source.left l.source ≡ without_first l.filled (g.S.Source.left l.initial.source);
  read : HoldsFront l.filled l.bytes.items (g.S.Source.left l.initial.source);
  reads : ReadsOn (g.S.Source.reads l.initial.source) (g.S.Source.reads l.source);
  so_many : ReadsSoMany l.filled (g.S.Source.reads l.initial.source) (g.S.Source.reads l.source);
  counted : g.S.Source.faults l.initial.source ≤ g.S.Source.faults l.source;
  still : g.S.Source.faults l.source ≡ g.S.Source.faults l.initial.source;
}

abbrev pub decreases-loop-filled : goal.decreases-loop-filled
decreases-loop-filled g l = l.limit + 1 - l.filled
