-- The lanes so far are written, and what stands before them is as it was.
use Rattle.std.proofs.Common.{◌≡◌, ◌==◌, ℕ, ◌+◌, ◌<◌, false, get_or}
use Rattle.acc_lanes.proofs.scans.put.Given as goal

abbrev pub invariant-loop-k : goal.invariant-loop-k
invariant-loop-k l = record {
  before : (j : ℕ) → j < l.at → get_or l.out j false ≡ get_or l.fn.out j false;
  here : (j : ℕ) → j < l.k → get_or l.out (l.at + j) false ≡ (get_or l.lanes j 0 == 1);
}
