-- Each place before the present one tells whether its stamp is smaller than the bound.
use Rattle.std.proofs.Common.{◌≡◌, ℕ, ◌<◌, ◌≤◌, ◌-◌, false, length, get_or}
use Rattle.acc_lanes.specs.Pairs.{pair_lt}
use Rattle.acc_lanes.proofs.scans.below.Given as goal

abbrev pub invariant-loop-at : goal.invariant-loop-at
invariant-loop-at l = record {
  in_range : l.at ≤ length l.h;
  told : (k : ℕ) → k < l.at → get_or l.out k false ≡ pair_lt (get_or l.h k 0, get_or l.origin k 0) l.bound;
}

abbrev pub decreases-loop-at : goal.decreases-loop-at
decreases-loop-at l = length l.h - l.at

abbrev pub invariant-loop-place : goal.invariant-loop-place
invariant-loop-place l = (k : ℕ) → k < l.place → get_or l.out k false ≡ pair_lt (get_or l.h k 0, get_or l.origin k 0) l.bound
