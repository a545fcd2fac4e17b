-- The places so far lie in the block, and its mask tells them.
use Rattle.std.proofs.Common.{◌≡◌, ◌==◌, ℕ, ◌+◌, ◌<◌, ◌≤◌, ◌&&◌, false, length, get_or, take}
use Rattle.std.specs.List.{list_any}
use Rattle.acc_index.specs.Places.{is_other}
use Rattle.acc_index.proofs.columns.Columns.block.Given as goal

abbrev pub invariant-loop-user : goal.invariant-loop-user
invariant-loop-user l = record {
  taken : l.taken ≡ l.user-index;
  long : length l.mask ≡ 64;
  narrow : l.width ≤ 64;
  in_range : l.start + l.width ≤ length l.self.heights.items;
  low : (j : ℕ) → j < l.taken → l.start ≤ get_or l.places j 0;
  high : (j : ℕ) → j < l.taken → get_or l.places j 0 < l.start + l.width;
  marks : (i : ℕ) → i < 64 → get_or l.mask i false ≡ list_any (λ p. (p == l.start + i) && is_other l.self l.id p) (take l.taken l.places);
}
