-- The entries of the transactions so far are there.
use Rattle.std.proofs.Common.{◌≡◌, ℕ, ◌==◌, ◌&&◌, nat_lt, nat_le, false, length}
use Rattle.std.specs.Prelude.{slice_index_or, None}
use Rattle.std.specs.List.{list_any}
use Rattle.acc_stamp.specs.declared.stamps.Stamp.{Stamp}
use Rattle.acc_stamp.specs.Stamp.{stamp_lt}
use Rattle.acc_audit.specs.Kept.{is_below}
use Rattle.acc_audit.proofs.decisions.decided.Given as goal

abbrev pub invariant-loop-number : goal.invariant-loop-number
invariant-loop-number l = record {
  within : list_any (λ entry. nat_le (length l.least) entry.1) l.entries.items ≡ false;
  least : (n : ℕ) (t : Stamp) → list_any (λ entry. (entry.1 == n) && stamp_lt entry.0 t) l.entries.items ≡ (nat_lt n l.number && is_below (slice_index_or l.least n None) t);
}
