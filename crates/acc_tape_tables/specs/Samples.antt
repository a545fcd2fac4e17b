-- What an item of the table weighs.
use Rattle.std.specs.Prelude.{ℕ, ◌+◌, ◌≤◌, length}
use Rattle.std.proofs.Common.{arith}
use Rattle.acc_tape_tables.specs.declared.sample.Sample.{Sample}

abbrev pub bytes_of : Sample → ℕ
bytes_of sample = sample.more + length sample.to.items

pub has_enough : (sample : Sample) → length sample.to.items ≤ bytes_of sample
has_enough sample = omega arith
