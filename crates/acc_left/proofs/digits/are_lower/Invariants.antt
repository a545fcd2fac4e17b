-- Whether the bytes before this place are digits.
use Rattle.std.proofs.Common.{◌≡◌, take}
use Rattle.std.specs.List.{list_all}
use Rattle.acc_left.specs.Digits.{is_lower_digit}
use Rattle.acc_left.proofs.digits.are_lower.Given as goal

abbrev pub invariant-loop-byte : goal.invariant-loop-byte
invariant-loop-byte l = l.all ≡ list_all is_lower_digit (take l.byte-index l.bytes)
