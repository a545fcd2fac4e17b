-- The digits that are left go on from the number so far.
use Rattle.std.proofs.Common.{◌≡◌, ◌<◌, ◌^◌, drop}
use Rattle.std.specs.Str.Parse.{digits_value, digits_value_after}
use Rattle.acc_report_reader.proofs.numbers.number_of.Given as goal

abbrev pub invariant-loop-digit : goal.invariant-loop-digit
invariant-loop-digit l = record { goes_on : digits_value_after 10 l.number (drop l.digit-index l.digits) ≡ digits_value 10 l.digits; fits : l.number < 2 ^ 64 }
