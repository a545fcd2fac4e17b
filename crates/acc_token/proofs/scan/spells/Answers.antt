use Rattle.std.proofs.Common.{◌≡◌, true, false, bit_or, arith}
use Rattle.std.specs.Char.{is_ascii_lowercase}
use Rattle.std.proofs.lemmas.Bool.Decides.{nat_tests}
use Rattle.acc_token.proofs.Words.{letter_spells, other_spells}
use Rattle.acc_token.proofs.scan.spells.Goals as goal

pub returns-then-is_ascii_lowercase : goal.returns-then-is_ascii_lowercase
returns-then-is_ascii_lowercase c =
    let small : is_ascii_lowercase (bit_or c.args.byte 32) ≡ true = cc in
    letter_spells c.args.byte c.args.small (omega arith) small

pub returns-else-byte-eq95 : goal.returns-else-byte-eq95
returns-else-byte-eq95 c =
    let other : is_ascii_lowercase (bit_or c.args.byte 32) ≡ false = cc in
    let is = other_spells c.args.byte c.args.small (omega arith) other in
    grind (arith, nat_tests, is)

pub returns-else-byte-small : goal.returns-else-byte-small
returns-else-byte-small c =
    let other : is_ascii_lowercase (bit_or c.args.byte 32) ≡ false = cc in
    let is = other_spells c.args.byte c.args.small (omega arith) other in
    grind (arith, nat_tests, is)
