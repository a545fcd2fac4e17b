-- Bytes as hexadecimal digits.
use Rattle.std.specs.Prelude.{ℕ, ◌+◌, ◌*◌, ◌/◌, ◌%◌, ◌==◌, ◌&&◌, ◌||◌, nat_le, Bool, List, [], length}
use Rattle.std.specs.Char.{is_ascii_digit}
use Rattle.std.specs.List.{list_all}
use Rattle.std.specs.Result.{result_unwrap_or}
use Rattle.hex.specs.Hex.{decode_of}

-- 0 to 9 or a to f
abbrev pub is_lower_digit : ℕ → Bool
is_lower_digit c = is_ascii_digit c || (nat_le 97 c && nat_le c 102)

-- an even number of such digits
abbrev pub is_digits : List ℕ → Bool
is_digits text = (length text % 2 == 0) && list_all is_lower_digit text

-- the bytes that they say
abbrev pub bytes_said : List ℕ → List ℕ
bytes_said text = result_unwrap_or (decode_of text) []

-- ---- pairs of digits in lanes of 16 bits

-- what a digit is worth, as a lane computes it
abbrev pub lane_worth : ℕ → ℕ
lane_worth digit = (digit % 16 + digit / 64 * 9 % 65536) % 65536

-- the byte of two digits, the first of them in the low byte of the lane
abbrev pub pair_byte : ℕ → ℕ
pair_byte pair = (lane_worth (pair % 256) * 16 % 65536 + lane_worth (pair / 256)) % 65536 % 256
