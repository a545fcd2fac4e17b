-- The spelling of each kind of field. Numbers have their highest byte first.
use Rattle.std.specs.Prelude.{ℕ, ℤ, ◌<◌, List, [], ◌∷◌, ◌++◌, length}
use Rattle.std.specs.Int.{w64, cast_unsigned}
use Rattle.byteorder.specs.Endian.{big_bytes}

abbrev pub u8_bytes : ℕ → List ℕ
u8_bytes n = n ∷ []

unfoldable pub u16_bytes : ℕ → List ℕ
u16_bytes n = big_bytes 2 n

unfoldable pub u32_bytes : ℕ → List ℕ
u32_bytes n = big_bytes 4 n

unfoldable pub u64_bytes : ℕ → List ℕ
u64_bytes n = big_bytes 8 n

-- two's complement
unfoldable pub i64_bytes : ℤ → List ℕ
i64_bytes z = u64_bytes (cast_unsigned w64 z)

-- a text is its length in one byte, and its bytes
unfoldable pub text_bytes : List ℕ → List ℕ
text_bytes text = u8_bytes (length text) ++ text

-- a text that has a spelling
abbrev pub IsShortText : List ℕ → Type 0
IsShortText text = length text < 256
