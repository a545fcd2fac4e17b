-- What writing does to the bytes that a sink holds. A sink that doesn't tell its bytes has `None`.
use Rattle.std.specs.Prelude.{◌≡◌, ℕ, ◌<◌, List, ◌++◌, length, take, Option}
use Rattle.std.specs.Option.{option_map}

-- the bytes written, with `piece` behind them
abbrev pub followed_by : List ℕ → Option (List ℕ) → Option (List ℕ)
followed_by piece written = option_map (λ bytes. bytes ++ piece) written

-- A front of `text` was written, and not all of it.
abbrev pub WritesPart : List ℕ → Option (List ℕ) → Option (List ℕ) → Type 0
WritesPart text before after = (count : ℕ) × (count < length text) × (after ≡ followed_by (take count text) before)
