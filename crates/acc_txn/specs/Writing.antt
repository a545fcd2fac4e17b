-- What a call that appends leaves where memory runs out half way.
use Rattle.std.specs.Prelude.{◌≡◌, ℕ, List, length, take}

-- what stood there stands first, whatever stands after it
abbrev pub Keeps : List ℕ → List ℕ → Type 0
Keeps before after = take (length before) after ≡ before
