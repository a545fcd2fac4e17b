-- What hands hold together.
use Rattle.std.specs.Prelude.{List, [], ◌∷◌, ◌++◌, Vec}

-- one hand after the other
abbrev pub all_in : {T A : Type 0} → List (Vec T A) → List T
all_in [] = []
all_in (hand ∷ hands) = hand.items ++ all_in hands
