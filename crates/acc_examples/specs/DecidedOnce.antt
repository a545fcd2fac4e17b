-- Decisions that agree, and decisions that don't. Items stand newest first.
use Rattle.std.specs.Prelude.{List, [], ◌∷◌}
use Rattle.acc_message.specs.declared.note.Path.TheVariants.{Fast, Slow, Adopted}
use Rattle.acc_message.specs.declared.note.Note.TheVariants.{Decide}
use Rattle.acc_message.specs.declared.item.Item.{Item}
use Rattle.acc_examples.specs.Clusters.{stamp, deps_in}
use Rattle.acc_examples.specs.Actors.{a, b, c}
use Rattle.acc_examples.specs.Noted.{begun, noting, decided}

-- nothing is decided; one transaction is; three are, at three timestamps, two of which have one h; one is decided twice at
-- one timestamp, with other dependencies and on another path
abbrev pub agreeing : List (List Item)
agreeing =
    (begun 0 a ∷ [])
    ∷ (decided a (stamp 1 64) [] ∷ [])
    ∷ (decided c (stamp 3 64) [] ∷ decided b (stamp 2 65) [] ∷ decided a (stamp 2 129) [] ∷ [])
    ∷ (noting (Decide a (stamp 2 65) Adopted (deps_in 1 (b ∷ [])) ∷ []) ∷ decided b (stamp 1 128) [] ∷ noting (Decide a (stamp 2 65) Slow [] ∷ []) ∷ [])
    ∷ []

-- one transaction at two timestamps, of another h or of another origin, in one step or after another decision; two
-- transactions at one timestamp, side by side or not
abbrev pub disagreeing : List (List Item)
disagreeing =
    (decided a (stamp 2 65) [] ∷ decided a (stamp 1 64) [] ∷ [])
    ∷ (decided a (stamp 2 129) [] ∷ decided a (stamp 2 65) [] ∷ [])
    ∷ (noting (Decide a (stamp 1 64) Fast [] ∷ Decide a (stamp 2 65) Slow [] ∷ []) ∷ [])
    ∷ (decided a (stamp 3 65) [] ∷ decided b (stamp 1 128) [] ∷ decided a (stamp 2 65) [] ∷ [])
    ∷ (decided b (stamp 2 65) [] ∷ decided a (stamp 2 65) [] ∷ [])
    ∷ (decided c (stamp 2 65) [] ∷ decided b (stamp 1 128) [] ∷ decided a (stamp 2 65) [] ∷ [])
    ∷ []
