-- Which moments have been looked through for the cells that looks have read.
use Rattle.std.specs.Prelude.{◌≡◌, ◌⊎◌, ℕ, ◌+◌, ◌<◌, ◌≤◌, List, [], ◌∷◌, false, is_some, Option, None, Some}
use Rattle.std.specs.List.{list_any}
use Rattle.acc_value.specs.declared.key.Key.{Key}
use Rattle.acc_value.specs.declared.value.Value.{Value}
use Rattle.acc_message.specs.declared.item.Item.{Item}
use Rattle.acc_message.specs.declared.note.Note.{Note}
use Rattle.acc_message.specs.Run.{Cluster}
use Rattle.acc_glance_laws.specs.SerialCells.{cell_after}
use Rattle.acc_glance.specs.declared.seen.Seen.{Seen}
use Rattle.acc_glance.specs.declared.sights.Finding.{Finding}
use Rattle.acc_glance.specs.declared.stages.Stage.{Stage}
use Rattle.acc_glance.specs.declared.stages.Stage.TheVariants.{Waiting, Visiting, Read, Open}
use Rattle.acc_glance.specs.Seen.{EndsAs, IsLeast}
use Rattle.acc_glance.specs.Serial.{outcome_id}

-- at these moments, both included, the serial order has these cells
abbrev pub ShowsFrom : Cluster → List Item → ℕ → ℕ → (Key → Option Value) → Type 0
ShowsFrom cluster items first last cells = (n : ℕ) → first ≤ n → n ≤ last → (key : Key) → cell_after cluster items n key ≡ cells key

-- of a look that has read a cell the least moment is found, or none of those below this one is its own
abbrev pub SettledBelow : Cluster → List Item → ℕ → Key → Stage → Option ℕ → Type 0
SettledBelow cluster items next key (Read from to cell) None = (n : ℕ) → from ≤ n → n < next → cell_after cluster items n key ≡ cell → ⊥
SettledBelow cluster items next key (Read from to cell) (Some at) = IsLeast cluster items key from cell at
SettledBelow cluster items next key Waiting at = Unit {0}
SettledBelow cluster items next key (Visiting course) at = Unit {0}
SettledBelow cluster items next key (Open from) at = Unit {0}

abbrev pub IsSettled : Cluster → List Item → ℕ → Finding → Type 0
IsSettled cluster items next finding = SettledBelow cluster items next finding.look.key finding.stage finding.at

-- where the look has read a cell, its moment is found, and is not after its end
abbrev pub HasMoment : Finding → Type 0
HasMoment finding = (from to : ℕ) (cell : Option Value) → finding.stage ≡ Read from to cell → (at : ℕ) × (finding.at ≡ Some at) × (at ≤ to)

-- each look has seen this, in their order
abbrev pub AreEnded : Cluster → List Item → List Finding → List Seen → Type 0
AreEnded cluster items [] [] = Unit {0}
AreEnded cluster items [] (seen ∷ seens) = ⊥
AreEnded cluster items (finding ∷ findings) [] = ⊥
AreEnded cluster items (finding ∷ findings) (seen ∷ seens) =
    EndsAs cluster items finding.look.key finding.stage seen × AreEnded cluster items findings seens

-- where the next stretch of moments starts: after the item at this place, where its notes tell an outcome, and else where it started
abbrev pub StartsAfter : List Note → ℕ → ℕ → ℕ → Type 0
StartsAfter notes place old new =
    (new ≡ place + 1) ⊎ ((new ≡ old) × (list_any (λ note. is_some (outcome_id note)) notes ≡ false))
