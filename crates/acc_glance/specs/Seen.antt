-- What a look has seen after all moments.
use Rattle.std.specs.Prelude.{◌≡◌, ℕ, ◌<◌, ◌≤◌, List, [], ◌∷◌, Option, Some, None}
use Rattle.acc_value.specs.declared.key.Key.{Key}
use Rattle.acc_value.specs.declared.value.Value.{Value}
use Rattle.acc_message.specs.declared.item.Item.{Item}
use Rattle.acc_message.specs.Run.{Cluster}
use Rattle.acc_schedule_runs.specs.Situations.{Situation}
use Rattle.acc_glance_laws.specs.SerialCells.{cell_after}
use Rattle.acc_glance.specs.declared.looks.Look.{Look}
use Rattle.acc_glance.specs.declared.seen.Seen.{Seen}
use Rattle.acc_glance.specs.declared.stages.Stage.{Stage}
use Rattle.acc_glance.specs.declared.stages.Stage.TheVariants.{Waiting, Visiting, Read, Open}
use Rattle.acc_glance.specs.Stages.{stage_of}

-- the least moment since the first one at which the serial order has this cell of the key
pub record IsLeast (cluster : Cluster) (items : List Item) (key : Key) (from : ℕ) (cell : Option Value) (at : ℕ) : Type 0 where
  pub since : from ≤ at
  pub shows : cell_after cluster items at key ≡ cell
  pub none_before : (n : ℕ) → from ≤ n → n < at → cell_after cluster items n key ≡ cell → ⊥

-- what a look has seen that stands so at the end of a run with these items
pub record IsSight (cluster : Cluster) (items : List Item) (key : Key) (from to : ℕ) (cell : Option Value) (seen : Seen) : Type 0 where
  pub at : ℕ
  pub is : seen ≡ record { from = from; end = Some (record { at = at; to = to; cell = cell }) }
  pub until : at ≤ to
  pub least : IsLeast cluster items key from cell at

abbrev pub EndsAs : Cluster → List Item → Key → Stage → Seen → Type 0
EndsAs cluster items key (Read from to cell) seen = IsSight cluster items key from to cell seen
EndsAs cluster items key (Open from) seen = seen ≡ record { from = from; end = None }
EndsAs cluster items key Waiting seen = ⊥
EndsAs cluster items key (Visiting course) seen = ⊥

-- this is what the look has seen at these moments, the newest first, where the moments before the steps are so many
abbrev pub IsSeen : Cluster → List Item → ℕ → List Situation → Look → Seen → Type 0
IsSeen cluster items steps moments look seen = EndsAs cluster items look.key (stage_of cluster look steps moments) seen

-- and so has each of these looks, in their order
abbrev pub AreSeen : Cluster → List Item → ℕ → List Situation → List Look → List Seen → Type 0
AreSeen cluster items steps moments [] [] = Unit {0}
AreSeen cluster items steps moments [] (seen ∷ seens) = ⊥
AreSeen cluster items steps moments (look ∷ looks) [] = ⊥
AreSeen cluster items steps moments (look ∷ looks) (seen ∷ seens) =
    IsSeen cluster items steps moments look seen × AreSeen cluster items steps moments looks seens
