-- A journal with a group of payloads that is staged for it, as contracts see it.
use Rattle.std.specs.Prelude.{ℕ, Bool, List}

pub record StagedState (D : Type 0) : Type 0 where
  -- the disk under it
  pub disk : D
  -- the payloads that the journal stands for
  pub payloads : List (List ℕ)
  -- the payloads that are staged
  pub group : List (List ℕ)
  -- whether a call of the disk failed or found no memory
  pub broken : Bool
