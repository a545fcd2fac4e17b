-- A source over a reader or a sink over a writer, as contracts see it.
use Rattle.std.specs.Prelude.{ℕ, List}

pub record StdPort (R : Type 0) : Type 0 where
  -- the reader or writer
  pub inner : R
  -- how many bytes each call moved, in their order and without the calls that failed
  pub moved : List ℕ
  -- how many of its calls failed
  pub faults : ℕ
