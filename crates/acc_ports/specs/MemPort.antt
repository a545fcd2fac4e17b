-- A source or a sink over memory, as contracts see it.
use Rattle.std.specs.Prelude.{ℕ, List, [], ◌∷◌, ◌++◌}
use Rattle.acc_ports.specs.Faults.{next_count}

pub record MemPort : Type 0 where
  -- the bytes that a source has left, or that a sink was given
  pub bytes : List ℕ
  -- how many bytes a call moves at most
  pub piece : ℕ
  -- how many bytes each call moved, in their order and without the calls that failed
  pub moved : List ℕ
  -- the numbers of the calls that fail
  pub fails : List ℕ
  -- the number of the next call: how many there were
  pub calls : ℕ
  -- how many of them failed
  pub faults : ℕ

-- after a call that moved so many bytes and left these
abbrev pub passed : MemPort → ℕ → List ℕ → MemPort
passed port count bytes = record port { bytes = bytes; moved = port.moved ++ count ∷ []; calls = next_count port.calls }

-- after a call that failed
abbrev pub failed : MemPort → MemPort
failed port = record port { calls = next_count port.calls; faults = next_count port.faults }
