-- What a source and a sink tell of themselves.
use Rattle.std.specs.Prelude.{ℕ, List, Option}
use Rattle.acc_ports.specs.declared.source.Source.{Ghosts as SourceGhosts}
use Rattle.acc_ports.specs.declared.sink.Sink.{Ghosts as SinkGhosts}

pub record Streams : Type 0 where
  -- the bytes that the source has left
  pub left : Option (List ℕ)
  -- how many bytes each of its reads gave
  pub reads : Option (List ℕ)
  -- how often it failed
  pub read_faults : ℕ
  -- the bytes that the sink holds
  pub written : Option (List ℕ)
  -- how often it failed
  pub write_faults : ℕ

abbrev pub streams_of : {S K : Type 0} → SourceGhosts S → SinkGhosts K → S → K → Streams
streams_of from to source sink = record {
  left = from.left source;
  reads = from.reads source;
  read_faults = from.faults source;
  written = to.written sink;
  write_faults = to.faults sink;
}
