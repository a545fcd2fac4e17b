-- Records that hold nothing back any more.
use Rattle.std.specs.Prelude.{Bool, ◌&&◌, is_some}
use Rattle.acc_record.specs.declared.record.Record.{Record}

-- stable and applied
abbrev pub is_over : Record → Bool
is_over r = is_some r.stable && r.applied
