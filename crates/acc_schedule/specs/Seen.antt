-- JSON values, and what the steps of a schedule may speak of, as the reader has them.
use Rattle.std.specs.Prelude.{Option, option_map}
use Rattle.std.specs.Borrow.{Bor}
use Rattle.serde_json.specs.Data.{Data}
use Rattle.serde_json.specs.View.{view}
use Rattle.serde_json.specs.declared.value.Value.{Value}
use Rattle.acc_topology.specs.Sets.{in_set}
use Rattle.acc_schedule.specs.declared.cast.Cast.{Cast as Held}
use Rattle.acc_schedule.specs.Actors.{at_name}
use Rattle.acc_schedule.specs.Steps.{Cast}

abbrev pub seen : Held → Cast
seen cast = record { names = cast.names.now; is_node = in_set cast.nodes; actor = at_name cast.actors }

-- the data of a value that may be there
abbrev pub seen_value : Option (Bor Value) → Option Data
seen_value value = option_map (λ v. view v.now) value
