-- A safe run: the rules allow it, and Agreement, Coverage and Serial outcomes hold of it.
use Rattle.std.specs.Prelude.{List}
use Rattle.acc_message.specs.declared.item.Item.{Item}
use Rattle.acc_message.specs.Run.{Cluster, IsRun}
use Rattle.acc_safety.specs.Agreement.{Agreement}
use Rattle.acc_safety.specs.Coverage.{Coverage}
use Rattle.acc_safety.specs.SerialOutcomes.{SerialOutcomes}

pub record IsSafeRun (cluster : Cluster) (items : List Item) : Type 0 where
  pub run : IsRun cluster items
  pub agreement : Agreement items
  pub coverage : Coverage cluster items
  pub serial_outcomes : SerialOutcomes cluster items
