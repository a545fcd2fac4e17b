-- How a ruling is answered.
use Rattle.std.specs.Prelude.{List}
use Rattle.acc_stamp.specs.declared.stamps.Stamp.{Stamp}
use Rattle.acc_deps.specs.declared.shards.ShardDeps.{ShardDeps}
use Rattle.acc_deps.specs.declared.records.Choice.TheVariants.{Accept as GoAccept}
use Rattle.acc_message.specs.RecoveryDecision.{Ruling, Go, Blocks}
use Rattle.acc_recover.specs.declared.judged.Judged.{Judged}
use Rattle.acc_recover.specs.declared.judged.Judged.TheVariants.{Go as JudgedGo, Blocked}

abbrev pub judged_of : Ruling → Judged
judged_of (Go choice) = JudgedGo choice
judged_of (Blocks by) = Blocked by

-- a timestamp and dependencies are proposed again
abbrev pub proposes : Stamp → List ShardDeps → Ruling
proposes t deps = Go (GoAccept (record { t = t; deps = deps }))
