-- The dependencies that the owners of a content share.
use Rattle.std.specs.Prelude.{List, [], ◌∷◌}
use Rattle.std.specs.Arc.{arc_value}
use Rattle.acc_deps.specs.declared.shards.ShardDeps.{ShardDeps}
use Rattle.acc_deps.specs.declared.content.Content.{Content}
use Rattle.acc_deps.specs.declared.content.Content.TheVariants.{Nothing, One, List as Listed}

abbrev pub held : Content → List ShardDeps
held Nothing = []
held (One only) = arc_value only ∷ []
held (Listed shards) = (arc_value shards).items
