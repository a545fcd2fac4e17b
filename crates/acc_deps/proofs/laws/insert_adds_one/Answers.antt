use Rattle.acc_deps.proofs.ByShard.{AreDeps-with_id, deps_has-with}
use Rattle.acc_deps.proofs.laws.insert_adds_one.Goals as goal

pub returns-clause-stands : goal.returns-clause-stands
returns-clause-stands c deps shard id = AreDeps-with_id shard id deps

pub returns-clause-has : goal.returns-clause-has
returns-clause-has c = deps_has-with
