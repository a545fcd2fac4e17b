use Rattle.std.proofs.Common.{ℕ}
use Rattle.acc_topology.specs.Layout.{Layout}
use Rattle.acc_txn.specs.declared.parts.BodyParts.{BodyParts}
use Rattle.acc_txn.specs.Uses.{footprint_of}
use Rattle.acc_audit_laws.proofs.Conflicts.{some_clash, whole_clash}
use Rattle.acc_audit_laws.proofs.laws.conflicts_lie_in_shards.Goals as goal

pub returns-clause-some : goal.returns-clause-some
returns-clause-some c = λ (layout : Layout) (a b : BodyParts) clash. some_clash layout (footprint_of a) (footprint_of b) clash

pub returns-clause-whole : goal.returns-clause-whole
returns-clause-whole c = λ (layout : Layout) (shard : ℕ) (a b : BodyParts) clash. whole_clash layout shard (footprint_of a) (footprint_of b) clash
