use Rattle.std.proofs.Common.{◌≡◌, ◌&&◌, nat_eq, refl, ap}
use Rattle.std.specs.Bool.{Decides}
use Rattle.std.specs.Cmp.Lexicographic.{pointwise}
use Rattle.std.proofs.lemmas.Bool.Decides.{Decides-and, Decides-eqb, Decides-like}
use Rattle.std.proofs.lemmas.Slice.Eq.{slice_eq-Decides}
use Rattle.acc_stamp.specs.Stamp.{id_eq}
use Rattle.acc_stamp.proofs.Order.{id_order}
use Rattle.acc_deps.specs.declared.shards.ShardDeps.{ShardDeps}
use Rattle.acc_deps.proofs.ByShard.{same_from_has, same_shard}
use Rattle.acc_deps.proofs.laws.dependencies_are_sets.Goals as goal

shard_eq-Decides : (d e : ShardDeps) → Decides (nat_eq d.shard e.shard && pointwise id_eq d.ids e.ids) (d ≡ e)
shard_eq-Decides d e = Decides-like _ (λ h. same_shard d e h.0 h.1) (λ p. (ap (λ x. x.shard) p, ap (λ x. x.ids) p)) (Decides-and _ _ (Decides-eqb d.shard e.shard) (slice_eq-Decides id_order.decides d.ids e.ids _ refl))

pub returns-clause-same : goal.returns-clause-same
returns-clause-same c = same_from_has

pub returns-clause-eq : goal.returns-clause-eq
returns-clause-eq c deps others = slice_eq-Decides shard_eq-Decides deps others _ refl
