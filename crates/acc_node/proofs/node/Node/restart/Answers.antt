use Rattle.std.proofs.Common.{List, refl, ap}
use Rattle.std.specs.Map.{lookup}
use Rattle.std.specs.BTreeMap.{is_at}
use Rattle.acc_stamp.specs.Stamp.{id_cmp}
use Rattle.acc_node.proofs.Standing.{restarts_stands}
use Rattle.acc_node.proofs.node.Node.restart.Goals as goal

pub returns : goal.returns
returns c = λ layout number start acts s.
    restarts_stands layout number start acts c.args.self.now _ c.restart.ensures (λ t. refl)
    (λ y. ap (lookup (is_at (id_cmp y))) c.clear-2.ensures.empty) (λ y. ap (lookup (is_at (id_cmp y))) c.clear.ensures.empty) s
