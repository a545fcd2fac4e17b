-- Two keys are equal where their texts and their tables are.
use Rattle.acc_value.proofs.KeyOrder.{key_eq-then, key_eq-else}
use Rattle.acc_value.proofs.key.KeyPartialEq.eq.Goals as goal

pub returns-then-eq : goal.returns-then-eq
returns-then-eq c = key_eq-then c.args.self.now c.args.other.now _ _ c.eq.ensures c.if-eq.true c.eq-then-eq.ensures

pub returns-else-eq : goal.returns-else-eq
returns-else-eq c = key_eq-else c.args.self.now c.args.other.now _ c.eq.ensures c.if-eq.false
