-- The keys of the LETs so far were added.
use Rattle.std.proofs.Common.{◌≡◌, false, map, take}
use Rattle.acc_txn.specs.Uses.{with_keys}
use Rattle.acc_txn.proofs.uses.add_lets.Given as goal

abbrev pub invariant-loop-binding : goal.invariant-loop-binding
invariant-loop-binding l = l.uses ≡ with_keys false l.fn.uses (map (λ b. b.key) (take l.binding-index l.lets))
