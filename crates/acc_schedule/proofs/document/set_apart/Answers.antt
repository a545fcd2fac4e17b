use Rattle.std.proofs.Common.{codes, refl}
use Rattle.acc_schedule.proofs.RootFacts.{same_get, taken_root}
use Rattle.acc_schedule.proofs.document.set_apart.Goals as goal

pub returns-in-Object-clause-root : goal.returns-in-Object-clause-root
returns-in-Object-clause-root c = λ print.
    rw c.in-Object.is
    (taken_root c.in-Object.fields c.remove-txns.new.self c.remove-txns.ensures.entries c.remove-txns.result print c.remove-txns.ensures.value c.remove-txns.ensures.updates.1)

pub returns-in-Object-clause-print : goal.returns-in-Object-clause-print
returns-in-Object-clause-print c = rw c.in-Object.is (same_get c.in-Object.fields c.remove-txns.new.self c.remove-txns.ensures.entries (codes "print") refl)
