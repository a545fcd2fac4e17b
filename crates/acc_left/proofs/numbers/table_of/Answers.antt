use Rattle.std.proofs.Common.{ℕ, List, subst, sym}
use Rattle.acc_stamp.specs.declared.stamps.TxnId.{TxnId}
use Rattle.acc_left.specs.Told.{ListsBegins}
use Rattle.acc_left.proofs.RollFacts.{begins_put, is_begun}
use Rattle.acc_left.proofs.numbers.table_of.Goals as goal

pub loop-begin-preserved : goal.loop-begin-preserved
loop-begin-preserved c =
    begins_put c.args.drawn.now.draws c.loop-begin.entries.items c.put.new.entries.items c.place-place.result _ c.put.ensures
    (is_begun c.args.drawn.now.draws c.deref-begin-items.result.now c.loop-begin.begin-index _
    (subst (λ (l : List (TxnId × ℕ)). ListsBegins c.args.drawn.now.draws l) (sym c.deref-begin-items.ensures.value) c.in_ok-begins.ensures) c.loop-begin-test.true) c.loop-begin.invariant
