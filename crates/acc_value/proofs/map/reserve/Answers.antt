-- The entry of a number is reserved; a write of null needs none.
use Rattle.std.proofs.Common.{sym, subst, refl, take, ◌+◌}
use Rattle.acc_value.proofs.EntryFacts.{Made, made_step, has_made, needs_none}
use Rattle.acc_value.proofs.map.reserve.Goals as goal
use Rattle.acc_value.proofs.map.reserve.Goals.{then-is_some+in_ok-reserve_entry, else-is_some}

pub loop-key-preserved : goal.loop-key-preserved
loop-key-preserved c =
    elim c.if-is_some.branch [
      | then-is_some+in_ok-reserve_entry w ↦
          subst (λ entries. Made c.args.entries.now entries (take (c.loop-key.key-index + 1) c.args.writes.now)) (sym w.entries-is)
          (made_step c.args.entries.now c.loop-key.entries w.reserve_entry.new.entries c.args.writes.now c.loop-key.key-index c.loop-key-item.result
          c.loop-key-test.true c.loop-key-item.is w.reserve_entry.ensures.same w.reserve_entry.ensures.kept (has_made _ _ w.in_ok-reserve_entry.ensures.made) c.loop-key.invariant)
      | else-is_some w ↦
          subst (λ entries. Made c.args.entries.now entries (take (c.loop-key.key-index + 1) c.args.writes.now)) (sym w.entries-is)
          (made_step c.args.entries.now c.loop-key.entries c.loop-key.entries c.args.writes.now c.loop-key.key-index c.loop-key-item.result
          c.loop-key-test.true c.loop-key-item.is (λ q. refl) (λ q h. h) (needs_none c.loop-key-item.result.1 _ _ w.if-is_some.false c.is_some.ensures) c.loop-key.invariant)
    ]
