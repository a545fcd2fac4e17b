-- What is left goes on from what was read so far.
use Rattle.std.proofs.Common.{◌≡◌, ◌≤◌, ◌-◌, length}
use Rattle.acc_lang.specs.Reading.{begins_update, each, one_update}
use Rattle.acc_lang.proofs.changes.more_updates.Given as goal

abbrev pub invariant-updates : goal.invariant-updates
invariant-updates l = record {
  goes_on :
      each begins_update (one_update l.texts l.lets) (16 - length l.all) (l.all, l.uses) l.cursor.rest.now
      ≡ each begins_update (one_update l.texts l.lets) (16 - length l.initial.all) (l.initial.all, l.initial.uses) l.initial.cursor.rest.now;
  few : length l.all ≤ 16;
}

abbrev pub decreases-updates : goal.decreases-updates
decreases-updates l = 16 - length l.all
