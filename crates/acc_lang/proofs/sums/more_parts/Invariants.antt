-- What is left goes on from what was read so far.
use Rattle.std.proofs.Common.{◌≡◌, ◌≤◌, ◌-◌, length, [], ◌∷◌, false}
use Rattle.acc_lang.specs.Reading.{is_sign, each, one_part, part_of}
use Rattle.acc_lang.proofs.sums.more_parts.Given as goal

abbrev pub invariant-parts : goal.invariant-parts
invariant-parts l = record {
  goes_on :
      each is_sign (one_part l.texts l.lets) (16 - length l.sum) l.sum l.cursor.rest.now
      ≡ each is_sign (one_part l.texts l.lets) 15 (part_of false l.fn.first ∷ []) l.initial.cursor.rest.now;
  few : length l.sum ≤ 16;
}

abbrev pub decreases-parts : goal.decreases-parts
decreases-parts l = 16 - length l.sum
