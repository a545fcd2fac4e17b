-- What is left goes on from what was read so far.
use Rattle.std.proofs.Common.{◌≡◌, ◌≤◌, ◌-◌, length, [], ◌∷◌, codes}
use Rattle.acc_token.specs.Tokens.{says_mark}
use Rattle.acc_lang.specs.Reading.{each, one_item}
use Rattle.acc_lang.proofs.selects.more_items.Given as goal

abbrev pub invariant-items : goal.invariant-items
invariant-items l = record {
  goes_on :
      each (says_mark (codes ",")) (one_item l.texts l.lets) (16 - length l.names) l.names l.cursor.rest.now
      ≡ each (says_mark (codes ",")) (one_item l.texts l.lets) 15 (l.first ∷ []) l.initial.cursor.rest.now;
  few : length l.names ≤ 16;
}

abbrev pub decreases-items : goal.decreases-items
decreases-items l = 16 - length l.names
