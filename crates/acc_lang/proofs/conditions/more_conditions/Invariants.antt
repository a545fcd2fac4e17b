-- What is left goes on from what was read so far.
use Rattle.std.proofs.Common.{◌≡◌, ◌≤◌, ◌-◌, length, [], ◌∷◌, codes}
use Rattle.acc_token.specs.Tokens.{says_word}
use Rattle.acc_lang.specs.Reading.{each, one_condition}
use Rattle.acc_lang.proofs.conditions.more_conditions.Given as goal

abbrev pub invariant-conditions : goal.invariant-conditions
invariant-conditions l = record {
  goes_on :
      each (says_word (codes "and")) (one_condition l.texts l.lets) (16 - length l.all) l.all l.cursor.rest.now
      ≡ each (says_word (codes "and")) (one_condition l.texts l.lets) 15 (l.fn.first ∷ []) l.initial.cursor.rest.now;
  few : length l.all ≤ 16;
}

abbrev pub decreases-conditions : goal.decreases-conditions
decreases-conditions l = 16 - length l.all
