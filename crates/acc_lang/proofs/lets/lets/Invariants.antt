-- What is left goes on from what was read so far.
use Rattle.std.proofs.Common.{◌≡◌, ◌≤◌, ◌-◌, length, [], codes}
use Rattle.acc_token.specs.Tokens.{says_word}
use Rattle.acc_lang.specs.Reading.{each, one_let}
use Rattle.acc_lang.proofs.lets.lets.Given as goal

abbrev pub invariant-lets : goal.invariant-lets
invariant-lets l = record {
  goes_on :
      each (says_word (codes "let")) (one_let l.texts) (16 - length l.lets) (l.lets, l.uses) l.cursor.rest.now
      ≡ each (says_word (codes "let")) (one_let l.texts) 16 ([], l.initial.uses) l.initial.cursor.rest.now;
  few : length l.lets ≤ 16;
}

abbrev pub decreases-lets : goal.decreases-lets
decreases-lets l = 16 - length l.lets
