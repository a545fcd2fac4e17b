use Rattle.std.proofs.Common.{◌≡◌, ◌<◌, ◌+◌, length, true, codes, sym, subst, ◌∙◌, arith}
use Rattle.acc_token.specs.Tokens.{token_at, says_word}
use Rattle.acc_lang.specs.Answer.{Fails}
use Rattle.acc_lang.specs.Reading.{one_condition, more_conditions}
use Rattle.acc_lang.proofs.Looping.{handed_on, below, one_more}
use Rattle.acc_lang.proofs.Repeating.{ended, continued, failed}
use Rattle.acc_lang.proofs.conditions.more_conditions.Goals as goal

pub returns-in_err-next : goal.returns-in_err-next
unfolding more_conditions
returns-in_err-next c =
    let begins : says_word (codes "and") (token_at c.conditions.cursor.rest.now) ≡ true = cc in
    handed_on _ _ _ _ _ c.from_residual-in_err-next.ensures.1
    (subst (Fails c.in_err-next.field-0.0) c.conditions.invariant.goes_on
    (failed (says_word (codes "and")) (one_condition c.args.texts c.args.lets.now) 16 (length c.conditions.all) c.conditions.all c.conditions.cursor.rest.now c.in_err-next.field-0.0
    begins c.conditions.invariant.few (rw c.len-extra.ensures at c.in_err-next.ensures.next c.conditions.all)))

pub conditions-preserved : goal.conditions-preserved
conditions-preserved c =
    let begins : says_word (codes "and") (token_at c.conditions.cursor.rest.now) ≡ true = cc in
    let few : length c.conditions.all < 16 = below _ 16 c.conditions.invariant.few (rw c.len-extra.ensures at c.in_ok-next.ensures.room) in
    let more : length c.push.new.self ≡ length c.conditions.all + 1 = one_more c.conditions.all c.push.new.self c.in_ok-next.next c.in_ok-push.ensures.ok in
    record {
      goes_on =
          sym
          (continued (says_word (codes "and")) (one_condition c.args.texts c.args.lets.now) 16 (length c.conditions.all) c.conditions.all c.conditions.cursor.rest.now
          (c.push.new.self, c.one_condition.new.cursor.rest.now) (length c.push.new.self) begins few more
          (cc (c.in_ok-next.ensures.next c.conditions.all, c.in_ok-next.ensures.room, c.in_ok-push.ensures.ok)))
          ∙ c.conditions.invariant.goes_on;
      few = omega arith;
    }

pub returns : goal.returns
unfolding more_conditions
returns c =
    rw (sym c.fitted.ensures) at
    (sym c.conditions.invariant.goes_on ∙ ended (says_word (codes "and")) (one_condition c.args.texts c.args.lets.now) 16 (length c.conditions.all) c.conditions.all c.conditions.cursor.rest.now cc)
