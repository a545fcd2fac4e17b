use Rattle.std.proofs.Common.{◌≡◌, ◌<◌, ◌+◌, length, true, sym, subst, ◌∙◌, arith}
use Rattle.acc_token.specs.Tokens.{token_at}
use Rattle.acc_lang.specs.Answer.{Fails}
use Rattle.acc_lang.specs.Reading.{is_sign, one_part, more_parts}
use Rattle.acc_lang.proofs.Looping.{handed_on, below, one_more}
use Rattle.acc_lang.proofs.Repeating.{ended, continued, failed}
use Rattle.acc_lang.proofs.sums.more_parts.Goals as goal

pub returns-in_err-next : goal.returns-in_err-next
unfolding more_parts
returns-in_err-next c =
    let begins : is_sign (token_at c.parts.cursor.rest.now) ≡ true = cc in
    handed_on _ _ _ _ _ c.from_residual-in_err-next.ensures.1
    (subst (Fails c.in_err-next.field-0.0) c.parts.invariant.goes_on
    (failed is_sign (one_part c.args.texts c.args.lets.now) 16 (length c.parts.sum) c.parts.sum c.parts.cursor.rest.now c.in_err-next.field-0.0
    begins c.parts.invariant.few (rw c.len-extra.ensures at c.in_err-next.ensures.next c.parts.sum)))

pub parts-preserved : goal.parts-preserved
parts-preserved c =
    let begins : is_sign (token_at c.parts.cursor.rest.now) ≡ true = cc in
    let few : length c.parts.sum < 16 = below _ 16 c.parts.invariant.few (rw c.len-extra.ensures at c.in_ok-next.ensures.room) in
    let more : length c.push.new.self ≡ length c.parts.sum + 1 = one_more c.parts.sum c.push.new.self c.in_ok-next.next c.in_ok-push.ensures.ok in
    record {
      goes_on =
          sym
          (continued is_sign (one_part c.args.texts c.args.lets.now) 16 (length c.parts.sum) c.parts.sum c.parts.cursor.rest.now
          (c.push.new.self, c.one_part.new.cursor.rest.now) (length c.push.new.self) begins few more
          (cc (c.in_ok-next.ensures.next c.parts.sum, c.in_ok-next.ensures.room, c.in_ok-push.ensures.ok)))
          ∙ c.parts.invariant.goes_on;
      few = omega arith;
    }

pub returns : goal.returns
unfolding more_parts
returns c =
    rw (sym c.fitted.ensures) at
    (sym c.parts.invariant.goes_on ∙ ended is_sign (one_part c.args.texts c.args.lets.now) 16 (length c.parts.sum) c.parts.sum c.parts.cursor.rest.now cc)
