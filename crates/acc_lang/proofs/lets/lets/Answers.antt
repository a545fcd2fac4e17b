use Rattle.std.proofs.Common.{◌≡◌, ◌<◌, ◌+◌, length, true, codes, sym, subst, ◌∙◌, arith}
use Rattle.acc_token.specs.Tokens.{token_at, says_word}
use Rattle.acc_lang.specs.Answer.{Fails}
use Rattle.acc_lang.specs.Reading.{one_let, more_lets}
use Rattle.acc_lang.proofs.Looping.{handed_on, below, one_more}
use Rattle.acc_lang.proofs.Repeating.{ended, continued, failed}
use Rattle.acc_lang.proofs.lets.lets.Goals as goal

pub returns-in_err-next-clause-lets : goal.returns-in_err-next-clause-lets
unfolding more_lets
returns-in_err-next-clause-lets c =
    let begins : says_word (codes "let") (token_at c.lets.cursor.rest.now) ≡ true = cc in
    handed_on _ _ _ _ _ c.from_residual.ensures.1
    (subst (Fails c.in_err-next.field-0.0) c.lets.invariant.goes_on
    (failed (says_word (codes "let")) (one_let c.args.texts) 16 (length c.lets.lets) (c.lets.lets, c.lets.uses) c.lets.cursor.rest.now c.in_err-next.field-0.0
    begins c.lets.invariant.few (rw (c.len-extra.ensures, c.as_slice.ensures) at c.in_err-next.ensures.next)))

pub lets-preserved : goal.lets-preserved
lets-preserved c =
    let begins : says_word (codes "let") (token_at c.lets.cursor.rest.now) ≡ true = cc in
    let few : length c.lets.lets < 16 = below _ 16 c.lets.invariant.few (rw c.len-extra.ensures at c.in_ok-next.ensures.room) in
    let more : length c.push.new.list ≡ length c.lets.lets + 1 = one_more c.lets.lets c.push.new.list c.in_ok-next.next c.in_ok-push.ensures.ok in
    record {
      goes_on =
          sym
          (continued (says_word (codes "let")) (one_let c.args.texts) 16 (length c.lets.lets) (c.lets.lets, c.lets.uses) c.lets.cursor.rest.now
          ((c.push.new.list, c.one_let.new.uses), c.one_let.new.cursor.rest.now) (length c.push.new.list) begins few more
          (cc (c.in_ok-next.ensures.next, c.in_ok-next.ensures.room, c.in_ok-push.ensures.ok)))
          ∙ c.lets.invariant.goes_on;
      few = omega arith;
    }

pub returns-clause-lets : goal.returns-clause-lets
unfolding more_lets
returns-clause-lets c =
    rw (sym c.fitted.ensures) at
    (sym c.lets.invariant.goes_on ∙ ended (says_word (codes "let")) (one_let c.args.texts) 16 (length c.lets.lets) (c.lets.lets, c.lets.uses) c.lets.cursor.rest.now cc)
