use Rattle.std.proofs.Common.{◌≡◌, ◌<◌, ◌+◌, length, true, false, Ok, sym, subst, ◌∙◌, arith}
use Rattle.acc_token.specs.Tokens.{token_at}
use Rattle.acc_lang.specs.Answer.{Fails}
use Rattle.acc_lang.specs.Reading.{begins_update, update, one_update, more_updates}
use Rattle.acc_lang.proofs.Looping.{handed_on, below, one_more}
use Rattle.acc_lang.proofs.Repeating.{ended, continued, failed}
use Rattle.acc_lang.proofs.Taking.{fails_on}
use Rattle.acc_lang.proofs.changes.more_updates.Goals as goal

pub returns-in_err-next : goal.returns-in_err-next
unfolding more_updates one_update
returns-in_err-next c =
    let begins : begins_update (token_at c.updates.cursor.rest.now) ≡ true = cc in
    handed_on _ _ _ _ _ c.from_residual.ensures.1
    (subst (Fails c.in_err-next.field-0.0) c.updates.invariant.goes_on
    (failed begins_update (one_update c.args.texts c.args.lets.now) 16 (length c.updates.all) (c.updates.all, c.updates.uses) c.updates.cursor.rest.now c.in_err-next.field-0.0
    begins c.updates.invariant.few (fails_on _ _ _ (rw c.len-extra.ensures at c.in_err-next.ensures.update))))

pub updates-preserved : goal.updates-preserved
unfolding one_update
updates-preserved c =
    let begins : begins_update (token_at c.updates.cursor.rest.now) ≡ true = cc in
    let few : length c.updates.all < 16 = below _ 16 c.updates.invariant.few (rw c.len-extra.ensures at c.in_ok-next.ensures.room) in
    let more : length c.push.new.list ≡ length c.updates.all + 1 = one_more c.updates.all c.push.new.list c.in_ok-next.next c.in_ok-push.ensures.ok in
    let read : update c.args.texts false c.updates.uses c.args.lets.now c.updates.cursor.rest.now ≡ Ok (c.in_ok-next.next, c.update.new.cursor.rest.now) =
    cc (c.in_ok-next.ensures.update, c.in_ok-next.ensures.room) in
    record {
      goes_on =
          sym
          (continued begins_update (one_update c.args.texts c.args.lets.now) 16 (length c.updates.all) (c.updates.all, c.updates.uses) c.updates.cursor.rest.now
          ((c.push.new.list, c.update.new.uses), c.update.new.cursor.rest.now) (length c.push.new.list) begins few more
          (rw read (cc (c.in_ok-next.ensures.uses, c.in_ok-push.ensures.ok))))
          ∙ c.updates.invariant.goes_on;
      few = omega arith;
    }

pub returns : goal.returns
unfolding more_updates
returns c =
    rw (sym c.fitted.ensures) at
    (sym c.updates.invariant.goes_on
    ∙ ended begins_update (one_update c.args.texts c.args.lets.now) 16 (length c.updates.all) (c.updates.all, c.updates.uses) c.updates.cursor.rest.now cc)
