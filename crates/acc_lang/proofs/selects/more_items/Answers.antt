use Rattle.std.proofs.Common.{◌≡◌, ◌<◌, ◌+◌, length, true, codes, sym, subst, ◌∙◌, arith}
use Rattle.acc_token.specs.Tokens.{token_at, says_mark}
use Rattle.acc_lang.specs.Answer.{Fails}
use Rattle.acc_lang.specs.Reading.{one_item, more_items}
use Rattle.acc_lang.proofs.Looping.{handed_on, below, one_more}
use Rattle.acc_lang.proofs.Repeating.{ended, continued, failed}
use Rattle.acc_lang.proofs.selects.more_items.Goals as goal

pub returns-in_err-next : goal.returns-in_err-next
unfolding more_items
returns-in_err-next c =
    let begins : says_mark (codes ",") (token_at c.items.cursor.rest.now) ≡ true = cc in
    handed_on _ _ _ _ _ c.from_residual-in_err-next.ensures.1
    (subst (Fails c.in_err-next.field-0.0) c.items.invariant.goes_on
    (failed (says_mark (codes ",")) (one_item c.args.texts c.args.lets.now) 16 (length c.items.names) c.items.names c.items.cursor.rest.now c.in_err-next.field-0.0
    begins c.items.invariant.few (rw c.len-extra.ensures at c.in_err-next.ensures.next c.items.names)))

pub items-preserved : goal.items-preserved
items-preserved c =
    let begins : says_mark (codes ",") (token_at c.items.cursor.rest.now) ≡ true = cc in
    let few : length c.items.names < 16 = below _ 16 c.items.invariant.few (rw c.len-extra.ensures at c.in_ok-next.ensures.room) in
    let more : length c.push.new.self ≡ length c.items.names + 1 = one_more c.items.names c.push.new.self c.in_ok-next.next c.in_ok-push.ensures.ok in
    record {
      goes_on =
          sym
          (continued (says_mark (codes ",")) (one_item c.args.texts c.args.lets.now) 16 (length c.items.names) c.items.names c.items.cursor.rest.now
          (c.push.new.self, c.one_item.new.cursor.rest.now) (length c.push.new.self) begins few more
          (cc (c.in_ok-next.ensures.next c.items.names, c.in_ok-next.ensures.room, c.in_ok-push.ensures.ok)))
          ∙ c.items.invariant.goes_on;
      few = omega arith;
    }

pub returns : goal.returns
unfolding more_items
returns c =
    sym c.items.invariant.goes_on ∙ ended (says_mark (codes ",")) (one_item c.args.texts c.args.lets.now) 16 (length c.items.names) c.items.names c.items.cursor.rest.now cc
