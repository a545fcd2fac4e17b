use Rattle.std.proofs.Common.{refl, sym, ◌∙◌}
use Rattle.acc_free_laws.specs.FreeRun.{alone}
use Rattle.acc_desk.specs.Desks.{newest}
use Rattle.acc_desk.proofs.desk.Desk.message.Goals as goal

pub group-requires-clause-kind : goal.group-requires-clause-kind
group-requires-clause-kind g c =
    let self = c.args.self.now in
    let at = c.requires.desk.at in
    c.is_store.ensures.store c.if-is_store.true c.args.plan.now (alone (newest self.seat) at.stopped) self.actor at.stands

pub group-requires-clause-up : goal.group-requires-clause-up
group-requires-clause-up g c = sym (c.is_down.ensures c.args.plan.now c.args.tape.now c.requires.desk) ∙ c.if-is_down.false

pub returns-then-is_down-clause-up : goal.returns-then-is_down-clause-up
returns-then-is_down-clause-up g c = λ some. absurd (some refl)

pub returns-then-not-has_mail-clause-up : goal.returns-then-not-has_mail-clause-up
returns-then-not-has_mail-clause-up g c = λ some. absurd (some refl)

pub returns-then-is_store-clause-up : goal.returns-then-is_store-clause-up
returns-then-is_store-clause-up g c = λ some. sym (c.is_down.ensures c.args.plan.now c.args.tape.now c.requires.desk) ∙ c.if-is_down.false

pub returns-else-is_store-clause-up : goal.returns-else-is_store-clause-up
returns-else-is_store-clause-up g c = λ some. sym (c.is_down.ensures c.args.plan.now c.args.tape.now c.requires.desk) ∙ c.if-is_down.false
