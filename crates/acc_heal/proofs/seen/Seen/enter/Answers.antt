-- The tables are those of one item more.
use Rattle.std.proofs.Common.{◌++◌, map, ◌∙◌, ap}
use Rattle.acc_message.specs.Shown.{with_sent}
use Rattle.acc_heal.specs.Applies.{applied_by}
use Rattle.acc_heal.proofs.SeenFacts.{one_item}
use Rattle.acc_heal.proofs.seen.Seen.enter.Goals as goal

pub returns : goal.returns
returns c = λ earlier told out_is tells.
    one_item c.args.self.now _ (with_sent c.args.item told) earlier c.in_ok-self.ensures
    (c.in_ok-extend.ensures ∙ ap (λ out. c.args.self.now.applies ++ map applied_by out) out_is) (c.in_ok-enter_step.ensures.taken told) (c.in_ok-enter_step.ensures.ended told) tells
