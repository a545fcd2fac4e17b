use Rattle.std.proofs.Common.{◌∙◌}
use Rattle.acc_execute.proofs.Lists.{left_same, left_fits}
use Rattle.acc_execute.proofs.waits.change_lists.Goals as goal

pub loop-id-preserved : goal.loop-id-preserved
loop-id-preserved c =
    let id = c.in-Some.id in
    let change = c.in-Some.change in
    record {
      same =
          λ y. left_same c.loop-id.left c.pop_first.new.self c.loop-id.waits c.change_list_of.new.waits id change c.in-Some.ensures.value c.in-Some.ensures.updates.0 c.change_list_of.ensures.changed
          c.change_list_of.ensures.others y
          ∙ c.loop-id.invariant.same y;
      fits =
          left_fits c.loop-id.left c.pop_first.new.self c.loop-id.waits c.change_list_of.new.waits id change c.in-Some.ensures.value c.in-Some.ensures.updates.0 c.change_list_of.ensures.changed
          c.change_list_of.ensures.others c.loop-id.invariant.fits;
    }
