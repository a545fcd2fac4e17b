use Rattle.std.proofs.Common.{not, sym, ◌∙◌, ap}
use Rattle.std.specs.List.{slice_get}
use Rattle.std.specs.Option.{option_copied}
use Rattle.acc_message.specs.Shares.{stores_used}
use Rattle.acc_schedule.specs.Content.{Content}
use Rattle.acc_schedule_runs.specs.Schedules.{cluster_of}
use Rattle.acc_heal.proofs.LackingFacts.{told}
use Rattle.acc_heal.proofs.lacking.is_lacking.Goals as goal

pub returns : goal.returns
returns c = λ items tells.
    let plan = c.args.plan.now in
    let body = c.in-Some.body.now in
    ap not
    (c.all_took.ensures
    ∙ sym
    (told (cluster_of plan) c.args.id (slice_get plan.bodies c.args.txn) body (sym c.body_of.ensures ∙ ap option_copied c.in-Some.is) c.args.seen.now
    c.as_slice-listed.result.now
    (c.as_slice-listed.ensures ∙ c.in_ok-stores.ensures ∙ ap (λ (p : Content). stores_used p.topology body) c.plan.view_is) items tells))
