use Rattle.std.proofs.Common.{ap, codes, ◌∙◌}
use Rattle.serde_json.specs.Find.{get}
use Rattle.serde_json.specs.View.{view}
use Rattle.acc_schedule.specs.Apart.{without}
use Rattle.acc_schedule.specs.Document.{root_of}
use Rattle.acc_schedule.specs.Seen.{seen_value}
use Rattle.acc_schedule.proofs.ApartFacts.{same_root}
use Rattle.acc_schedule.proofs.PlanFacts.{answered}
use Rattle.acc_schedule.proofs.document.read_value.Goals as goal

pub returns : goal.returns
returns c =
    let d = view c.args.root.now in
    let seen = without c.args.apart.now d in
    let none = c.in_ok-object_without.ensures.0 in
    let same = ap (root_of d) c.print_without.ensures ∙ same_root c.args.apart.now d (get (codes "print") seen) none in
    let a = answered seen (root_of d (seen_value c.print_without.result)) c.plan_in.result none same c.plan_in.ensures.plan c.plan_in.ensures.sound in
    record { plan = a.plan; sound = a.sound; built = a.built }
