use Rattle.std.proofs.Common.{ℕ, List, [], ◌∷◌, codes, sym, ap, ◌∙◌}
use Rattle.serde_json.specs.View.{view}
use Rattle.acc_schedule.specs.Document.{root_of}
use Rattle.acc_schedule.specs.Fields.{object_fault}
use Rattle.acc_schedule.specs.Seen.{seen_value}
use Rattle.acc_schedule.proofs.PlanFacts.{answered}
use Rattle.acc_schedule.proofs.document.read_plan.Goals as goal

pub returns : goal.returns
returns c =
    let d = view c.args.root.now in
    let fine = ap (λ (needed : List (List ℕ)). object_fault needed (codes "print" ∷ []) [] d) (sym c.needed.ensures) ∙ c.in_ok-object.ensures.0 in
    let a = answered d (root_of d (seen_value c.get.result)) c.plan_in.result fine (ap (root_of d) c.get.ensures) c.plan_in.ensures.plan c.plan_in.ensures.sound in
    record { plan = a.plan; sound = a.sound; built = a.built }
