use Rattle.std.proofs.Common.{ℕ, List, [], ◌∷◌, codes, option_map, sym, ap, ◌∙◌}
use Rattle.serde_json.specs.Find.{get}
use Rattle.serde_json.specs.View.{view}
use Rattle.acc_schedule.specs.Document.{root_of, root_with}
use Rattle.acc_schedule.specs.Fields.{object_fault}
use Rattle.acc_schedule.specs.Seen.{seen_value}
use Rattle.acc_schedule.proofs.PlanFacts.{answered}
use Rattle.acc_schedule.proofs.document.read_whole.Goals as goal

pub returns : goal.returns
returns c =
    let d = view c.args.root in
    let others = view c.set_apart-others.result.0 in
    let txns = option_map view c.set_apart-others.result.1 in
    let fine = ap (λ (needed : List (List ℕ)). object_fault needed (codes "print" ∷ []) [] d) (sym c.needed.ensures) ∙ c.in_ok-object.ensures.0 in
    let same = ap (root_with others txns) c.get.ensures ∙ c.set_apart-others.ensures.root (get (codes "print") others) ∙ ap (root_of d) c.set_apart-others.ensures.print in
    let a = answered d (root_with others txns (seen_value c.get.result)) c.plan_in.result fine same c.plan_in.ensures.plan c.plan_in.ensures.sound in
    record { plan = a.plan; sound = a.sound; built = a.built }
