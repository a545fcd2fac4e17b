use Rattle.std.proofs.Common.{◌≡◌, List, None, map, sym, ap, subst, ◌∙◌}
use Rattle.serde_json.specs.Data.{Data}
use Rattle.serde_json.specs.View.{view}
use Rattle.acc_topology.specs.Layout.{Layout}
use Rattle.acc_schedule.specs.Content.{Content}
use Rattle.acc_left.specs.declared.image.Image.{Image}
use Rattle.acc_left.specs.Reading.{image_said, in_turn, journals, members, members_fault}
use Rattle.acc_left.specs.Rules.{AreLeft}
use Rattle.acc_left.proofs.ReadFacts.{says_left}
use Rattle.acc_left.proofs.read.left_in.Goals as goal

pub returns-clause-gives : goal.returns-clause-gives
returns-clause-gives c =
    let d : Data = view c.args.root.now in
    let plan : Content = c.in_ok-plan.plan in
    let images : List Image = c.in_ok-images.images in
    let said = c.in_ok-images.ensures (journals d) c.in_ok-journals.ensures.1 in
    let layout : c.plan.inside.topology ≡ plan.topology = ap (λ (p : Content). p.topology) c.plan.view_is in
    let keep : members_fault plan.topology (journals d) ≡ None = ap (λ (l : Layout). members_fault l (journals d)) (sym layout) ∙ said.0 in
    let are : images ≡ map (image_said plan.topology) (members (journals d)) = said.1.0 ∙ ap (λ (l : Layout). map (image_said l) (members (journals d))) layout in
    says_left d plan images c.in_ok-images-2.images c.in_ok-journals.ensures.0 c.in_ok-plan.ensures.plan.0 c.in_ok-plan.ensures.plan.1 keep are
    (c.in_ok-images-2.ensures.same ∙ (λ k. in_turn (layout k) (c.as_slice-2.ensures k)))
    (subst (λ (l : List Image). AreLeft plan l) c.as_slice.ensures c.in_ok-test_all.ensures)
