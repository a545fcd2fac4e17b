-- A document that is written with journals is read as its plan without steps and with these journals.
use Rattle.std.proofs.Common.{◌≡◌, ℕ, ◌≤◌, List, [], ◌∷◌, map, Option, None, IsUtf8, codes, is_some, unwrap_or, refl, sym, ap, subst, ◌∙◌, arith}
use Rattle.std.specs.List.{AllByRecursion}
use Rattle.std.proofs.lemmas.Str.{IsUtf8-append}
use Rattle.json.proofs.Printed.Utf8.{IsUtf8-are_ascii}
use Rattle.serde_json.specs.Data.{depth, null, object, Data, Members}
use Rattle.serde_json.specs.Find.{as_object, get}
use Rattle.serde_json.specs.Read.{max_depth, read}
use Rattle.serde_json.proofs.Nesting.{depth-read}
use Rattle.acc_base.proofs.Faults.{both_none, must_kept, then_none}
use Rattle.acc_topology.specs.Layout.{Layout}
use Rattle.acc_safety.proofs.PlaceOrder.{each_from, IsIn-Contains}
use Rattle.acc_schedule.specs.Apart.{without}
use Rattle.acc_schedule.specs.Content.{Content}
use Rattle.acc_schedule.specs.Document.{document_fault, fields_fault, plan_of, root_fault, root_of, Reads}
use Rattle.acc_schedule.specs.Plan.{IsPlan}
use Rattle.acc_left.specs.declared.image.Image.{Image}
use Rattle.acc_left.specs.Documents.{journal_members, left_data, IsLine}
use Rattle.acc_left.specs.Reading.{image_said, images_named, in_turn, journals, journals_fault, left_fault, left_plan, members, members_fault, MeansLeft}
use Rattle.acc_left.specs.Rules.{AreLeft}
use Rattle.acc_left_laws.specs.Left.{AreOfActors, AreOfBytes}
use Rattle.acc_left_laws.proofs.InTurn.{in_turn as actor_in_turn}
use Rattle.acc_left_laws.proofs.MemberNames.{IsKnown}
use Rattle.acc_left_laws.proofs.PlanAlike.{left_without_steps, without_plan_steps}
use Rattle.acc_left_laws.proofs.Trailing.{read_trailing}
use Rattle.acc_left_laws.proofs.WrittenFields.{document_keeps, has_journals, is_object, plan_is, written_depth, IsObject}
use Rattle.acc_left_laws.proofs.WrittenMembers.{journals_depth, members_keep, says_images}

module _ (plan : Content) (images : List Image) (is : IsPlan plan) (of : AreOfActors plan images) (bytes_are : AreOfBytes images) where
  known : AllByRecursion (IsKnown plan.topology is.layout) images
  known =
      each_from (IsKnown plan.topology is.layout) images
      (λ image there.
      let among = IsIn-Contains image images there in
      record { actor = actor_in_turn plan.topology is.layout image.actor (of.known image among); bytes = bytes_are image among })

  module _ (bytes text : List ℕ) (ms : Members) (reads : Reads bytes (object ms)) (rules : document_fault (object ms) ≡ None) (says : plan ≡ plan_of (object ms)) where
    abbrev w : Data
    w = left_data (object ms) images

    abbrev named : Members
    named = journal_members images

    said : journals w ≡ object named
    said = ap (λ (o : Option Data). unwrap_or o null) (has_journals ms named)

    is_plan : left_plan w ≡ without_plan_steps plan
    is_plan = plan_is ms named ∙ ap without_plan_steps (sym says)

    cluster_is : (left_plan w).topology ≡ plan.topology
    cluster_is = ap (λ (p : Content). p.topology) is_plan

    there_is : journals_fault w ≡ None
    there_is =
        both_none _ _ (must_kept _ _ (ap is_some (has_journals ms named))) (must_kept _ _ (ap (λ (j : Data). is_some (as_object j)) said))

    entries_keep : members_fault (left_plan w).topology (journals w) ≡ None
    entries_keep =
        ap (λ (l : Layout). members_fault l (journals w)) cluster_is ∙ ap (members_fault plan.topology) said ∙ members_keep plan.topology is.layout images known

    keeps_rules : left_fault w ≡ None
    keeps_rules =
        both_none _ (members_fault (left_plan w).topology (journals w))
        (both_none (journals_fault w) (document_fault (without (codes "journals") w)) there_is (document_keeps ms named rules)) entries_keep

    images_are : in_turn plan.topology (images_named w) ≡ images
    images_are =
        ap (λ (l : Layout). in_turn plan.topology (map (image_said l) (members (journals w)))) cluster_is
        ∙ ap (λ (j : Data). in_turn plan.topology (map (image_said plan.topology) (members j))) said
        ∙ says_images plan.topology is.layout images of.rise known

    shallow : depth w ≤ max_depth
    shallow =
        let low : depth (object named) ≤ 1 = journals_depth images in
        written_depth ms named max_depth (omega arith) (depth-read bytes (object ms) reads.reads) (omega (arith, low))

    of_object : AreLeft plan images → IsLine w text → MeansLeft text (without_plan_steps plan) images
    of_object left line = record {
      utf8 = subst IsUtf8 (sym line.line) (IsUtf8-append line.json (10 ∷ []) line.utf8 (IsUtf8-are_ascii (10 ∷ []) refl));
      json = w;
      reads = ap read line.line ∙ read_trailing line.json w line.compact line.order ∙ line.reads (omega (arith, shallow));
      says =
          record {
            keeps_rules = keeps_rules;
            says_plan = sym is_plan;
            says_images = sym images_are;
            left = left_without_steps plan images left;
          };
    }

  pub written_read : (bytes text : List ℕ) (d : Data) → Reads bytes d → document_fault d ≡ None → plan ≡ plan_of d → AreLeft plan images → IsLine (left_data d images) text
      → MeansLeft text (without_plan_steps plan) images
  written_read bytes text d reads rules says left line =
      let o : IsObject d = is_object d (none_first rules) in
      subst
      (λ (e : Data). Reads bytes e → document_fault e ≡ None → plan ≡ plan_of e → IsLine (left_data e images) text → MeansLeft text (without_plan_steps plan) images)
      (sym o.is) (λ r f p l. of_object bytes text o.members r f p left l) reads rules says line
    where
      none_first : document_fault d ≡ None → root_fault d ≡ None
      none_first h = (then_none (root_fault d) (fields_fault (root_of d (get (codes "print") d))) h).0
