-- A document with journals and another schedule says the same plan but for its steps, and the same journals.
use Rattle.std.proofs.Common.{◌≡◌, ℕ, false, true, List, [], map, Option, Some, codes, is_some, unwrap_or, refl, sym, ap, subst, ◌∙◌}
use Rattle.std.specs.Str.{bytes_eq}
use Rattle.serde_json.specs.Data.{array, boolean, null, number, object, put, string, Data, Members}
use Rattle.serde_json.specs.Find.{get}
use Rattle.serde_json.specs.Read.{read}
use Rattle.serde_json.proofs.Views.{get_member-put_other}
use Rattle.acc_base.specs.Faults.{must}
use Rattle.acc_base.proofs.Faults.{must_none, then_none}
use Rattle.acc_topology.specs.Layout.{Layout}
use Rattle.acc_actor_laws.proofs.OpeningFacts.{some_is}
use Rattle.acc_schedule.specs.Apart.{without}
use Rattle.acc_schedule.specs.Content.{Content}
use Rattle.acc_schedule.specs.Document.{document_fault, plan_in, printed, root_of, schedule, Root}
use Rattle.acc_schedule.specs.Faults.{bad}
use Rattle.acc_schedule.specs.Fields.{field}
use Rattle.acc_schedule.specs.declared.error.PlanKind.TheVariants.{Shape}
use Rattle.acc_schedule.specs.declared.plan.Step.{Step}
use Rattle.acc_left.specs.declared.image.Image.{Image}
use Rattle.acc_left.specs.Documents.{with_field}
use Rattle.acc_left.specs.Reading.{image_said, images_named, in_turn, journals, journals_fault, left_plan, members, members_fault, MeansLeft, SaysLeft}
use Rattle.acc_left_laws.proofs.PutFacts.{get_without}
use Rattle.acc_left_laws.proofs.WrittenFields.{names_differ, IsObject}

has_fields : (d : Data) → is_some (get (codes "journals") d) ≡ true → IsObject d
has_fields null h = absurd cc
has_fields (boolean b) h = absurd cc
has_fields (number n) h = absurd cc
has_fields (string s) h = absurd cc
has_fields (array items) h = absurd cc
has_fields (object ms) h = record { members = ms; is = refl }

module _ (ms : Members) (steps : Data) where
  abbrev scheduled : Data
  scheduled = with_field (codes "schedule") steps (object ms)

  abbrev old : Data
  old = without (codes "journals") (object ms)

  abbrev now : Data
  now = without (codes "journals") scheduled

  kept : (q : List ℕ) → bytes_eq q (codes "journals") ≡ false → bytes_eq q (codes "schedule") ≡ false → get q now ≡ get q old
  kept q other another =
      get_without q (codes "journals") (put (codes "schedule") steps ms) (names_differ q (codes "journals") other)
      ∙ get_member-put_other q (codes "schedule") steps ms (names_differ q (codes "schedule") another)
      ∙ sym (get_without q (codes "journals") ms (names_differ q (codes "journals") other))

  same_field : (q : List ℕ) → bytes_eq q (codes "journals") ≡ false → bytes_eq q (codes "schedule") ≡ false → field q now ≡ field q old
  same_field q other another = ap (λ (o : Option Data). unwrap_or o null) (kept q other another)

  abbrev root : Root
  root = root_of old (get (codes "print") old)

  root_is : root_of now (get (codes "print") now)
      ≡ record { version = root.version; nodes = root.nodes; shards = root.shards; txns = root.txns; schedule = schedule now; print = root.print }
  root_is =
      let version = same_field (codes "version") refl refl in
      let nodes = same_field (codes "nodes") refl refl in
      let shards = same_field (codes "shards") refl refl in
      let txns = same_field (codes "txns") refl refl in
      let print : printed (get (codes "print") now) ≡ printed (get (codes "print") old) = ap printed (kept (codes "print") refl refl) in
      λ i. record { version = version i; nodes = nodes i; shards = shards i; txns = txns i; schedule = schedule now; print = print i }

  plan_is : left_plan scheduled ≡ record (left_plan (object ms)) { steps = (left_plan scheduled).steps }
  plan_is =
      let whole = ap plan_in root_is in
      whole ∙ ap (λ (more : List Step). record (left_plan (object ms)) { steps = more }) (sym (ap (λ (p : Content). p.steps) whole))

  journals_are : journals scheduled ≡ journals (object ms)
  journals_are =
      ap (λ (o : Option Data). unwrap_or o null)
      (get_member-put_other (codes "journals") (codes "schedule") steps ms (names_differ (codes "journals") (codes "schedule") refl))

  says_same : (plan later : Content) (images others : List Image) → SaysLeft (object ms) plan images → SaysLeft scheduled later others
      → (later ≡ record plan { steps = later.steps }) × (others ≡ images)
  says_same plan later images others says again =
      let plans : later ≡ record plan { steps = later.steps } =
      again.says_plan ∙ plan_is ∙ ap (λ (p : Content). record p { steps = (left_plan scheduled).steps }) (sym says.says_plan)
      ∙ ap (λ (more : List Step). record plan { steps = more }) (ap (λ (p : Content). p.steps) (sym again.says_plan)) in
      let layouts : (left_plan scheduled).topology ≡ (left_plan (object ms)).topology = ap (λ (p : Content). p.topology) plan_is in (
        plans,
        again.says_images ∙ ap (λ (p : Content). in_turn p.topology (images_named scheduled)) plans
            ∙ ap (λ (l : Layout). in_turn plan.topology (map (image_said l) (members (journals scheduled)))) layouts
            ∙ ap (λ (d : Data). in_turn plan.topology (map (image_said (left_plan (object ms)).topology) (members d))) journals_are ∙ sym says.says_images,
      )

pub schedule_keeps : (text other : List ℕ) (json steps : Data) (plan later : Content) (images others : List Image) → MeansLeft text plan images → read text ≡ Some json
    → read other ≡ Some (with_field (codes "schedule") steps json) → MeansLeft other later others → (later ≡ record plan { steps = later.steps }) × (others ≡ images)
schedule_keeps text other json steps plan later images others means reads again means_again =
    let one : means.json ≡ json = some_is means.json json (sym means.reads ∙ reads) in
    let two : means_again.json ≡ with_field (codes "schedule") steps json = some_is means_again.json (with_field (codes "schedule") steps json) (sym means_again.reads ∙ again) in
    let says : SaysLeft json plan images = subst (λ (d : Data). SaysLeft d plan images) one means.says in
    let says_again : SaysLeft (with_field (codes "schedule") steps json) later others = subst (λ (d : Data). SaysLeft d later others) two means_again.says in
    let rules = (then_none (journals_fault json) (document_fault (without (codes "journals") json)) (then_none _ (members_fault (left_plan json).topology (journals json)) says.keeps_rules).0).0 in
    let there = must_none (is_some (get (codes "journals") json)) (bad Shape []) (then_none (must (is_some (get (codes "journals") json)) (bad Shape [])) _ rules).0 in
    let o : IsObject json = has_fields json there in
    subst
    (λ (d : Data). SaysLeft d plan images → SaysLeft (with_field (codes "schedule") steps d) later others → (later ≡ record plan { steps = later.steps }) × (others ≡ images))
    (sym o.is) (says_same o.members steps plan later images others) says says_again
