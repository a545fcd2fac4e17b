-- The journals that a document says are those of actors of its cluster, and rise. Bytes say them once.
use Rattle.std.proofs.Common.{◌≡◌, ℕ, ◌+◌, Bool, true, false, cond, List, [], ◌∷◌, map, filter, Contains, Option, None, Some, IfSome, is_some, unwrap_or, codes, refl, sym, ap, subst, ◌∙◌, arith}
use Rattle.std.specs.List.{AllByRecursion}
use Rattle.std.specs.Ordering.{is_eq}
use Rattle.std.specs.Str.{bytes_eq}
use Rattle.std.proofs.lemmas.Bool.{true≢false}
use Rattle.std.proofs.lemmas.List.Elements.{All-from_recursion}
use Rattle.std.proofs.lemmas.List.Kept.{AllPairs-cons}
use Rattle.std.proofs.lemmas.Map.Text.{is_eq-slice_cmp}
use Rattle.std.proofs.lemmas.Slice.Eq.{bytes_eq-Decides}
use Rattle.serde_json.specs.Data.{array, boolean, member, no_members, null, number, object, string, Data, Members}
use Rattle.serde_json.specs.Find.{get}
use Rattle.acc_base.specs.Faults.{each, must}
use Rattle.acc_base.proofs.Faults.{must_none, then_none}
use Rattle.acc_stamp.specs.declared.actors.Actor.{Actor}
use Rattle.acc_stamp.specs.Actor.{actor_eq, actor_of}
use Rattle.acc_topology.specs.Layout.{IsLayout, Layout}
use Rattle.acc_actor_laws.proofs.OpeningFacts.{some_is}
use Rattle.acc_actor_laws.proofs.Standing.{not_none}
use Rattle.acc_safety.specs.Places.{IsIn}
use Rattle.acc_safety.proofs.Bridge.{same}
use Rattle.acc_safety.proofs.PlaceOrder.{Contains-IsIn, IsIn-filter, IsIn-flat_map}
use Rattle.acc_schedule.specs.Actors.{actor_named, actor_text, actors}
use Rattle.acc_schedule.specs.Content.{Content}
use Rattle.acc_schedule.specs.Faults.{bad, Fault}
use Rattle.acc_schedule.specs.Paths.{escaped}
use Rattle.acc_schedule.specs.declared.error.PlanKind.TheVariants.{Name, Shape}
use Rattle.acc_left.specs.declared.image.Image.{Image}
use Rattle.acc_left.specs.Leaves.{actors_rising, AreApart}
use Rattle.acc_left.specs.Reading.{image_said, images_named, in_turn, is_image, journals, left_plan, listed, member_fault, member_path, members, members_fault, MeansLeft}
use Rattle.acc_left.proofs.OrderFacts.{in_turn_rises}
use Rattle.acc_left_laws.specs.Left.{AreOfActors}
use Rattle.acc_left_laws.proofs.PutFacts.{AllNamed}
use Rattle.acc_left_laws.proofs.ReadOrder.{found_rises, read_rises, AllRise, IsBelow, MembersRise}
use Rattle.acc_left_laws.proofs.TurnsBack.{turn_known}

-- ---- names

found_text : (us : List Actor) (name : List ℕ) (a : Actor) → actor_named us name ≡ Some a → name ≡ actor_text a
found_text [] name a e = absurd (not_none a e)
found_text (x ∷ us) name a e = by (bytes_eq name (actor_text x)) refl e (found_text us name a)
  where
    by : (b : Bool) → bytes_eq name (actor_text x) ≡ b → cond b (Some x) (actor_named us name) ≡ Some a → (actor_named us name ≡ Some a → name ≡ actor_text a) → name ≡ actor_text a
    by true is h later = (bytes_eq-Decides name (actor_text x)).0 is ∙ ap actor_text (some_is x a h)
    by false is h later = later h

some_of : (o : Option Actor) → is_some o ≡ true → (a : Actor) × (o ≡ Some a)
some_of None e = absurd cc
some_of (Some a) e = (a, refl)

module _ (layout : Layout) where
  -- the name of a member that breaks no rule is how its actor prints
  name_is : (entry : List ℕ × Data) → member_fault layout entry ≡ None → entry.0 ≡ actor_text (image_said layout entry).actor
  name_is entry none =
      let rule = (then_none (must (is_some (actor_named (actors_rising layout) entry.0)) (bad Name (member_path (escaped entry.0)))) (must (is_image entry.1) (bad Shape (member_path entry.0))) none).0 in
      let known = some_of (actor_named (actors_rising layout) entry.0) (must_none (is_some (actor_named (actors_rising layout) entry.0)) (bad Name (member_path (escaped entry.0))) rule) in
      found_text (actors_rising layout) entry.0 known.0 known.1 ∙ ap (λ (o : Option Actor). actor_text (unwrap_or o (actor_of 0 0))) (sym known.1)

  abbrev faults : ℕ → List (List ℕ × Data) → Fault
  faults from entries = each (λ place. member_fault layout) from entries

  abbrev said : Members → List Image
  said ms = map (image_said layout) (listed ms)

  -- names below each other are of different actors
  apart_from : (name : List ℕ) (a : Actor) (entry : List ℕ × Data) → name ≡ actor_text a → IsBelow name entry.0 → member_fault layout entry ≡ None
      → actor_eq a (image_said layout entry).actor ≡ false
  apart_from name a entry own less none = by (actor_eq a (image_said layout entry).actor) refl
    where
      by : (b : Bool) → actor_eq a (image_said layout entry).actor ≡ b → b ≡ false
      by false is = refl
      by true is =
          let one : name ≡ entry.0 = own ∙ ap actor_text (same a (image_said layout entry).actor is) ∙ sym (name_is entry none) in
          let equal : bytes_eq name entry.0 ≡ true = (bytes_eq-Decides name entry.0).1 one in
          absurd (true≢false (sym equal ∙ sym (is_eq-slice_cmp name entry.0) ∙ ap is_eq less))

  each_apart : (name : List ℕ) (a : Actor) (from : ℕ) (ms : Members) → name ≡ actor_text a → AllNamed (IsBelow name) ms → faults from (listed ms) ≡ None
      → AllByRecursion (λ (i : Image). actor_eq a i.actor ≡ false) (said ms)
  each_apart name a from no_members own below none = tt
  each_apart name a from (member l e ms) own below none =
      let parts = then_none (member_fault layout (l, e)) (faults (from + 1) (listed ms)) none in
      (apart_from name a (l, e) own below.0 parts.0, each_apart name a (from + 1) ms own below.1 parts.1)

  are_apart : (from : ℕ) (ms : Members) → MembersRise ms → faults from (listed ms) ≡ None → AreApart (said ms)
  are_apart from no_members rise none = λ i j d lt within. absurd (omega (arith, within))
  are_apart from (member name d ms) rise none =
      let parts = then_none (member_fault layout (name, d)) (faults (from + 1) (listed ms)) none in
      AllPairs-cons (λ (i j : Image). actor_eq i.actor j.actor ≡ false) (image_said layout (name, d)) (said ms)
      (All-from_recursion (λ (i : Image). actor_eq (image_said layout (name, d)).actor i.actor ≡ false) (said ms)
      (each_apart name (image_said layout (name, d)).actor (from + 1) ms (name_is (name, d) parts.0) rise.0 parts.1)) (are_apart (from + 1) ms rise.2 parts.1)

  members_apart : (d : Data) → AllRise d → members_fault layout d ≡ None → AreApart (map (image_said layout) (members d))
  members_apart null rise none = λ i j d lt within. absurd (omega (arith, within))
  members_apart (boolean b) rise none = λ i j d lt within. absurd (omega (arith, within))
  members_apart (number n) rise none = λ i j d lt within. absurd (omega (arith, within))
  members_apart (string s) rise none = λ i j d lt within. absurd (omega (arith, within))
  members_apart (array ds) rise none = λ i j d lt within. absurd (omega (arith, within))
  members_apart (object ms) rise none = are_apart 0 ms rise none

  known_in_turn : (images : List Image) (image : Image) → Contains (in_turn layout images) image → Contains (actors layout) image.actor
  known_in_turn images image there =
      let part = IsIn-flat_map (λ (a : Actor). filter (λ (i : Image). actor_eq i.actor a) images) image (actors_rising layout) (Contains-IsIn image (in_turn layout images) there) in
      let own : image.actor ≡ part.source = same image.actor part.source (IsIn-filter (λ (i : Image). actor_eq i.actor part.source) image images part.within).1 in
      turn_known layout image.actor (subst (λ (a : Actor). IsIn a (actors_rising layout)) (sym own) part.there)

-- ---- what a document says

field_rises : (o : Option Data) → IfSome o AllRise → AllRise (unwrap_or o null)
field_rises None h = tt
field_rises (Some d) h = h

pub said_of_actors : (bytes : List ℕ) (plan : Content) (images : List Image) → IsLayout plan.topology → MeansLeft bytes plan images → AreOfActors plan images
said_of_actors bytes plan images is means =
    let d : Data = means.json in
    let rise : AllRise (journals d) = field_rises (get (codes "journals") d) (found_rises (codes "journals") d (read_rises bytes d means.reads)) in
    let kept : members_fault (left_plan d).topology (journals d) ≡ None =
    (then_none _ (members_fault (left_plan d).topology (journals d)) means.says.keeps_rules).1 in
    let apart : AreApart (images_named d) = members_apart (left_plan d).topology (journals d) rise kept in
    subst (AreOfActors plan) (sym means.says.says_images)
    (record { rise = in_turn_rises plan.topology is (images_named d) apart; known = known_in_turn plan.topology (images_named d) })

pub said_once : (bytes : List ℕ) (plan other : Content) (images others : List Image) → MeansLeft bytes plan images → MeansLeft bytes other others → (other ≡ plan) × (others ≡ images)
said_once bytes plan other images others means another =
    let one : means.json ≡ another.json = some_is means.json another.json (sym means.reads ∙ another.reads) in
    let plans : other ≡ plan = another.says.says_plan ∙ ap left_plan (sym one) ∙ sym means.says.says_plan in (
      plans,
      another.says.says_images ∙ ap (λ (p : Content). in_turn p.topology (images_named another.json)) plans ∙ ap (λ (d : Data). in_turn plan.topology (images_named d)) (sym one)
          ∙ sym means.says.says_images,
    )
