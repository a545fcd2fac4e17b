-- What the bytes of a document with journals decide: one answer.
use Rattle.std.proofs.Common.{◌≡◌, ℕ, List, map, Contains, Option, None, Result, Ok, Err, IfOk, IfErr, refl, sym, ap, subst, ◌∙◌, ◌⊎◌, inl, inr, codes}
use Rattle.std.specs.Prelude.{IsSome}
use Rattle.std.proofs.lemmas.Option.{none-some, same_Some}
use Rattle.serde_json.specs.Data.{Data}
use Rattle.acc_base.specs.Faults.{◌then◌}
use Rattle.acc_base.proofs.Faults.{both_none, then_none}
use Rattle.acc_document_fields.proofs.EachFacts.{before, behind}
use Rattle.acc_topology.specs.Layout.{Layout}
use Rattle.acc_schedule.specs.declared.error.PlanKind.{PlanKind}
use Rattle.acc_schedule.specs.declared.error.PlanError.{PlanError}
use Rattle.acc_schedule.specs.declared.error.PlanError.TheVariants.{Bad, OutOfMemory}
use Rattle.acc_schedule.specs.Apart.{without}
use Rattle.acc_schedule.specs.Content.{Content}
use Rattle.acc_schedule.specs.Document.{document_fault, IsNoJson, IsRefused, IsUnread, Reads}
use Rattle.acc_schedule.specs.Faults.{Fault, IsFault}
use Rattle.acc_schedule.proofs.AnswerFacts.{same_json}
use Rattle.acc_left.specs.declared.image.Image.{Image}
use Rattle.acc_left.specs.Answers.{GivesTested}
use Rattle.acc_left.specs.Reading.{image_said, images_named, in_turn, journals, members, journals_fault, left_fault, left_plan, members_fault, no_journal, BreaksLeft, GivesLeft, IsLeftCause, IsNotLeft, IsReadLeft, MeansLeft, SaysLeft}
use Rattle.acc_left.specs.Rules.{AreLeft, IsFirstFault}
use Rattle.acc_left.proofs.AlikeFacts.{left_alike}
use Rattle.acc_left.proofs.FaultFacts.{no_fault, one_first}
use Rattle.acc_left.proofs.MemberFacts.{said_known}
use Rattle.acc_left.proofs.OrderFacts.{from_turn, into_turn}

-- ---- the rules of a document, of which those before keep

abbrev pub document_rule : Data → Fault
document_rule d = document_fault (without (codes "journals") d)

abbrev pub members_rule : Data → Fault
members_rule d = members_fault (left_plan d).topology (journals d)

-- a fault of the rules is a reason to refuse
refused : (d : Data) (e : PlanError) → IsFault (left_fault d) e → GivesLeft d (Err e)
refused d OutOfMemory h = tt
refused d (Bad kind path detail at) h = inl h

pub journals_fail : (d : Data) (e : PlanError) → IsFault (journals_fault d) e → GivesLeft d (Err e)
journals_fail d e h = refused d e (before (journals_fault d then document_rule d) (members_rule d) e (before (journals_fault d) (document_rule d) e h))

pub document_fails : (d : Data) (e : PlanError) → journals_fault d ≡ None → IsFault (document_rule d) e → GivesLeft d (Err e)
document_fails d e first h = refused d e (before (journals_fault d then document_rule d) (members_rule d) e (behind (journals_fault d) (document_rule d) e first h))

both_keep : (d : Data) → journals_fault d ≡ None → document_rule d ≡ None → (journals_fault d then document_rule d) ≡ None
both_keep d first second = both_none (journals_fault d) (document_rule d) first second

pub members_fail : (d : Data) (plan : Content) (e : PlanError) → journals_fault d ≡ None → document_rule d ≡ None → plan ≡ left_plan d → IsFault (members_fault plan.topology (journals d)) e
    → GivesLeft d (Err e)
members_fail d plan e first second is h =
    refused d e
    (behind (journals_fault d then document_rule d) (members_rule d) e (both_keep d first second)
    (subst (λ (p : Content). IsFault (members_fault p.topology (journals d)) e) is h))

keeps : (d : Data) (plan : Content) → journals_fault d ≡ None → document_rule d ≡ None → plan ≡ left_plan d → members_fault plan.topology (journals d) ≡ None → left_fault d ≡ None
keeps d plan first second is third =
    both_none (journals_fault d then document_rule d) (members_rule d) (both_keep d first second) (ap (λ (p : Content). members_fault p.topology (journals d)) (sym is) ∙ third)

-- a journal breaks a rule
pub journal_fails : (d : Data) (plan : Content) (images : List Image) (e : PlanError) → journals_fault d ≡ None → document_rule d ≡ None → plan ≡ left_plan d
    → members_fault plan.topology (journals d) ≡ None → images ≡ map (image_said plan.topology) (members (journals d)) → GivesTested plan images (Err e) → GivesLeft d (Err e)
journal_fails d plan images OutOfMemory first second is third are h = tt
journal_fails d plan images (Bad kind path detail at) first second is third are h =
    inr (
      keeps d plan first second is third,
      record {
        image = h.image;
        detail = h.detail;
        at = h.at;
        first =
            subst (λ (p : Content). IsFirstFault p (images_named d) h.image h.detail h.at) is
            (subst (λ (l : List Image). IsFirstFault plan l h.image h.detail h.at) (are ∙ ap (λ (p : Content). map (image_said p.topology) (members (journals d))) is) h.first);
        says = h.says;
      },
    )

-- the same journals in the order of their actors
pub says_left : (d : Data) (plan : Content) (images turned : List Image) → journals_fault d ≡ None → document_rule d ≡ None → plan ≡ left_plan d
    → members_fault plan.topology (journals d) ≡ None → images ≡ map (image_said plan.topology) (members (journals d)) → turned ≡ in_turn plan.topology images → AreLeft plan images
    → SaysLeft d plan turned
says_left d plan images turned first second is third are turns left = record {
  keeps_rules = keeps d plan first second is third;
  says_plan = is;
  says_images = turns ∙ ap (in_turn plan.topology) (are ∙ ap (λ (p : Content). map (image_said p.topology) (members (journals d))) is);
  left =
      left_alike plan images turned
      (λ image there.
      subst (λ (l : List Image). Contains l image) (sym turns)
      (into_turn plan.topology images image
      (said_known plan.topology (journals d) third image (subst (λ (l : List Image). Contains l image) are there)) there))
      (λ image there. from_turn plan.topology images image (subst (λ (l : List Image). Contains l image) turns there)) left;
}

-- ---- what bytes say

pub means_left : (bytes : List ℕ) (d : Data) (r : Result (Content × List Image) PlanError) → Reads bytes d → GivesLeft d r → IfOk r (λ left. MeansLeft bytes left.0 left.1)
means_left bytes d (Ok left) reads h = record { utf8 = reads.utf8; json = d; reads = reads.reads; says = h }
means_left bytes d (Err error) reads h = tt

pub left_cause : (bytes : List ℕ) (d : Data) (r : Result (Content × List Image) PlanError) → Reads bytes d → GivesLeft d r → IfErr r (IsLeftCause bytes)
left_cause bytes d (Ok left) reads h = tt
left_cause bytes d (Err OutOfMemory) reads h = tt
left_cause bytes d (Err (Bad kind path detail at)) reads h = inr (record { utf8 = reads.utf8; json = d; reads = reads.reads; breaks = h })

-- ---- all bytes have one answer

same_left : (d : Data) (plan other : Content) (images others : List Image) → SaysLeft d plan images → SaysLeft d other others → (plan ≡ other) × (images ≡ others)
same_left d plan other images others a b =
    let plans : plan ≡ other = a.says_plan ∙ sym b.says_plan in (
      plans,
      a.says_images ∙ ap (λ (p : Content). in_turn p.topology (images_named d)) plans ∙ sym b.says_images,
    )

-- the journals in the order of their names keep the rules too
named_left : (d : Data) (plan : Content) (images : List Image) → SaysLeft d plan images → AreLeft (left_plan d) (images_named d)
named_left d plan images s =
    let layout : Layout = (left_plan d).topology in
    let plans : plan ≡ left_plan d = s.says_plan in
    let turned : images ≡ in_turn layout (images_named d) = s.says_images ∙ ap (λ (p : Content). in_turn p.topology (images_named d)) plans in
    let keeps_members : members_rule d ≡ None = (then_none (journals_fault d then document_rule d) (members_rule d) s.keeps_rules).1 in
    left_alike (left_plan d) images (images_named d)
    (λ image there. from_turn layout (images_named d) image (subst (λ (l : List Image). Contains l image) turned there))
    (λ image there.
    subst (λ (l : List Image). Contains l image) (sym turned) (into_turn layout (images_named d) image (said_known layout (journals d) keeps_members image there) there))
    (subst (λ (p : Content). AreLeft p images) plans s.left)

-- data that say something are not refused
says_no_cause : (d : Data) (plan : Content) (images : List Image) (e : PlanError) → SaysLeft d plan images → BreaksLeft d e → ⊥
says_no_cause d plan images e s (inl broken) = none-some e (sym s.keeps_rules ∙ broken)
says_no_cause d plan images e s (inr breaks) =
    no_fault (left_plan d) (images_named d) breaks.1.image breaks.1.detail breaks.1.at (named_left d plan images s) breaks.1.first

breaks_once : (d : Data) (a b : PlanError) → BreaksLeft d a → BreaksLeft d b → a ≡ b
breaks_once d a b (inl x) (inl y) = same_Some a b (sym x ∙ y)
breaks_once d a b (inl x) (inr y) = absurd (none-some a (sym y.0 ∙ x))
breaks_once d a b (inr x) (inl y) = absurd (none-some b (sym x.0 ∙ y))
breaks_once d a b (inr x) (inr y) =
    let one = one_first (left_plan d) (images_named d) x.1.image y.1.image x.1.detail x.1.at y.1.detail y.1.at x.1.first y.1.first in
    x.1.says ∙ (λ k. no_journal (one.image_is k).actor (one.detail_is k) (one.at_is k)) ∙ sym y.1.says

no_json_breaks : (bytes : List ℕ) (a b : PlanError) → IsNoJson bytes a → IsNotLeft bytes b → ⊥
no_json_breaks bytes a b no_json breaks = no_json.broken (breaks.utf8, subst (λ (o : Option Data). IsSome o) (sym breaks.reads) refl)

not_left_once : (bytes : List ℕ) (a b : PlanError) → IsNotLeft bytes a → IsNotLeft bytes b → a ≡ b
not_left_once bytes a b x y =
    let json : x.json ≡ y.json = same_json bytes x.json y.json x.reads y.reads in
    breaks_once y.json a b (subst (λ (d : Data). BreaksLeft d a) json x.breaks) y.breaks

one_cause : (bytes : List ℕ) (a b : PlanError) → IsNoJson bytes a ⊎ IsNotLeft bytes a → IsNoJson bytes b ⊎ IsNotLeft bytes b → a ≡ b
one_cause bytes a b (inl x) (inl y) = same_Some a b (sym x.says ∙ y.says)
one_cause bytes a b (inl x) (inr y) = absurd (no_json_breaks bytes a b x y)
one_cause bytes a b (inr x) (inl y) = absurd (no_json_breaks bytes b a y x)
one_cause bytes a b (inr x) (inr y) = not_left_once bytes a b x y

means_no_cause : (bytes : List ℕ) (plan : Content) (images : List Image) (kind : PlanKind) (path : List ℕ) (detail at : ℕ) → MeansLeft bytes plan images
    → IsLeftCause bytes (Bad kind path detail at) → ⊥
means_no_cause bytes plan images kind path detail at m (inl no_json) = no_json.broken (m.utf8, subst (λ (o : Option Data). IsSome o) (sym m.reads) refl)
means_no_cause bytes plan images kind path detail at m (inr breaks) =
    let json : breaks.json ≡ m.json = same_json bytes breaks.json m.json breaks.reads m.reads in
    says_no_cause m.json plan images (Bad kind path detail at) m.says (subst (λ (d : Data). BreaksLeft d (Bad kind path detail at)) json breaks.breaks)

means_once : (bytes : List ℕ) (plan other : Content) (images others : List Image) → MeansLeft bytes plan images → MeansLeft bytes other others → (plan ≡ other) × (images ≡ others)
means_once bytes plan other images others a b =
    let json : a.json ≡ b.json = same_json bytes a.json b.json a.reads b.reads in
    same_left b.json plan other images others (subst (λ (d : Data). SaysLeft d plan images) json a.says) b.says

pub given_left : (bytes : List ℕ) (r : Result (Content × List Image) PlanError) → IfOk r (λ left. MeansLeft bytes left.0 left.1) → IfErr r (IsLeftCause bytes) → (plan : Content) (images : List Image)
    → MeansLeft bytes plan images → IsReadLeft plan images r
given_left bytes (Ok left) means cause plan images m = means_once bytes left.0 plan left.1 images means m
given_left bytes (Err (Bad kind path detail at)) means cause plan images m = means_no_cause bytes plan images kind path detail at m cause
given_left bytes (Err OutOfMemory) means cause plan images m = tt

pub given_refuses : (bytes : List ℕ) (r : Result (Content × List Image) PlanError) → IfOk r (λ left. MeansLeft bytes left.0 left.1) → IfErr r (IsLeftCause bytes) → (error : PlanError)
    → IsLeftCause bytes error → IsRefused error r
given_refuses bytes r means cause OutOfMemory x = tt
given_refuses bytes (Ok left) means cause (Bad kind path detail at) x = means_no_cause bytes left.0 left.1 kind path detail at means x
given_refuses bytes (Err OutOfMemory) means cause (Bad kind path detail at) x = tt
given_refuses bytes (Err (Bad kind' path' detail' at')) means cause (Bad kind path detail at) x = one_cause bytes (Bad kind' path' detail' at') (Bad kind path detail at) cause x

-- bytes that give no data
pub unread_cause : (bytes : List ℕ) (e : PlanError) → IsUnread bytes e → IsLeftCause bytes e
unread_cause bytes OutOfMemory h = tt
unread_cause bytes (Bad kind path detail at) h = inl h
