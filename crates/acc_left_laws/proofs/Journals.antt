-- Which of these journals is an actor's.
use Rattle.std.proofs.Common.{◌≡◌, ◌<◌, Bool, true, false, cond, List, [], ◌∷◌, find, Contains, Option, None, Some, option_map, unwrap_or, refl, sym, ap, subst, ◌∙◌, ◌⊎◌, inl, inr, arith}
use Rattle.std.proofs.lemmas.Bool.{eq-eqb, ltb-true, ne_eqb}
use Rattle.acc_stamp.specs.declared.actors.Actor.{Actor}
use Rattle.acc_stamp.specs.Actor.{actor_eq}
use Rattle.acc_actor_laws.proofs.Standing.{not_none}
use Rattle.acc_actor_laws.proofs.OpeningFacts.{some_is}
use Rattle.acc_safety.specs.Places.{IsIn, First, Later}
use Rattle.acc_safety.proofs.Bridge.{same}
use Rattle.acc_safety.proofs.PlaceOrder.{each_at, none_is_in, Contains-IsIn, IsIn-cases}
use Rattle.acc_left.specs.declared.image.Image.{Image}
use Rattle.acc_left.specs.Leaves.{DoRise}
use Rattle.acc_left_laws.specs.Left.{journal_at}

abbrev is_of : Actor → Image → Bool
is_of a image = actor_eq image.actor a

of_itself : (image : Image) → is_of image.actor image ≡ true
of_itself image = eq-eqb image.actor.0 image.actor.0 refl

found_in : (images : List Image) (image : Image) → DoRise images → IsIn image images → find (is_of image.actor) images ≡ Some image
found_in [] image rises there = absurd (none_is_in image there)
found_in (x ∷ images) image rises there = by (is_of image.actor x) refl (IsIn-cases image x images there) (found_in images image rises.1)
  where
    by : (b : Bool) → is_of image.actor x ≡ b → (image ≡ x) ⊎ IsIn image images → (IsIn image images → find (is_of image.actor) images ≡ Some image)
        → cond b (Some x) (find (is_of image.actor) images) ≡ Some image
    by true is (inl equal) rest = ap Some (sym equal)
    by true is (inr later) rest =
        let lower : x.actor.0 < image.actor.0 = ltb-true x.actor.0 image.actor.0 (each_at _ image images rises.0 later) in
        let apart : is_of image.actor x ≡ false = ne_eqb x.actor.0 image.actor.0 (λ equal. omega (arith, lower, equal)) in
        absurd (let no : true ≡ false = sym is ∙ apart in cc)
    by false is (inl equal) rest =
        absurd (let no : true ≡ false = sym (of_itself image) ∙ ap (λ (i : Image). is_of image.actor i) equal ∙ is in cc)
    by false is (inr later) rest = rest later

-- the journal of an actor among journals that rise
pub journal_is : (images : List Image) (image : Image) → DoRise images → Contains images image → journal_at images image.actor ≡ image.bytes
journal_is images image rises there =
    ap (λ (o : Option Image). unwrap_or (option_map (λ (i : Image). i.bytes) o) (1 ∷ 0 ∷ [])) (found_in images image rises (Contains-IsIn image images there))

-- an actor has one among them, or its journal is empty
pub data HasJournal (images : List Image) (a : Actor) : Type 0 where
  IsThere : (image : Image) → IsIn image images → image.actor ≡ a → journal_at images a ≡ image.bytes → HasJournal images a
  IsEmpty : journal_at images a ≡ 1 ∷ 0 ∷ [] → HasJournal images a

found_is : (p : Image → Bool) (images : List Image) (image : Image) → find p images ≡ Some image → IsIn image images × (p image ≡ true)
found_is p [] image e = absurd (not_none image e)
found_is p (x ∷ images) image e = by (p x) refl e (found_is p images image)
  where
    by : (b : Bool) → p x ≡ b → cond b (Some x) (find p images) ≡ Some image → (find p images ≡ Some image → IsIn image images × (p image ≡ true))
        → IsIn image (x ∷ images) × (p image ≡ true)
    by true is h rest =
        let one : x ≡ image = some_is x image h in
        (subst (λ (i : Image). IsIn i (x ∷ images)) one (First x images), ap p (sym one) ∙ is)
    by false is h rest = let later = rest h in (Later image x images later.0, later.1)

pub has_journal : (images : List Image) (a : Actor) → HasJournal images a
has_journal images a = by (find (is_of a) images) refl
  where
    by : (o : Option Image) → find (is_of a) images ≡ o → HasJournal images a
    by None is = IsEmpty (ap (λ (o : Option Image). unwrap_or (option_map (λ (i : Image). i.bytes) o) (1 ∷ 0 ∷ [])) is)
    by (Some image) is =
        let found = found_is (is_of a) images image is in
        IsThere image found.0 (same image.actor a found.1) (ap (λ (o : Option Image). unwrap_or (option_map (λ (i : Image). i.bytes) o) (1 ∷ 0 ∷ [])) is)
