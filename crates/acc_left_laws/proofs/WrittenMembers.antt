-- The journals of a written document, in the order of their actors, are those that were written.
use Rattle.std.proofs.Common.{◌≡◌, ℕ, ◌+◌, ◌<◌, ◌≤◌, max, Bool, true, false, cond, List, [], ◌∷◌, ◌++◌, map, filter, None, refl, sym, ap, subst, ◌∙◌, ⊎_elim, arith}
use Rattle.std.specs.Cmp.Lexicographic.{slice_cmp}
use Rattle.std.specs.declared.cmp.Ordering.{Ordering}
use Rattle.std.specs.declared.cmp.Ordering.TheVariants.{Less, Equal, Greater}
use Rattle.std.specs.List.{flat_map, AllByRecursion}
use Rattle.std.specs.Ordering.{is_eq, match_ordering, nat_cmp}
use Rattle.std.proofs.lemmas.Bool.{eqb-true, ltb-true, ne_eqb}
use Rattle.std.proofs.lemmas.Map.Text.{is_eq-slice_cmp}
use Rattle.std.proofs.lemmas.Slice.Eq.{bytes_eq-Decides}
use Rattle.hex.specs.Hex.{encode_lower}
use Rattle.serde_json.specs.Data.{depth, member, members_depth, no_members, object, put, string, Data, Members}
use Rattle.acc_base.specs.Faults.{each}
use Rattle.acc_base.proofs.Faults.{both_none}
use Rattle.acc_stamp.specs.declared.actors.Actor.{Actor}
use Rattle.acc_stamp.specs.Actor.{actor_eq}
use Rattle.acc_topology.specs.Layout.{IsLayout, Layout}
use Rattle.acc_safety.specs.Places.{IsIn, First, Later}
use Rattle.acc_safety.proofs.PlaceOrder.{each_at, none_is_in, Contains-IsIn, IsIn-cases, IsIn-Contains}
use Rattle.acc_schedule.specs.Actors.{actor_text}
use Rattle.acc_schedule.specs.Faults.{Fault}
use Rattle.acc_left.specs.declared.image.Image.{Image}
use Rattle.acc_left.specs.Documents.{journal_members}
use Rattle.acc_left.specs.Leaves.{actors_rising, DoRise}
use Rattle.acc_left.specs.Reading.{image_said, in_turn, listed, member_fault, members_fault}
use Rattle.acc_left.proofs.OrderFacts.{from_turn, in_turn_rises, into_turn, rising_apart}
use Rattle.acc_left_laws.proofs.MemberNames.{member_is_fine, member_says, text_once, IsKnown}
use Rattle.acc_left_laws.proofs.PutFacts.{put_depth}

abbrev Entry : Type 0
Entry = List ℕ × Data

-- ---- members that are put

same_name : (k l : List ℕ) → slice_cmp nat_cmp k l ≡ Equal → k ≡ l
same_name k l is = (bytes_eq-Decides k l).0 (sym (is_eq-slice_cmp k l) ∙ ap is_eq is)

listed_at : (P : Entry → Type 0) (o : Ordering) (k l : List ℕ) (d e : Data) (ms : Members) → slice_cmp nat_cmp k l ≡ o → P (k, d) → P (l, e) → AllByRecursion P (listed ms)
    → AllByRecursion P (listed (put k d ms)) → AllByRecursion P (listed (match_ordering o (member k d (member l e ms)) (member l d ms) (member l e (put k d ms))))
listed_at P Less k l d e ms is new old rest more = (new, (old, rest))
listed_at P Equal k l d e ms is new old rest more = (subst (λ (n : List ℕ). P (n, d)) (same_name k l is) new, rest)
listed_at P Greater k l d e ms is new old rest more = (old, more)

listed_put : (P : Entry → Type 0) (k : List ℕ) (d : Data) (ms : Members) → P (k, d) → AllByRecursion P (listed ms) → AllByRecursion P (listed (put k d ms))
listed_put P k d no_members new all = (new, tt)
listed_put P k d (member l e ms) new all = listed_at P (slice_cmp nat_cmp k l) k l d e ms refl new all.0 all.1 (listed_put P k d ms new all.1)

all_none : (rule : Entry → Fault) (xs : List Entry) (place : ℕ) → AllByRecursion (λ x. rule x ≡ None) xs → each (λ p. rule) place xs ≡ None
all_none rule [] place all = refl
all_none rule (x ∷ xs) place all = both_none (rule x) (each (λ p. rule) (place + 1) xs) all.0 (all_none rule xs (place + 1) all.1)

flat_same : {A B : Type 0} (f g : A → List B) (xs : List A) → ((x : A) → f x ≡ g x) → flat_map f xs ≡ flat_map g xs
flat_same f g [] same = refl
flat_same f g (x ∷ xs) same = ap (λ l. l ++ flat_map f xs) (same x) ∙ ap (λ l. g x ++ l) (flat_same f g xs same)

is_none : {A : Type 0} (x : A) (xs : List A) → x ∷ xs ≡ [] → ⊥
is_none x xs e = cc

-- ---- journals that rise and are the same

above : (x : Image) (xs : List Image) → DoRise (x ∷ xs) → (y : Image) → IsIn y xs → x.actor.0 < y.actor.0
above x xs rises y there = ltb-true x.actor.0 y.actor.0 (each_at _ y xs rises.0 there)

module _ (x y : Image) (xs ys : List Image) (first : DoRise (x ∷ xs)) (second : DoRise (y ∷ ys)) where
  heads_same : IsIn x (y ∷ ys) → IsIn y (x ∷ xs) → x ≡ y
  heads_same to from =
      ⊎_elim (λ equal. equal)
      (λ later.
      ⊎_elim (λ equal. sym equal)
      (λ also. let low = above x xs first y also in let high = above y ys second x later in absurd (omega (arith, low, high))) (IsIn-cases y x xs from))
      (IsIn-cases x y ys to)

  rest_in : x ≡ y → (i : Image) → IsIn i xs → IsIn i (y ∷ ys) → IsIn i ys
  rest_in same i there within =
      ⊎_elim
      (λ equal.
      let low = above x xs first i there in
      let number : x.actor.0 ≡ i.actor.0 = ap (λ (j : Image). j.actor.0) (same ∙ sym equal) in
      absurd (omega (arith, low, number)))
      (λ later. later) (IsIn-cases i y ys within)

rising_same : (xs ys : List Image) → DoRise xs → DoRise ys → ((i : Image) → IsIn i xs → IsIn i ys) → ((i : Image) → IsIn i ys → IsIn i xs) → xs ≡ ys
rising_same [] [] first second to from = refl
rising_same [] (y ∷ ys) first second to from = absurd (none_is_in y (from y (First y ys)))
rising_same (x ∷ xs) [] first second to from = absurd (none_is_in x (to x (First x xs)))
rising_same (x ∷ xs) (y ∷ ys) first second to from =
    let same : x ≡ y = heads_same x y xs ys first second (to x (First x xs)) (from y (First y ys)) in
    let rest : xs ≡ ys =
    rising_same xs ys first.1 second.1 (λ i there. rest_in x y xs ys first second same i there (to i (Later i x xs there)))
    (λ i there. rest_in y x ys xs second first (sym same) i there (from i (Later i y ys there))) in
    λ k. same k ∷ rest k

module _ (layout : Layout) (is : IsLayout layout) where
  abbrev AreKnown : List Image → Type 0
  AreKnown images = AllByRecursion (IsKnown layout is) images

  turn_is : (images : List Image) → DoRise images → AreKnown images → in_turn layout images ≡ images
  turn_is images rise known =
      rising_same (in_turn layout images) images (in_turn_rises layout is images (rising_apart images rise)) rise
      (λ i there. Contains-IsIn i images (from_turn layout images i (IsIn-Contains i (in_turn layout images) there)))
      (λ i there.
      let k : IsKnown layout is i = each_at (IsKnown layout is) i images known there in
      Contains-IsIn i (in_turn layout images) (into_turn layout images i (IsIn-Contains i.actor (actors_rising layout) k.actor) (IsIn-Contains i images there)))

  -- ---- rules

  entries_fine : (images : List Image) → AreKnown images → AllByRecursion (λ (e : Entry). member_fault layout e ≡ None) (listed (journal_members images))
  entries_fine [] known = tt
  entries_fine (image ∷ images) known =
      listed_put (λ (e : Entry). member_fault layout e ≡ None) (actor_text image.actor) (string (encode_lower image.bytes)) (journal_members images) (member_is_fine layout is image known.0)
      (entries_fine images known.1)

  pub members_keep : (images : List Image) → AreKnown images → members_fault layout (object (journal_members images)) ≡ None
  members_keep images known = all_none (member_fault layout) (listed (journal_members images)) 0 (entries_fine images known)

  -- ---- of one actor

  module _ (a : Actor) where
    abbrev is_of : Image → Bool
    is_of image = actor_eq image.actor a

    abbrev of_actor : Members → List Image
    of_actor ms = filter is_of (map (image_said layout) (listed ms))

    module _ (image : Image) (k : List ℕ) (d : Data) (says : image_said layout (k, d) ≡ image) where
      abbrev Apart : Members → Type 0
      Apart ms = AllByRecursion (λ (e : Entry). e.0 ≡ k → ⊥) (listed ms)

      not_of : is_of image ≡ false → is_of (image_said layout (k, d)) ≡ false
      not_of other = ap is_of says ∙ other

      other_at : is_of image ≡ false → (o : Ordering) (l : List ℕ) (e : Data) (ms : Members) → slice_cmp nat_cmp k l ≡ o → (l ≡ k → ⊥) → of_actor (put k d ms) ≡ of_actor ms
          → of_actor (match_ordering o (member k d (member l e ms)) (member l d ms) (member l e (put k d ms))) ≡ of_actor (member l e ms)
      other_at other Less l e ms at apart rest =
          ap (λ b. cond b (image_said layout (k, d) ∷ of_actor (member l e ms)) (of_actor (member l e ms))) (not_of other)
      other_at other Equal l e ms at apart rest = absurd (apart (sym (same_name k l at)))
      other_at other Greater l e ms at apart rest = ap (λ r. cond (is_of (image_said layout (l, e))) (image_said layout (l, e) ∷ r) r) rest

      put_other : is_of image ≡ false → (ms : Members) → Apart ms → of_actor (put k d ms) ≡ of_actor ms
      put_other other no_members apart = ap (λ b. cond b (image_said layout (k, d) ∷ []) []) (not_of other)
      put_other other (member l e ms) apart = other_at other (slice_cmp nat_cmp k l) l e ms refl apart.0 (put_other other ms apart.1)

      alone : is_of image ≡ true → (rest : List Image) → rest ≡ [] → cond (is_of (image_said layout (k, d))) (image_said layout (k, d) ∷ rest) rest ≡ image ∷ []
      alone own rest none =
          ap (λ b. cond b (image_said layout (k, d) ∷ rest) rest) (ap is_of says ∙ own) ∙ ap (λ (i : Image). i ∷ rest) says ∙ ap (λ (l : List Image). image ∷ l) none

      skipped : (b : Bool) (x : Image) (rest now : List Image) → cond b (x ∷ rest) rest ≡ [] → (rest ≡ [] → now ≡ image ∷ []) → cond b (x ∷ now) now ≡ image ∷ []
      skipped true x rest now none h = absurd (is_none x rest none)
      skipped false x rest now none h = h none

      own_at : is_of image ≡ true → (o : Ordering) (l : List ℕ) (e : Data) (ms : Members) → slice_cmp nat_cmp k l ≡ o → (l ≡ k → ⊥) → of_actor (member l e ms) ≡ []
          → (of_actor ms ≡ [] → of_actor (put k d ms) ≡ image ∷ [])
          → of_actor (match_ordering o (member k d (member l e ms)) (member l d ms) (member l e (put k d ms))) ≡ image ∷ []
      own_at own Less l e ms at apart none rest = alone own (of_actor (member l e ms)) none
      own_at own Equal l e ms at apart none rest = absurd (apart (sym (same_name k l at)))
      own_at own Greater l e ms at apart none rest = skipped (is_of (image_said layout (l, e))) (image_said layout (l, e)) (of_actor ms) (of_actor (put k d ms)) none rest

      put_own : is_of image ≡ true → (ms : Members) → Apart ms → of_actor ms ≡ [] → of_actor (put k d ms) ≡ image ∷ []
      put_own own no_members apart none = alone own [] refl
      put_own own (member l e ms) apart none = own_at own (slice_cmp nat_cmp k l) l e ms refl apart.0 none (put_own own ms apart.1)

    -- the names of other journals are others
    others_apart : (image : Image) (images : List Image) → IsKnown layout is image → AreKnown images → ((i : Image) → IsIn i images → image.actor.0 < i.actor.0)
        → AllByRecursion (λ (e : Entry). e.0 ≡ actor_text image.actor → ⊥) (listed (journal_members images))
    others_apart image [] known all higher = tt
    others_apart image (i ∷ images) known all higher =
        listed_put (λ (e : Entry). e.0 ≡ actor_text image.actor → ⊥) (actor_text i.actor) (string (encode_lower i.bytes)) (journal_members images)
        (λ same.
        let one : i.actor.0 ≡ image.actor.0 = ap (λ (b : Actor). b.0) (text_once layout is i.actor image.actor all.0.actor known.actor same) in
        let low = higher i (First i images) in
        omega (arith, one, low))
        (others_apart image images known all.1 (λ j there. higher j (Later j i images there)))

    none_of : (images : List Image) → ((i : Image) → IsIn i images → a.0 < i.actor.0) → filter is_of images ≡ []
    none_of [] higher = refl
    none_of (i ∷ images) higher =
        let low = higher i (First i images) in
        ap (λ b. cond b (i ∷ filter is_of images) (filter is_of images)) (ne_eqb i.actor.0 a.0 (λ same. omega (arith, same, low)))
        ∙ none_of images (λ j there. higher j (Later j i images there))

    of_one : (images : List Image) → DoRise images → AreKnown images → of_actor (journal_members images) ≡ filter is_of images
    of_one [] rise known = refl
    of_one (i ∷ images) rise known = by (is_of i) refl (of_one images rise.1 known.1)
      where
        apart : AllByRecursion (λ (e : Entry). e.0 ≡ actor_text i.actor → ⊥) (listed (journal_members images))
        apart = others_apart i images known.0 known.1 (above i images rise)

        says : image_said layout (actor_text i.actor, string (encode_lower i.bytes)) ≡ i
        says = member_says layout is i known.0

        by : (b : Bool) → is_of i ≡ b → of_actor (journal_members images) ≡ filter is_of images
            → of_actor (put (actor_text i.actor) (string (encode_lower i.bytes)) (journal_members images)) ≡ cond b (i ∷ filter is_of images) (filter is_of images)
        by true own rest =
            let number : i.actor.0 ≡ a.0 = eqb-true i.actor.0 a.0 own in
            let none : filter is_of images ≡ [] = none_of images (λ j there. let low = above i images rise j there in omega (arith, low, number)) in
            put_own i (actor_text i.actor) (string (encode_lower i.bytes)) says own (journal_members images) apart (rest ∙ none) ∙ ap (λ (l : List Image). i ∷ l) (sym none)
        by false other rest = put_other i (actor_text i.actor) (string (encode_lower i.bytes)) says other (journal_members images) apart ∙ rest

  -- the journals that a written document says
  pub says_images : (images : List Image) → DoRise images → AreKnown images → in_turn layout (map (image_said layout) (listed (journal_members images))) ≡ images
  says_images images rise known =
      flat_same (λ (a : Actor). of_actor a (journal_members images)) (λ (a : Actor). filter (is_of a) images) (actors_rising layout) (λ a. of_one a images rise known)
      ∙ turn_is images rise known

texts_flat : (images : List Image) → members_depth (journal_members images) ≤ 0
texts_flat [] = omega arith
texts_flat (image ∷ images) =
    let more : members_depth (journal_members (image ∷ images)) ≤ max 0 (members_depth (journal_members images)) =
    put_depth (actor_text image.actor) (string (encode_lower image.bytes)) (journal_members images) in
    let rest = texts_flat images in
    omega (arith, more, rest)

pub journals_depth : (images : List Image) → depth (object (journal_members images)) ≤ 1
journals_depth images = let flat = texts_flat images in omega (arith, flat)
