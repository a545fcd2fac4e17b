-- Journals that are taken from items, one item after another.
use Rattle.std.proofs.Common.{◌≡◌, ℕ, zero, suc, ◌+◌, ◌<◌, ◌≤◌, Bool, true, false, cond, List, [], ◌∷◌, ◌++◌, length, map, take, drop, set, get_or, reverse, Bor, Some, refl, sym, ◌∙◌, ap, subst, append_assoc, arith}
use Rattle.std.specs.Prelude.{slice_get}
use Rattle.std.proofs.lemmas.List.{append-nil, map-append, take_all, take_more, drop_all, drop_more, take-append-drop, reverse-append, length-append, length-map, length-take-le, get_or_at, set_at}
use Rattle.std.proofs.lemmas.Option.{slice_get_within, get_or_from_slice_get, same_Some}
use Rattle.std.proofs.lemmas.Bool.{eq-eqb}
use Rattle.acc_stamp.specs.declared.actors.Actor.{Actor}
use Rattle.acc_message.specs.declared.entry.Entry.{Entry}
use Rattle.acc_message.specs.declared.entry.Event.{Event}
use Rattle.acc_message.specs.declared.note.Note.{Note}
use Rattle.acc_message.specs.declared.shown.Shown.{Shown}
use Rattle.acc_message.specs.declared.shown.Shown.TheVariants.{Step as StepShown, Skipped as SkippedShown, Down as DownShown}
use Rattle.acc_message.specs.Shown.{with_sent}
use Rattle.acc_message.specs.declared.item.Item.{Item}
use Rattle.acc_message.specs.declared.item.Item.TheVariants.{Step}
use Rattle.acc_message.specs.declared.message.Message.{Message}
use Rattle.acc_message.specs.Items.{message_at, same_actor, sent_in, sent_of}
use Rattle.acc_message_code.specs.Short.{IsShortMessage}
use Rattle.acc_payloads.specs.Items.{payload_by, payload_in, payloads_in}
use Rattle.acc_schedule.specs.Content.{Content}
use Rattle.acc_left.specs.declared.image.Image.{Image}
use Rattle.acc_left.specs.declared.places.Place.{Place}
use Rattle.acc_left.specs.Kept.{closed, front_of, fronts_after, image_after, TellPlaces}
use Rattle.acc_left.specs.Leaves.{actors_rising, images_left, journal_bytes}
use Rattle.acc_left.proofs.PlaceFacts.{told_alike}

-- ---- the items up to a place, the newest first

item_at : (items : List Item) (place : ℕ) → place < length items → (item : Item) × (slice_get items place ≡ Some item)
item_at [] place lt = absurd (omega arith)
item_at (x ∷ xs) zero lt = (x, refl)
item_at (x ∷ xs) (suc place) lt = item_at xs place (omega arith)

one_later : (items : List Item) (place : ℕ) (item : Item) → slice_get items place ≡ Some item → reverse (take (place + 1) items) ≡ item ∷ reverse (take place items)
one_later items place item there =
    ap reverse
    (take_more items place item (slice_get_within items place item there)
    ∙ ap (λ (i : Item). take place items ++ i ∷ []) (get_or_from_slice_get items place item item there))
    ∙ reverse-append (take place items) (item ∷ [])

sent_both : (xs ys : List Item) → sent_of (xs ++ ys) ≡ sent_of ys ++ sent_of xs
sent_both [] ys = sym (append-nil (sent_of ys))
sent_both (x ∷ xs) ys = ap (λ (l : List Message). l ++ sent_in x) (sent_both xs ys) ∙ append_assoc (sent_of ys) (sent_of xs) (sent_in x)

slice_front : (xs ys : List Message) (n : ℕ) (m : Message) → slice_get xs n ≡ Some m → slice_get (xs ++ ys) n ≡ Some m
slice_front [] ys n m e = absurd cc
slice_front (x ∷ xs) ys zero m e = e
slice_front (x ∷ xs) ys (suc n) m e = slice_front xs ys n m e

-- a message of the items up to a place is one of all
sent_before : (items : List Item) (place number : ℕ) (m : Message) → message_at (reverse (take place items)) number ≡ Some m → message_at (reverse items) number ≡ Some m
sent_before items place number m there =
    ap (λ (l : List Item). message_at (reverse l) number) (sym (take-append-drop place items))
    ∙ ap (λ (l : List Item). message_at l number) (reverse-append (take place items) (drop place items))
    ∙ ap (λ (l : List Message). slice_get l number) (sent_both (reverse (drop place items)) (reverse (take place items)))
    ∙ slice_front (sent_of (reverse (take place items))) (sent_of (reverse (drop place items))) number m there

pub all_short : (items : List Item) (place : ℕ) (places : List Place) → TellPlaces places items (reverse (take place items))
    → ((number : ℕ) (m : Message) → message_at (reverse items) number ≡ Some m → IsShortMessage m) → (entered : List Item) (number : ℕ) (m : Message) → TellPlaces places items entered
    → message_at entered number ≡ Some m → IsShortMessage m
all_short items place places told short entered number m tells there =
    short number m (sent_before items place number m (sym (told_alike places items entered (reverse (take place items)) number tells told) ∙ there))

-- ---- the walk through the items

pub record AreLeftSoFar (version : ℕ) (actors : List Actor) (items : List Item) (place : ℕ) (images : List Image) (places : List Place) : Type 0 where
  pub told : TellPlaces places items (reverse (take place items))
  pub fronts : images ≡ fronts_after version actors (reverse (take place items))

pub left_none : (version : ℕ) (actors : List Actor) (items : List Item) (images : List Image) (places : List Place) → images ≡ fronts_after version actors [] → TellPlaces places items []
    → AreLeftSoFar version actors items 0 images places
left_none version actors items images places fronts told = record { told = told; fronts = fronts }

pub left_more : (version : ℕ) (actors : List Actor) (items : List Item) (place : ℕ) (images images' : List Image) (places places' : List Place) → place < length items
    → AreLeftSoFar version actors items place images places
    → ((entered : List Item) (item : Item) (others : List Actor) → TellPlaces places items entered → slice_get items place ≡ Some item → images ≡ fronts_after version others entered
    → images' ≡ fronts_after version others (item ∷ entered))
    → ((entered : List Item) (item : Item) → slice_get items place ≡ Some item → TellPlaces places items entered → TellPlaces places' items (item ∷ entered))
    → AreLeftSoFar version actors items (place + 1) images' places'
left_more version actors items place images images' places places' within so_far enters tells =
    let here = item_at items place within in
    let later = sym (one_later items place here.0 here.1) in
    record {
      told = subst (λ (entered : List Item). TellPlaces places' items entered) later (tells (reverse (take place items)) here.0 here.1 so_far.told);
      fronts =
          subst (λ (entered : List Item). images' ≡ fronts_after version actors entered) later
          (enters (reverse (take place items)) here.0 actors so_far.told here.1 so_far.fronts);
    }

with_gates : (version : ℕ) (entered : List Item) (actors : List Actor)
    → map closed (fronts_after version actors entered) ≡ map (λ (a : Actor). record { actor = a; bytes = journal_bytes version (payloads_in a entered) }) actors
with_gates version entered [] = refl
with_gates version entered (a ∷ actors) = ap (λ (l : List Image). record { actor = a; bytes = journal_bytes version (payloads_in a entered) } ∷ l) (with_gates version entered actors)

pub left_all : (plan : Content) (items : List Item) (place : ℕ) (images images' : List Image) (places : List Place) → length items ≤ place
    → AreLeftSoFar plan.version (actors_rising plan.topology) items place images places → images' ≡ map closed images → images' ≡ images_left plan (reverse items)
left_all plan items place images images' places long so_far are =
    are ∙ ap (map closed) (so_far.fronts ∙ ap (λ (l : List Item). fronts_after plan.version (actors_rising plan.topology) (reverse l)) (take_all place items long))
    ∙ with_gates plan.version (reverse items) (actors_rising plan.topology)

-- what stands in a list of journals after all of it was lent
pub written_back : (new old : List Image) (long : ℕ) → length new ≡ length old → long ≡ length old → take long (new ++ drop (length new) old) ≡ new
written_back new old long same counted =
    ap (λ (l : List Image). take long (new ++ l)) (drop_all (length new) old (omega (arith, same))) ∙ ap (take long) (append-nil new) ∙ take_all long new (omega (arith, same, counted))

-- ---- the walk through the journals

-- of the first actors these stand after the item, of the others before it
abbrev pub AreEnteredUpTo : ℕ → List Item → Item → List Actor → ℕ → List Image → Type 0
AreEnteredUpTo version entered item actors i images =
    images ≡ map (image_after version (item ∷ entered)) (take i actors) ++ map (image_after version entered) (drop i actors)

walked : (before after : Actor → Image) (actors : List Actor) (images : List Image) (i : ℕ) (x x' : Image) → i < length images
    → images ≡ map after (take i actors) ++ map before (drop i actors) → x ≡ get_or images i x → ((a : Actor) → x ≡ before a → x' ≡ after a)
    → set images i x' ≡ map after (take (i + 1) actors) ++ map before (drop (i + 1) actors)
walked before after actors images i x x' lt are at changes =
    let within : i < length actors =
    omega (arith, lt, ap length are, length-append (map after (take i actors)) (map before (drop i actors)), length-map (take i actors) after, length-map (drop i actors) before, length-append (take i actors) (drop i actors), ap length (take-append-drop i actors)) in
    let a : Actor = get_or actors i x.actor in
    let rest : List Image = map before (drop (i + 1) actors) in
    let now : images ≡ map after (take i actors) ++ before a ∷ rest = are ∙ ap (λ (l : List Actor). map after (take i actors) ++ map before l) (drop_more actors i x.actor within) in
    let front : length (map after (take i actors)) ≡ i = length-map (take i actors) after ∙ length-take-le i actors (omega (arith, within)) in
    let old : x ≡ before a = at ∙ ap (λ (l : List Image). get_or l i x) now ∙ get_or_at (map after (take i actors)) (before a) rest x i front in
    ap (λ (l : List Image). set l i x') now ∙ set_at (map after (take i actors)) (before a) rest x' i front
    ∙ ap (λ (y : Image). map after (take i actors) ++ y ∷ rest) (changes a old) ∙ sym (append_assoc (map after (take i actors)) (after a ∷ []) rest)
    ∙ ap (λ (l : List Image). l ++ rest) (sym (map-append after (take i actors) (a ∷ [])) ∙ ap (map after) (sym (take_more actors i x.actor within)))

-- all journals
pub all_entered : (version : ℕ) (entered : List Item) (item : Item) (actors : List Actor) (images : List Image) (i : ℕ) → length images ≤ i → AreEnteredUpTo version entered item actors i images
    → images ≡ fronts_after version actors (item ∷ entered)
all_entered version entered item actors images i long are =
    let after : Actor → Image = image_after version (item ∷ entered) in
    let before : Actor → Image = image_after version entered in
    let many : length actors ≤ i =
    omega (arith, long, ap length are, length-append (map after (take i actors)) (map before (drop i actors)), length-map (take i actors) after, length-map (drop i actors) before, length-append (take i actors) (drop i actors), ap length (take-append-drop i actors)) in
    are ∙ (λ k. map after (take_all i actors many k) ++ map before (drop_all i actors many k)) ∙ append-nil (map after actors)

same_image : (i j : Image) → i.actor ≡ j.actor → i.bytes ≡ j.bytes → i ≡ j
same_image i j a b = λ k. record { actor = a k; bytes = b k }

module _ (version : ℕ) (entered : List Item) (e : Entry) (x x' : Image) where
  own_after : e.actor ≡ x.actor → x'.actor ≡ x.actor
      → ((payloads : List (List ℕ)) → x.bytes ≡ front_of version payloads → x'.bytes ≡ front_of version (payloads ++ payload_by entered e.actor e.event e.emitted.notes))
      → (a : Actor) → x ≡ image_after version entered a → x' ≡ image_after version (Step e ∷ entered) a
  own_after own same puts a is =
      let who : x.actor ≡ a = ap (λ (i : Image). i.actor) is in
      let whose : e.actor ≡ a = own ∙ who in
      let its : same_actor e.actor a ≡ true = eq-eqb e.actor.0 a.0 (ap (λ (b : Actor). b.0) whose) in
      same_image x' (image_after version (Step e ∷ entered) a) (same ∙ who)
      (puts (payloads_in a entered) (ap (λ (i : Image). i.bytes) is)
      ∙ ap (λ (b : Actor). front_of version (payloads_in a entered ++ payload_by entered b e.event e.emitted.notes)) whose
      ∙ ap (λ (t : Bool). front_of version (payloads_in a entered ++ cond t (payload_by entered a e.event e.emitted.notes) [])) (sym its))

  other_after : same_actor e.actor x.actor ≡ false → x' ≡ x → (a : Actor) → x ≡ image_after version entered a → x' ≡ image_after version (Step e ∷ entered) a
  other_after differs same a is =
      let who : x.actor ≡ a = ap (λ (i : Image). i.actor) is in
      let none : same_actor e.actor a ≡ false = ap (λ (b : Actor). same_actor e.actor b) (sym who) ∙ differs in
      same ∙ is
      ∙ same_image (image_after version entered a) (image_after version (Step e ∷ entered) a) refl
      (ap (front_of version)
      (sym (append-nil (payloads_in a entered)) ∙ ap (λ (t : Bool). payloads_in a entered ++ cond t (payload_by entered a e.event e.emitted.notes) []) (sym none)))

-- the entry is put into the journal of its actor
pub own_entered : (version : ℕ) (entered : List Item) (item : Item) (e : Entry) (actors : List Actor) (images : List Image) (i : ℕ) (x x' : Image) → item ≡ Step e → i < length images
    → AreEnteredUpTo version entered item actors i images → x ≡ get_or images i x → e.actor ≡ x.actor → x'.actor ≡ x.actor
    → ((payloads : List (List ℕ)) → x.bytes ≡ front_of version payloads → x'.bytes ≡ front_of version (payloads ++ payload_by entered e.actor e.event e.emitted.notes))
    → AreEnteredUpTo version entered item actors (i + 1) (set images i x')
own_entered version entered item e actors images i x x' is lt are at own same puts =
    walked (image_after version entered) (image_after version (item ∷ entered)) actors images i x x' lt are at
    (λ a there. own_after version entered e x x' own same puts a there ∙ ap (λ (it : Item). image_after version (it ∷ entered) a) (sym is))

-- the journal of another stays
pub other_entered : (version : ℕ) (entered : List Item) (item : Item) (e : Entry) (actors : List Actor) (images : List Image) (i : ℕ) (x : Image) → item ≡ Step e → i < length images
    → AreEnteredUpTo version entered item actors i images → x ≡ get_or images i x → same_actor e.actor x.actor ≡ false
    → AreEnteredUpTo version entered item actors (i + 1) (set images i x)
other_entered version entered item e actors images i x is lt are at differs =
    walked (image_after version entered) (image_after version (item ∷ entered)) actors images i x x lt are at
    (λ a there. other_after version entered e x x differs refl a there ∙ ap (λ (it : Item). image_after version (it ∷ entered) a) (sym is))

-- what isn't a step is put nowhere
pub none_entered : (version : ℕ) (entered : List Item) (item : Item) (actors : List Actor) → ((a : Actor) → payload_in a entered item ≡ [])
    → fronts_after version actors entered ≡ fronts_after version actors (item ∷ entered)
none_entered version entered item [] none = refl
none_entered version entered item (a ∷ actors) none =
    let here : image_after version entered a ≡ image_after version (item ∷ entered) a =
    same_image (image_after version entered a) (image_after version (item ∷ entered) a) refl
    (ap (front_of version) (sym (append-nil (payloads_in a entered)) ∙ ap (λ (l : List (List ℕ)). payloads_in a entered ++ l) (sym (none a)))) in
    let others = none_entered version entered item actors none in
    λ k. here k ∷ others k

-- ---- what an item shows

-- the item at a place, by what it shows
pub shown_step : (items : List Item) (place : ℕ) (item : Item) (shown : Shown) (out : List Message) (actor : Actor) (lost : Bool) (event : Event) (notes : Bor (List Note))
    → slice_get items place ≡ Some (with_sent shown out) → slice_get items place ≡ Some item → shown ≡ StepShown actor lost event notes
    → item ≡ Step (record { actor = actor; lost = lost; event = event; emitted = record { notes = notes.now; out = out } })
shown_step items place item shown out actor lost event notes first second is =
    same_Some item (with_sent shown out) (sym second ∙ first) ∙ ap (λ (s : Shown). with_sent s out) is

-- what is no step puts nothing into a journal
abbrev pub IsNoStep : Shown → Type 0
IsNoStep (StepShown actor lost event notes) = ⊥
IsNoStep (SkippedShown step cause) = Unit {0}
IsNoStep (DownShown actor) = Unit {0}

nothing : (shown : Shown) (out : List Message) (a : Actor) (entered : List Item) → IsNoStep shown → payload_in a entered (with_sent shown out) ≡ []
nothing (StepShown actor lost event notes) out a entered other = absurd other
nothing (SkippedShown step cause) out a entered other = refl
nothing (DownShown actor) out a entered other = refl

pub nothing_entered : (version : ℕ) (items entered : List Item) (place : ℕ) (item : Item) (shown : Shown) (out : List Message) (actors : List Actor) (images : List Image) → IsNoStep shown
    → slice_get items place ≡ Some (with_sent shown out) → slice_get items place ≡ Some item → images ≡ fronts_after version actors entered
    → images ≡ fronts_after version actors (item ∷ entered)
nothing_entered version items entered place item shown out actors images other first second are =
    let is : item ≡ with_sent shown out = same_Some item (with_sent shown out) (sym second ∙ first) in
    are ∙ none_entered version entered item actors (λ a. ap (λ (i : Item). payload_in a entered i) is ∙ nothing shown out a entered other)
