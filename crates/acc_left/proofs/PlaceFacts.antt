-- Where messages stand, by their numbers.
use Rattle.std.proofs.Common.{◌≡◌, ℕ, zero, suc, ◌+◌, ◌<◌, List, [], ◌∷◌, ◌++◌, length, map, take, Option, None, Some, refl, sym, ◌∙◌, ap, append_assoc}
use Rattle.std.specs.Prelude.{option_map, slice_get, unwrap_or}
use Rattle.std.proofs.lemmas.List.{append-nil, map-append, take_more}
use Rattle.std.proofs.lemmas.Option.{slice_get-map, slice_get_within, get_or_from_slice_get}
use Rattle.acc_message.specs.declared.item.Item.{Item}
use Rattle.acc_message.specs.declared.message.Message.{Message}
use Rattle.acc_message.specs.Growing.{message_in}
use Rattle.acc_message.specs.Items.{message_at, sent_in, sent_of}
use Rattle.acc_left.specs.declared.places.Place.{Place}
use Rattle.acc_left.specs.Kept.{found, placed, sent_at, TellPlaces}

both : (places : List Place) (items entered : List Item) (number : ℕ) → TellPlaces places items entered
    → option_map (placed items) (slice_get places number) ≡ option_map found (message_at entered number)
both places items entered number tells =
    sym (slice_get-map (placed items) places number) ∙ ap (λ l. slice_get l number) tells ∙ slice_get-map found (sent_of entered) number

alone : (o : Option Message) (p : Option (Option Message)) → p ≡ option_map found o → (q : Option Message) → p ≡ Some q → q ≡ o
alone None p is q there = absurd cc
alone (Some m) p is q there = cc

-- the message at the place with this number is the one with this number
pub placed_there : (places : List Place) (items entered : List Item) (number : ℕ) (p : Place) → TellPlaces places items entered → slice_get places number ≡ Some p
    → message_in (slice_get items p.item) p.index ≡ message_at entered number
placed_there places items entered number p tells there =
    alone (message_at entered number) (option_map (placed items) (slice_get places number)) (both places items entered number tells) (placed items p)
    (ap (option_map (placed items)) there)

alike : (o p : Option Message) → option_map found o ≡ option_map found p → o ≡ p
alike None None e = refl
alike None (Some m) e = absurd cc
alike (Some m) None e = absurd cc
alike (Some m) (Some n) e = cc

-- places tell one message for each number
pub told_alike : (places : List Place) (items entered other : List Item) (number : ℕ) → TellPlaces places items entered → TellPlaces places items other
    → message_at entered number ≡ message_at other number
told_alike places items entered other number tells told =
    alike (message_at entered number) (message_at other number) (sym (both places items entered number tells) ∙ both places items other number told)

-- ---- the messages of one item

by_item : (o : Option Item) (index : ℕ) → message_in o index ≡ slice_get (unwrap_or (option_map sent_in o) []) index
by_item None index = refl
by_item (Some item) index = refl

-- the places of so many messages of the item behind those that were there
abbrev pub ArePlacedUpTo : List Item → ℕ → List Place → List Place → ℕ → Type 0
ArePlacedUpTo items place before places index = map (placed items) places ≡ map (placed items) before ++ map found (take index (sent_at items place))

pub placed_none : (items : List Item) (place : ℕ) (before : List Place) → ArePlacedUpTo items place before before 0
placed_none items place before = sym (append-nil (map (placed items) before))

pub placed_more : (items : List Item) (place : ℕ) (before places after : List Place) (index : ℕ) (p : Place) (m : Message) → ArePlacedUpTo items place before places index
    → message_in (slice_get items place) index ≡ Some m → p.item ≡ place → p.index ≡ index → after ≡ places ++ p ∷ [] → ArePlacedUpTo items place before after (index + 1)
placed_more items place before places after index p m so_far there at_item at_index pushed =
    let found_here : slice_get (sent_at items place) index ≡ Some m = sym (by_item (slice_get items place) index) ∙ there in
    let within : index < length (sent_at items place) = slice_get_within (sent_at items place) index m found_here in
    let here : placed items p ≡ Some m = ap (λ (i : ℕ). message_in (slice_get items i) p.index) at_item ∙ ap (message_in (slice_get items place)) at_index ∙ there in
    let more : take (index + 1) (sent_at items place) ≡ take index (sent_at items place) ++ m ∷ [] =
    take_more (sent_at items place) index m within ∙ ap (λ (n : Message). take index (sent_at items place) ++ n ∷ []) (get_or_from_slice_get (sent_at items place) index m m found_here) in
    ap (map (placed items)) pushed ∙ map-append (placed items) places (p ∷ [])
    ∙ ap (λ (o : Option Message). map (placed items) places ++ o ∷ []) here
    ∙ ap (λ (l : List (Option Message)). l ++ Some m ∷ []) so_far
    ∙ append_assoc (map (placed items) before) (map found (take index (sent_at items place))) (Some m ∷ [])
    ∙ ap (λ (l : List (Option Message)). map (placed items) before ++ l)
    (sym (map-append found (take index (sent_at items place)) (m ∷ [])) ∙ ap (map found) (sym more))

past : (xs : List Message) (index : ℕ) → slice_get xs index ≡ None → take index xs ≡ xs
past [] zero e = refl
past [] (suc index) e = refl
past (x ∷ xs) zero e = absurd cc
past (x ∷ xs) (suc index) e = ap (λ (l : List Message). x ∷ l) (past xs index e)

pub placed_all : (items : List Item) (place : ℕ) (before places : List Place) (index : ℕ) → ArePlacedUpTo items place before places index
    → message_in (slice_get items place) index ≡ None → map (placed items) places ≡ map (placed items) before ++ map found (sent_at items place)
placed_all items place before places index so_far ends =
    so_far ∙ ap (λ (l : List Message). map (placed items) before ++ map found l) (past (sent_at items place) index (sym (by_item (slice_get items place) index) ∙ ends))

-- one item more is entered
pub tell_more : (items entered : List Item) (place : ℕ) (item : Item) (before places : List Place) → map (placed items) places ≡ map (placed items) before ++ map found (sent_at items place)
    → slice_get items place ≡ Some item → TellPlaces before items entered → TellPlaces places items (item ∷ entered)
tell_more items entered place item before places are here tells =
    are ∙ ap (λ (l : List (Option Message)). l ++ map found (sent_at items place)) tells
    ∙ ap (λ (o : Option Item). map found (sent_of entered) ++ map found (unwrap_or (option_map sent_in o) [])) here
    ∙ sym (map-append found (sent_of entered) (sent_in item))
