-- What is kept while journals are taken from items, which are entered one after another.
use Rattle.std.specs.Prelude.{◌≡◌, ℕ, List, [], ◌∷◌, ◌++◌, map, slice_get, Option, Some, option_map, unwrap_or}
use Rattle.acc_stamp.specs.declared.actors.Actor.{Actor}
use Rattle.acc_journal.specs.Layout.{records}
use Rattle.acc_message.specs.declared.item.Item.{Item}
use Rattle.acc_message.specs.Growing.{message_in}
use Rattle.acc_message.specs.declared.message.Message.{Message}
use Rattle.acc_message.specs.Items.{sent_in, sent_of}
use Rattle.acc_payloads.specs.Items.{payloads_in}
use Rattle.acc_left.specs.declared.image.Image.{Image}
use Rattle.acc_left.specs.declared.places.Place.{Place}
use Rattle.acc_left.specs.Leaves.{marked}

-- ---- messages

abbrev pub placed : List Item → Place → Option Message
placed items p = message_in (slice_get items p.item) p.index

-- what the item at this place sent
abbrev pub sent_at : List Item → ℕ → List Message
sent_at items place = unwrap_or (option_map sent_in (slice_get items place)) []

abbrev pub found : Message → Option Message
found m = Some m

-- the places are those of the messages of the items that were entered, the newest first
abbrev pub TellPlaces : List Place → List Item → List Item → Type 0
TellPlaces places items entered = map (placed items) places ≡ map found (sent_of entered)

-- ---- journals

-- a journal of these payloads up to where its last gate will stand
abbrev pub front_of : ℕ → List (List ℕ) → List ℕ
front_of version payloads = 1 ∷ records (marked version payloads)

abbrev pub image_after : ℕ → List Item → Actor → Image
image_after version entered a = record { actor = a; bytes = front_of version (payloads_in a entered) }

-- those of the actors after the items that were entered
abbrev pub fronts_after : ℕ → List Actor → List Item → List Image
fronts_after version actors entered = map (image_after version entered) actors

-- the same journal with its last gate
abbrev pub closed : Image → Image
closed image = record { actor = image.actor; bytes = image.bytes ++ 0 ∷ [] }
