-- Which commands of an actor went by in some items. Turns aren't items: a command whose step a fault stopped entered a down, and one
-- that was passed over entered nothing.
use Rattle.std.specs.Prelude.{◌≡◌, Bool, true, false, List, [], ◌∷◌, Option, None, Some}
use Rattle.acc_stamp.specs.declared.actors.Actor.{Actor}
use Rattle.acc_message.specs.declared.entry.Entry.{Entry}
use Rattle.acc_message.specs.declared.item.Item.{Item}
use Rattle.acc_message.specs.declared.item.Item.TheVariants.{Step as StepItem, Down}
use Rattle.acc_message.specs.Items.{same_actor}
use Rattle.acc_message.specs.Run.{is_down}
use Rattle.acc_payloads.specs.Items.{is_item_of}
use Rattle.acc_schedule.specs.declared.plan.Step.{Step}
use Rattle.acc_free_laws.specs.Commands.{is_restart, is_event_of, is_message, IsPassed}

-- an entry of the actor, not lost, that takes a message; and a lost one
abbrev pub IsDelivered : Actor → Entry → Bool → Type 0
IsDelivered a e lost = (same_actor e.actor a ≡ true) × (is_message e.event ≡ true) × (e.lost ≡ lost)

-- an entry of the actor, lost or not, that is the command's
abbrev pub IsTakenBy : Actor → Entry → Step → Bool → Type 0
IsTakenBy a e command lost = (same_actor e.actor a ≡ true) × (is_event_of command e.event ≡ true) × (e.lost ≡ lost)

-- The items and the commands that went by in them, the newest first both, and the command whose own turn entered the actor's last
-- down, as long as its step can still be kept. Each command that went by has one of these places:
--     took, came_up      its entry, the second of a restart
--     stopped, stayed      a down that its turn entered, the second that of a restart whose disk failed
--     passed      it was passed over there
-- An actor that is down goes down again only by a restart of its own, so its downs are as few as its commands, and one.
-- A kept step is that of the command whose turn entered the down.
pub data Went (a : Actor) : List Item → List Step → Option Step → Type 0 where
  begins : Went a [] [] None
  aside : (item : Item) (items : List Item) (gone : List Step) (stop : Option Step) → is_item_of a item ≡ false → Went a items gone stop
      → Went a (item ∷ items) gone stop
  delivered : (e : Entry) (items : List Item) (gone : List Step) (stop : Option Step) → IsDelivered a e false → Went a items gone stop
      → Went a (StepItem e ∷ items) gone stop
  took : (e : Entry) (command : Step) (items : List Item) (gone : List Step) (stop : Option Step) → IsTakenBy a e command false
      → is_restart command ≡ false → Went a items gone stop → Went a (StepItem e ∷ items) (command ∷ gone) stop
  came_up : (e : Entry) (command : Step) (items : List Item) (gone : List Step) (stop : Option Step) → IsTakenBy a e command false
      → is_restart command ≡ true → Went a items gone stop → Went a (StepItem e ∷ items) (command ∷ gone) None
  stopped : (actor : Actor) (command : Step) (items : List Item) (gone : List Step) (stop : Option Step) → same_actor actor a ≡ true
      → is_restart command ≡ false → is_down a items ≡ false → Went a items gone stop → Went a (Down actor ∷ items) (command ∷ gone) (Some command)
  stayed : (actor : Actor) (command : Step) (items : List Item) (gone : List Step) (stop : Option Step) → same_actor actor a ≡ true
      → is_restart command ≡ true → Went a items gone stop → Went a (Down actor ∷ items) (command ∷ gone) stop
  went_down : (actor : Actor) (items : List Item) (gone : List Step) (stop : Option Step) → same_actor actor a ≡ true → is_down a items ≡ false
      → Went a items gone stop → Went a (Down actor ∷ items) gone None
  kept : (e : Entry) (command : Step) (items : List Item) (gone : List Step) → IsTakenBy a e command true → Went a items gone (Some command)
      → Went a (StepItem e ∷ items) gone None
  kept_message : (e : Entry) (items : List Item) (gone : List Step) → IsDelivered a e true → Went a items gone None
      → Went a (StepItem e ∷ items) gone None
  passed : (command : Step) (items : List Item) (gone : List Step) (stop : Option Step) → IsPassed a items command → Went a items gone stop
      → Went a items (command ∷ gone) stop
