-- Which turn the actor of a desk takes, of the items that its seat saw when it asked, and what it enters in it.
use Rattle.std.specs.Prelude.{◌≡◌, ◌≢◌, ◌⊎◌, ℕ, ◌+◌, true, List, [], ◌∷◌, ◌++◌, length, map, take, Some}
use Rattle.std.specs.List.{slice_get}
use mathlib.Core.List.{IsPrefix}
use Rattle.acc_stamp.specs.declared.actors.Actor.{Actor}
use Rattle.acc_message.specs.declared.entry.Emitted.{Emitted}
use Rattle.acc_message.specs.declared.entry.Event.{Event}
use Rattle.acc_message.specs.declared.entry.Event.TheVariants.{Message as MessageEvent}
use Rattle.acc_message.specs.declared.item.Item.{Item}
use Rattle.acc_message.specs.declared.item.Item.TheVariants.{Down}
use Rattle.acc_message.specs.Items.{sent_in}
use Rattle.acc_message.specs.Run.{is_node}
use Rattle.acc_message_index.specs.declared.posting.Post.{Post}
use Rattle.acc_schedule.specs.Content.{Content}
use Rattle.acc_schedule.specs.declared.plan.Step.{Step}
use Rattle.acc_free_laws.specs.Commands.{is_event_of, IsReady}
use Rattle.acc_tape.specs.ItemViews.{addressee, taken_by_item, is_lost_item}
use Rattle.acc_tape.specs.Messages.{AreOldest}
use Rattle.acc_tape.specs.Seats.{SeatView}
use Rattle.acc_desk.specs.declared.desk.Desk.{Desk}
use Rattle.acc_desk.specs.Desks.{newest, item_of}
use Rattle.acc_desk.specs.Outcomes.{IsTakenAtOnce}

-- ---- what is entered

-- an entry of the actor for each of the events, in their order, none of them lost
abbrev pub AreEntriesOf : Actor → List Event → List Item → Type 0
AreEntriesOf a [] [] = Unit {0}
AreEntriesOf a [] (item ∷ items) = ⊥
AreEntriesOf a (event ∷ events) [] = ⊥
AreEntriesOf a (event ∷ events) (item ∷ items) =
    ((emitted : Emitted) × (item ≡ item_of a event (Some emitted))) × AreEntriesOf a events items

-- these entries, or one down where the actor's disk failed
abbrev pub AreItemsFor : Actor → List Event → List Item → Type 0
AreItemsFor a events items = (items ≡ Down a ∷ []) ⊎ AreEntriesOf a events items

-- The actor entered items for these events, and its seat sees no less than before.
pub record HasEntered (a : Actor) (events : List Event) (old new : SeatView Item) : Type 0 where
  pub seen : IsPrefix old.seen new.seen
  pub items : List Item
  pub mine : new.mine ≡ old.mine ++ items
  pub items_are : AreItemsFor a events items

-- ---- what is taken

-- The actor took the command, which could be taken in what its seat saw when it asked: the actor was up, what it begins wasn't begun, and
-- what it recovers was; a restart can always be taken.
pub record TakesCommand (a : Actor) (command : Step) (old new : SeatView Item) : Type 0 where
  pub asking : SeatView Item
  pub seen : IsPrefix old.seen asking.seen
  pub mine : asking.mine ≡ old.mine
  pub ready : IsReady a (newest asking) command
  pub event : Event
  pub is_event : is_event_of command event ≡ true
  pub entered : HasEntered a (event ∷ []) asking new

-- The actor took the oldest messages that waited for it in what its seat saw when it asked, in their order; a node takes one.
pub record TakesMessages (a : Actor) (old new : SeatView Item) : Type 0 where
  pub asking : SeatView Item
  pub seen : IsPrefix old.seen asking.seen
  pub mine : asking.mine ≡ old.mine
  pub posts : List Post
  pub some : posts ≢ []
  pub one : is_node a ≡ true → length posts ≡ 1
  pub oldest : AreOldest taken_by_item (λ item. map addressee (sent_in item)) is_lost_item asking.seen a.0 0 posts
  pub entered : HasEntered a (map (λ (post : Post). MessageEvent post.number) posts) asking new

-- none of the commands that is next is taken whatever stands on the tape
abbrev pub NoneAtOnce : Content → List Step → ℕ → Type 0
NoneAtOnce plan commands gone = (command : Step) → slice_get commands gone ≡ Some command → ¬ IsTakenAtOnce plan (take gone commands) command

-- the desk took the command, which went by
abbrev pub HasTakenCommand : {D J : Type 0} → Step → Desk D J → Desk D J → Type 0
HasTakenCommand command old new = (new.gone ≡ old.gone + 1) × TakesCommand old.actor command old.seat new.seat

-- the one that was next
abbrev pub HasTakenNext : {D J : Type 0} → Desk D J → Desk D J → Type 0
HasTakenNext old new = (command : Step) × (slice_get old.commands old.gone ≡ Some command) × HasTakenCommand command old new

-- it took messages, and no command went by
abbrev pub HasTakenMessages : {D J : Type 0} → Desk D J → Desk D J → Type 0
HasTakenMessages old new = (new.gone ≡ old.gone) × TakesMessages old.actor old.seat new.seat

-- The turn that a desk took: its next command where that can be taken, and else messages. That a transaction which it is to recover was
-- begun may be seen later.
abbrev pub HasTaken : {D J : Type 0} → Content → Desk D J → Desk D J → Type 0
HasTaken plan old new = HasTakenNext old new ⊎ (NoneAtOnce plan old.commands old.gone × HasTakenMessages old new)
