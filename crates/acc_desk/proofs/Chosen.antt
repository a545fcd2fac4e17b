-- Which turn a desk took, and what it entered in it.
use Rattle.std.proofs.Common.{◌≡◌, ◌≢◌, ℕ, zero, suc, ◌+◌, ◌<◌, Bool, true, false, List, [], ◌∷◌, ◌++◌, length, map, take, Option, None, Some, refl, sym, ◌∙◌, ap, subst, inl, inr, arith, length-append}
use Rattle.std.specs.List.{slice_get}
use Rattle.std.proofs.lemmas.Bool.{true≢false}
use Rattle.std.proofs.lemmas.List.{append_assoc, append-nil}
use mathlib.Core.List.{IsPrefix}
use Rattle.acc_stamp.specs.declared.actors.Actor.{Actor}
use Rattle.acc_message.specs.declared.entry.Emitted.{Emitted}
use Rattle.acc_message.specs.declared.entry.Event.{Event}
use Rattle.acc_message.specs.declared.entry.Event.TheVariants.{Message as MessageEvent}
use Rattle.acc_message.specs.declared.item.Item.{Item}
use Rattle.acc_message.specs.declared.item.Item.TheVariants.{Down}
use Rattle.acc_message.specs.declared.message.Message.{Message}
use Rattle.acc_message.specs.Items.{sent_in}
use Rattle.acc_message.specs.Run.{Cluster, is_node}
use Rattle.acc_message_index.specs.declared.posting.Post.{Post}
use Rattle.acc_payloads.specs.declared.stops.Unsent.{Unsent}
use Rattle.acc_schedule.specs.declared.plan.Step.{Step}
use Rattle.acc_schedule_runs.specs.Situations.{Situation}
use Rattle.acc_schedule_runs.specs.Moves.{entered}
use Rattle.acc_actors.specs.Asked.{AreSteps}
use Rattle.acc_free_laws.specs.Commands.{is_event_of, IsReady}
use Rattle.acc_tape.specs.ItemViews.{addressee, taken_by_item, is_lost_item}
use Rattle.acc_tape.specs.Messages.{AreOldest, posts_in}
use Rattle.acc_tape.specs.Seats.{SeatView}
use Rattle.acc_desk.specs.Desks.{newest, item_of}
use Rattle.acc_desk.specs.Groups.{events_of, joining_of, item_of_unsent}
use Rattle.acc_desk.proofs.Asking.{IsOldestHere}
use Rattle.acc_desk.specs.Choices.{AreEntriesOf, AreItemsFor, HasEntered, TakesCommand, TakesMessages}

-- ---- fronts of lists

pub front_itself : {X : Type 0} (xs : List X) → IsPrefix xs xs
front_itself xs = ([], append-nil xs)

pub front_on : {X : Type 0} (xs ys zs : List X) → IsPrefix xs ys → IsPrefix ys zs → IsPrefix xs zs
front_on {X} xs ys zs p q = (p.0 ++ q.0, sym (append_assoc xs p.0 q.0) ∙ ap (λ (l : List X). l ++ q.0) p.1 ∙ q.1)

-- ---- what was entered

items_for_one : (a : Actor) (event : Event) (given : Option Emitted) → AreItemsFor a (event ∷ []) (item_of a event given ∷ [])
items_for_one a event None = inl refl
items_for_one a event (Some emitted) = inr ((emitted, refl), tt)

-- one item, after what others entered meanwhile
pub entered_one : (a : Actor) (event : Event) (given : Option Emitted) (item : Item) (old mid new : SeatView Item) → item ≡ item_of a event given
    → IsPrefix old.seen mid.seen → IsPrefix mid.seen new.seen → mid.mine ≡ old.mine → new.mine ≡ mid.mine ++ item ∷ [] → HasEntered a (event ∷ []) old new
entered_one a event given item old mid new is one two same mine =
    record {
      seen = front_on old.seen mid.seen new.seen one two;
      items = item ∷ [];
      mine = mine ∙ ap (λ (l : List Item). l ++ item ∷ []) same;
      items_are = subst (λ (i : Item). AreItemsFor a (event ∷ []) (i ∷ [])) (sym is) (items_for_one a event given);
    }

-- that the actor went down
pub entered_down : (a : Actor) (events : List Event) (old new : SeatView Item) → IsPrefix old.seen new.seen → new.mine ≡ old.mine ++ Down a ∷ [] → HasEntered a events old new
entered_down a events old new seen mine = record { seen = seen; items = Down a ∷ []; mine = mine; items_are = inl refl }

steps_are_entries : (cluster : Cluster) (s : Situation) (a : Actor) (events : List Event) (lost : Bool) (unsent : List Unsent) → AreSteps cluster s a events lost unsent
    → AreEntriesOf a events (map (item_of_unsent a) unsent)
steps_are_entries cluster s a [] lost [] steps = tt
steps_are_entries cluster s a [] lost (one ∷ unsent) steps = absurd steps
steps_are_entries cluster s a (event ∷ events) lost [] steps = absurd steps
steps_are_entries cluster s a (event ∷ events) lost (one ∷ unsent) steps = (
  (one.emitted, ap (λ (e : Event). item_of a e (Some one.emitted)) steps.0),
  steps_are_entries cluster (entered cluster s a event lost) a events lost unsent steps.2,
)

-- what was settled
pub entered_steps : (cluster : Cluster) (s : Situation) (a : Actor) (events : List Event) (unsent : List Unsent) (old new : SeatView Item) → AreSteps cluster s a events false unsent
    → IsPrefix old.seen new.seen → new.mine ≡ old.mine ++ map (item_of_unsent a) unsent → HasEntered a events old new
entered_steps cluster s a events unsent old new steps seen mine =
    record { seen = seen; items = map (item_of_unsent a) unsent; mine = mine; items_are = inr (steps_are_entries cluster s a events false unsent steps) }

-- which makes what it entered longer, where anything was
pub longer_by : (a : Actor) (unsent : List Unsent) (old new : List Item) → unsent ≢ [] → new ≡ old ++ map (item_of_unsent a) unsent → length old < length new
longer_by a [] old new some is = absurd (some refl)
longer_by a (one ∷ unsent) old new some is =
    let n = ap (λ (l : List Item). length l) is in
    let m = length-append old (map (item_of_unsent a) (one ∷ unsent)) in
    omega arith

-- ---- what was taken

-- the command could be taken in what the seat had seen
pub takes_now : (a : Actor) (command : Step) (event : Event) (old new : SeatView Item) → IsReady a (newest old) command → is_event_of command event ≡ true
    → HasEntered a (event ∷ []) old new → TakesCommand a command old new
takes_now a command event old new ready is entered =
    record { asking = old; seen = front_itself old.seen; mine = refl; ready = ready; event = event; is_event = is; entered = entered }

-- or in what it saw when it looked
pub takes_then : (a : Actor) (command : Step) (event : Event) (old mid new : SeatView Item) → IsPrefix old.seen mid.seen → mid.mine ≡ old.mine → IsReady a (newest mid) command
    → is_event_of command event ≡ true → HasEntered a (event ∷ []) mid new → TakesCommand a command old new
takes_then a command event old mid new seen mine ready is entered =
    record { asking = mid; seen = seen; mine = mine; ready = ready; event = event; is_event = is; entered = entered }

-- messages that a seat takes are those that it takes after it looked for something else
pub messages_since : (a : Actor) (old mid new : SeatView Item) → IsPrefix old.seen mid.seen → mid.mine ≡ old.mine → TakesMessages a mid new → TakesMessages a old new
messages_since a old mid new seen mine takes =
    record {
      asking = takes.asking;
      seen = front_on old.seen mid.seen takes.asking.seen seen takes.seen;
      mine = takes.mine ∙ mine;
      posts = takes.posts;
      some = takes.some;
      one = takes.one;
      oldest = takes.oldest;
      entered = takes.entered;
    }

-- ---- what was found

abbrev Oldest : List Item → ℕ → ℕ → List Post → Type 0
Oldest seen actor from posts = AreOldest taken_by_item (λ item. map addressee (sent_in item)) is_lost_item seen actor from posts

-- the first ones of the oldest are the oldest
take_oldest : (seen : List Item) (actor from n : ℕ) (posts : List Post) → Oldest seen actor from posts → Oldest seen actor from (take n posts)
take_oldest seen actor from zero posts oldest = tt
take_oldest seen actor from (suc n) [] oldest = tt
take_oldest seen actor from (suc n) (post ∷ posts) oldest = (oldest.0, take_oldest seen actor (post.number + 1) n posts oldest.1)

-- the events of those that joined
events_taken : (n : ℕ) (found : List (Post × Message)) → map (λ (post : Post). MessageEvent post.number) (take n (posts_in found)) ≡ events_of (take n (map joining_of found))
events_taken zero found = refl
events_taken (suc n) [] = refl
events_taken (suc n) (one ∷ found) = ap (λ (l : List Event). MessageEvent one.0.number ∷ l) (events_taken n found)

some_taken : (n : ℕ) (found : List (Post × Message)) → length (take n (map joining_of found)) ≡ n → n ≢ 0 → take n (posts_in found) ≢ []
some_taken zero found long some is = some refl
some_taken (suc n) [] long some is = absurd (omega (arith, long))
some_taken (suc n) (one ∷ found) long some is = absurd (cc)

-- what is entered after others entered something
pub entered_since : (a : Actor) (events : List Event) (old mid new : SeatView Item) → IsPrefix old.seen mid.seen → mid.mine ≡ old.mine → HasEntered a events mid new → HasEntered a events old new
entered_since a events old mid new seen mine entered =
    record {
      seen = front_on old.seen mid.seen new.seen seen entered.seen;
      items = entered.items;
      mine = entered.mine ∙ ap (λ (l : List Item). l ++ entered.items) mine;
      items_are = entered.items_are;
    }

-- a group takes the first ones of those that were found
pub takes_found : (a : Actor) (old mid new : SeatView Item) (found : List (Post × Message)) (n : ℕ) → IsPrefix old.seen mid.seen → mid.mine ≡ old.mine → is_node a ≡ false
    → Oldest mid.seen a.0 0 (posts_in found) → length (take n (map joining_of found)) ≡ n → n ≢ 0 → HasEntered a (events_of (take n (map joining_of found))) mid new → TakesMessages a old new
takes_found a old mid new found n seen mine kind oldest long some entered =
    record {
      asking = mid;
      seen = seen;
      mine = mine;
      posts = take n (posts_in found);
      some = some_taken n found long some;
      one = λ is. absurd (true≢false (sym is ∙ kind));
      oldest = take_oldest mid.seen a.0 0 n (posts_in found) oldest;
      entered = subst (λ (events : List Event). HasEntered a events mid new) (sym (events_taken n found)) entered;
    }

-- a node takes the first one
pub takes_first : (a : Actor) (old mid new : SeatView Item) (found : List (Post × Message)) (pair : Post × Message) → IsPrefix old.seen mid.seen → mid.mine ≡ old.mine
    → Oldest mid.seen a.0 0 (posts_in found) → slice_get found 0 ≡ Some pair → HasEntered a (MessageEvent pair.0.number ∷ []) mid new → TakesMessages a old new
takes_first a old mid new [] pair seen mine oldest is entered = absurd (cc)
takes_first a old mid new (x ∷ found) pair seen mine oldest is entered =
    let same : x ≡ pair = cc in
    record {
      asking = mid;
      seen = seen;
      mine = mine;
      posts = pair.0 ∷ [];
      some = λ none. absurd (cc);
      one = λ is. refl;
      oldest = (subst (λ (p : Post × Message). IsOldestHere mid.seen a.0 0 p.0) same oldest.0, tt);
      entered = entered;
    }
