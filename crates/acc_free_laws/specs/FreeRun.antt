-- What holds of the items of actors that step freely, at every moment.
use Rattle.std.specs.Prelude.{◌≡◌, ◌≤◌, Bool, true, false, IsTrue, List, [], ◌∷◌, Contains}
use Rattle.std.specs.List.{AllByRecursion, list_any, list_all}
use Rattle.acc_stamp.specs.declared.actors.Actor.{Actor}
use Rattle.acc_topology.specs.Layout.{Layout}
use Rattle.acc_message.specs.declared.entry.Event.{Event}
use Rattle.acc_message.specs.declared.entry.Event.TheVariants.{Slow, Message as MessageEvent}
use Rattle.acc_message.specs.declared.item.Item.{Item}
use Rattle.acc_message.specs.declared.item.Item.TheVariants.{Step, Skipped, Down}
use Rattle.acc_message.specs.Run.{kept_of, is_down, IsRun}
use Rattle.acc_safety.specs.Calm.{item_takes}
use Rattle.acc_payloads.specs.Items.{is_item_of}
use Rattle.acc_schedule.specs.Actors.{actors}
use Rattle.acc_schedule.specs.Content.{Content}
use Rattle.acc_schedule_runs.specs.Schedules.{cluster_of}
use Rattle.acc_schedule_runs.specs.Situations.{Stopped, Situation}
use Rattle.acc_schedule_runs.specs.Moves.{is_journalled}

-- ---- items

-- no skip and no slow
abbrev pub is_plain_event : Event → Bool
is_plain_event (Slow txn) = false
is_plain_event _ = true

abbrev pub is_plain : Item → Bool
is_plain (Step e) = is_plain_event e.event
is_plain (Skipped step cause) = false
is_plain (Down actor) = true

-- of an actor of the cluster
abbrev pub IsKnown : Layout → Item → Type 0
IsKnown layout (Step e) = Contains (actors layout) e.actor
IsKnown layout (Skipped step cause) = Unit {0}
IsKnown layout (Down actor) = Contains (actors layout) actor

abbrev pub AreKnown : Layout → List Item → Type 0
AreKnown layout [] = Unit {0}
AreKnown layout (item ∷ earlier) = IsKnown layout item × AreKnown layout earlier

-- the message that the event takes, if it takes one, wasn't taken
abbrev pub IsUntaken : List Item → Event → Type 0
IsUntaken items (MessageEvent number) = list_any (item_takes number) items ≡ false
IsUntaken items _ = Unit {0}

abbrev pub IsUntakenBefore : List Item → Item → Type 0
IsUntakenBefore earlier (Step e) = IsUntaken earlier e.event
IsUntakenBefore earlier _ = Unit {0}

-- no message number is taken twice
abbrev pub TakenOnce : List Item → Type 0
TakenOnce [] = Unit {0}
TakenOnce (item ∷ earlier) = IsUntakenBefore earlier item × TakenOnce earlier

-- a lost entry stands after a down of its actor, with nothing but lost entries of it between
abbrev pub IsBehindDown : List Item → Item → Type 0
IsBehindDown earlier (Step e) = e.lost ≡ true → is_down e.actor earlier ≡ true
IsBehindDown earlier _ = Unit {0}

abbrev pub LostBehindDowns : List Item → Type 0
LostBehindDowns [] = Unit {0}
LostBehindDowns (item ∷ earlier) = IsBehindDown earlier item × LostBehindDowns earlier

-- a lost entry is one that a journal holds: a begin, a recover, or a message that a store took
abbrev pub IsJournalledIfLost : Item → Type 0
IsJournalledIfLost (Step e) = e.lost ≡ true → is_journalled e.actor e.event ≡ true
IsJournalledIfLost _ = Unit {0}

-- a restart kept sixteen steps at most
abbrev pub KeepsSixteen : Item → Type 0
KeepsSixteen (Step e) = kept_of e.event ≤ 16
KeepsSixteen _ = Unit {0}

-- none is the actor's
abbrev pub AreOthers : Actor → List Item → Type 0
AreOthers a [] = Unit {0}
AreOthers a (item ∷ items) = (is_item_of a item ≡ false) × AreOthers a items

-- ---- the whole

-- a run of the plan's cluster, by its actors alone, in which nothing is slowed down or skipped, no message is taken twice, and only what a
-- journal holds is entered as lost
pub record IsFreeRun (plan : Content) (items : List Item) : Type 0 where
  pub run : IsRun (cluster_of plan) items
  pub plain : IsTrue (list_all is_plain items)
  pub known : AreKnown plan.topology items
  pub once : TakenOnce items
  pub behind : LostBehindDowns items
  pub journalled : AllByRecursion IsJournalledIfLost items
  pub kept : AllByRecursion KeepsSixteen items

-- a cluster that was opened after nothing, with these items and these stopped steps
abbrev pub alone : List Item → List Stopped → Situation
alone items stopped = record { earlier = []; own = items; dropped = []; stopped = stopped }
