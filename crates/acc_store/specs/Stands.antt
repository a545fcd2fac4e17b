-- When a store stands for its history, and what its steps leave.
use Rattle.std.specs.Prelude.{ℕ, List}
use Rattle.acc_stamp.specs.declared.actors.Actor.{Actor}
use Rattle.acc_topology.specs.Layout.{Layout}
use Rattle.acc_message.specs.declared.message.Message.{Message}
use Rattle.acc_message.specs.Taken.{Taken}
use Rattle.acc_record.specs.Shelf.{IsSame}
use Rattle.acc_record.specs.Stands.{StandsFor as IsShelfOf, AnswersByRules}
use Rattle.acc_execute.specs.Executed.{Stands}
use Rattle.acc_store.specs.declared.store.Store.{Store}

abbrev pub actor_of : Store → Actor
actor_of store = store.shelf.actor

-- the greatest h of what it took and drew
abbrev pub greatest_in : Store → ℕ
greatest_in store = store.shelf.greatest

-- each part of what the store keeps is what the rules give from this history
abbrev pub StandsFor : Layout → Store → List Taken → Type 0
StandsFor layout store history = IsShelfOf layout store.shelf history

-- it stands for the history of some messages
abbrev pub IsStanding : Layout → Store → Type 0
IsStanding layout store = Stands layout store.shelf

-- A step: whatever messages the store stands for, what is sent is the rules' answer to the message, and the store then stands
-- for these messages and the new one.
abbrev pub Answers : Layout → Store → Store → Message → List Message → Type 0
Answers layout old new m sent = AnswersByRules layout old.shelf new.shelf m sent

-- A refused step: nothing changed, and so the store stands for what it stood for.
pub record IsAsBefore (old new : Store) : Type 0 where
  pub same : IsSame old.shelf new.shelf
  pub stands : (layout : Layout) (history : List Taken) → StandsFor layout old history → StandsFor layout new history
