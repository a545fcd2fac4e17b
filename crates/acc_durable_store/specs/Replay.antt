-- The store that the payloads of a journal give back.
use Rattle.std.specs.Prelude.{◌≡◌, ℕ, ◌+◌, ◌^◌, ◌<◌, ◌≤◌, true, List, length}
use Rattle.acc_stamp.specs.declared.actors.Actor.{Actor}
use Rattle.acc_topology.specs.Layout.{Layout}
use Rattle.acc_message.specs.declared.message.Message.{Message}
use Rattle.acc_message.specs.Fields.{top_of}
use Rattle.acc_message.specs.StoreRules.{replay}
use Rattle.acc_record.specs.Stands.{IsFor}
use Rattle.acc_store.specs.Stands as store
use Rattle.acc_payloads.specs.declared.store.StorePayload.{StorePayload}
use Rattle.acc_payloads.specs.declared.store.StorePayload.TheVariants.{Mark, Takes}
use Rattle.acc_payloads.specs.Store.{store_bytes, StoreMay, IsStoreJournal, has_mark, taken_in}
use Rattle.acc_payloads.specs.Items.{without_marks}
use Rattle.acc_durable_store.specs.declared.replay.Replayed.{Replayed}

-- They are a store's journal, and this is the replay of it.
pub record IsReplayOf (layout : Layout) (version : ℕ) (own : Actor) (payloads : List (List ℕ)) (r : Replayed) : Type 0 where
  pub items : List StorePayload
  pub journal : IsStoreJournal layout version own payloads items
  pub actor : store.actor_of r.store ≡ own
  pub stands : store.StandsFor layout r.store (replay layout own (taken_in items))
  pub marked : r.marked ≡ has_mark items
  pub kept : r.kept ≡ length (without_marks payloads)

-- it is the replay of some payloads
abbrev pub IsReplay : Layout → ℕ → Actor → Replayed → Type 0
IsReplay layout version own r = (payloads : List (List ℕ)) × IsReplayOf layout version own payloads r

-- nothing that may stand after these is spelled so
abbrev pub IsBad : Layout → ℕ → Actor → List StorePayload → List ℕ → Type 0
IsBad layout version own before payload = (p : StorePayload) → payload ≡ store_bytes p → StoreMay layout version own before p → ⊥

-- ---- one payload

-- a message that it takes goes to the store and names no h that is too high
abbrev pub MayTake : Replayed → StorePayload → Type 0
MayTake r Mark = Unit {0}
MayTake r (Takes m) = IsFor (store.actor_of r.store) m × (top_of m < 2 ^ 62)

-- a message whose turn comes when the store drew a stamp that is too high
abbrev pub IsTooHigh : Replayed → StorePayload → Type 0
IsTooHigh r Mark = ⊥
IsTooHigh r (Takes m) = 2 ^ 62 ≤ store.greatest_in r.store

pub record TakesMessage (layout : Layout) (old new : Replayed) (m : Message) : Type 0 where
  pub low : store.greatest_in old.store < 2 ^ 62
  pub sent : List Message
  pub answers : store.Answers layout old.store new.store m sent
  pub marked : new.marked ≡ old.marked
  pub kept : new.kept ≡ old.kept + 1

abbrev pub HasTaken : Layout → Replayed → Replayed → StorePayload → Type 0
HasTaken layout old new Mark = new ≡ record old { marked = true }
HasTaken layout old new (Takes m) = TakesMessage layout old new m
