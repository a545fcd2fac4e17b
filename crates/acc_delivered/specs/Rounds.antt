-- A round: one recover of a transaction, and then the delivery of all that came of it and of nothing else.
use Rattle.std.specs.Prelude.{◌≡◌, ℕ, Bool, true, false, not, ◌&&◌, List, [], ◌∷◌, ◌++◌, IsTrue}
use Rattle.std.specs.List.{list_all}
use Rattle.acc_stamp.specs.declared.stamps.TxnId.{TxnId}
use Rattle.acc_stamp.specs.declared.stamps.Ballot.{Ballot}
use Rattle.acc_stamp.specs.declared.actors.Actor.{Actor}
use Rattle.acc_message.specs.declared.entry.Entry.{Entry}
use Rattle.acc_message.specs.declared.entry.Event.{Event}
use Rattle.acc_message.specs.declared.entry.Event.TheVariants.{Begin, Recover, Slow, Message as TakesMessage, Restart}
use Rattle.acc_message.specs.declared.note.Note.TheVariants.{Recover as RecoverNote}
use Rattle.acc_message.specs.declared.item.Item.{Item}
use Rattle.acc_message.specs.declared.item.Item.TheVariants.{Step, Skipped, Down}
use Rattle.acc_delivered.specs.Stretches.{TakesOwn, TakesAll}

abbrev pub is_taking : Event → Bool
is_taking (Begin txn) = false
is_taking (Recover txn) = false
is_taking (Slow txn) = false
is_taking (TakesMessage number) = true
is_taking (Restart kept) = false

-- an entry that takes a message and isn't lost
abbrev pub is_delivery : Item → Bool
is_delivery (Step e) = is_taking e.event && not e.lost
is_delivery (Skipped step cause) = false
is_delivery (Down actor) = false

-- the entry is a recover of x by the actor, which draws the ballot
pub record IsRecover (a : Actor) (x : TxnId) (b : Ballot) (e : Entry) : Type 0 where
  pub txn : ℕ
  pub event_is : e.event ≡ Recover txn
  pub actor_is : e.actor ≡ a
  pub noted : e.emitted.notes ≡ RecoverNote x b ∷ []

-- the later items are the recover and these deliveries
pub record IsRound (a : Actor) (x : TxnId) (b : Ballot) (base later : List Item) : Type 0 where
  pub entry : Entry
  pub deliveries : List Item
  pub items_are : later ≡ deliveries ++ Step entry ∷ []
  pub recover : IsRecover a x b entry
  pub kept : entry.lost ≡ false
  pub only : IsTrue (list_all is_delivery deliveries)
  pub own : TakesOwn base later
  pub all : TakesAll base later
