-- What items tell of outcomes that reached stores, and of attempts that were ended, as tables.
use Rattle.std.specs.Prelude.{◌≡◌, ◌&&◌, Bool, false, List, ◌++◌, length, Option, None, Some}
use Rattle.std.specs.List.{list_any}
use Rattle.std.specs.Ordering.{ordering_then}
use Rattle.std.specs.declared.cmp.Ordering.{Ordering}
use Rattle.std.specs.BTreeMap.{is_at}
use Rattle.acc_stamp.specs.declared.stamps.TxnId.{TxnId}
use Rattle.acc_stamp.specs.declared.stamps.Ballot.{Ballot}
use Rattle.acc_stamp.specs.declared.actors.Actor.{Actor}
use Rattle.acc_stamp.specs.Actor.{actor_cmp}
use Rattle.acc_stamp.specs.Stamp.{id_cmp, id_eq, ballot_cmp}
use Rattle.acc_message.specs.declared.item.Item.{Item}
use Rattle.acc_message.specs.declared.entry.Event.{Event}
use Rattle.acc_message.specs.declared.entry.Event.TheVariants.{Message as TakesMessage}
use Rattle.acc_message.specs.declared.item.Item.TheVariants.{Step, Skipped, Down}
use Rattle.acc_message.specs.Items.{same_actor, sent_of}
use Rattle.acc_message.specs.Run.{Cluster}
use Rattle.acc_delivered.specs.Ends.{took_apply, is_ended}
use Rattle.acc_heal.specs.Applies.{apply_at, AreApplies}
use Rattle.acc_heal.specs.declared.seen.Seen.{Seen}

-- ---- entries of the tables

abbrev pub is_id : Option TxnId → TxnId → Bool
is_id None x = false
is_id (Some id) x = id_eq id x

abbrev pub taker_cmp : TxnId × Actor → TxnId × Actor → Ordering
taker_cmp a b = ordering_then (id_cmp a.0 b.0) (actor_cmp a.1 b.1)

abbrev pub has_taker : List (TxnId × Actor) → TxnId → Actor → Bool
has_taker keys x a = list_any (is_at (taker_cmp (x, a))) keys

abbrev pub attempt_cmp : TxnId × Ballot → TxnId × Ballot → Ordering
attempt_cmp a b = ordering_then (id_cmp a.0 b.0) (ballot_cmp a.1 b.1)

abbrev pub has_attempt : List (TxnId × Ballot) → TxnId → Ballot → Bool
has_attempt keys x b = list_any (is_at (attempt_cmp (x, b))) keys

-- an actor takes an Apply of x, where these are the Applys by their numbers
abbrev pub takes : List (Option TxnId) → Event → TxnId → Bool
takes applies (TakesMessage number) x = is_id (apply_at applies number) x
takes applies _ x = false

abbrev pub takes_apply : List (Option TxnId) → Actor → Event → TxnId → Actor → Bool
takes_apply applies actor event x a = same_actor actor a && takes applies event x

-- the same of the actor's item
abbrev pub takes_in : List (Option TxnId) → Item → TxnId → Actor → Bool
takes_in applies (Step e) x a = takes_apply applies e.actor e.event x a
takes_in applies (Skipped step cause) x a = false
takes_in applies (Down actor) x a = false

-- ---- the whole

-- the tables are those of these items, the newest first
pub record Tells (seen : Seen) (items : List Item) : Type 0 where
  pub count : seen.items ≡ length items
  pub applies : AreApplies seen.applies (sent_of items)
  pub taken : (cluster : Cluster) (x : TxnId) (a : Actor) → has_taker seen.taken.keys x a ≡ took_apply cluster items x a
  pub ended : (x : TxnId) (b : Ballot) → has_attempt seen.ended.keys x b ≡ is_ended x b items

-- they are those of the oldest of these items
pub record TellsOldest (seen : Seen) (items : List Item) : Type 0 where
  pub later : List Item
  pub oldest : List Item
  pub items_are : items ≡ later ++ oldest
  pub tells : Tells seen oldest
