-- What a plan says: the changes of the step, and who waits for whom once they are made.
use Rattle.std.specs.Prelude.{◌≡◌, ℕ, false, ◌||◌, List, Some, is_some, IsTrue, Contains}
use Rattle.std.specs.Option.{option_map}
use Rattle.acc_stamp.specs.declared.stamps.TxnId.{TxnId}
use Rattle.acc_message.specs.Opening.{Change}
use Rattle.acc_actor_laws.specs.OpeningOrder.{opens_in, applies_in}
use Rattle.acc_record.specs.declared.record.Record.{Record}
use Rattle.acc_record.specs.declared.shelf.Watch.{Watch}
use Rattle.acc_record.specs.Shelf.{Records, Waits}
use Rattle.acc_record.specs.Waits.{IsWatch}
use Rattle.acc_opening.specs.Plan.{Lookup, IsPlan}
use Rattle.acc_opening.specs.declared.plan.Plan.{Plan}
use Rattle.acc_opening.specs.Lookup.{lookup}
use Rattle.acc_opening.specs.Touched.{watches_now}
use Rattle.acc_opening.specs.Turns.{changes_in}

-- a record with what the changes open and apply
abbrev pub changed : List Change → TxnId → Record → Record
changed changes x r = record r { opened = r.opened || opens_in x changes; applied = r.applied || applies_in x changes }

abbrev pub after_changes : Lookup → List Change → Lookup
after_changes at changes = λ x. option_map (changed changes x) (at x)

-- Every watch is one, and each stable transaction that isn't opened has one. Nothing here keeps a watch from standing twice in a
-- list, since nothing rests on that. It doesn't come about: a step takes watches away, and puts back at most one for each of
-- them and one for its own transaction, which had none before it was stable. If one stood twice, both would be looked at in
-- the same step and go the same way, and of one transaction only one turn comes, so nothing would be opened, applied or sent
-- twice.
pub record AreWatches (shard : ℕ) (at : Lookup) (watching : TxnId → List Watch) : Type 0 where
  pub true : (y : TxnId) (w : Watch) → Contains (watching y) w → IsWatch shard at y w
  pub all :
      (x : TxnId) (r : Record) → at x ≡ Some r → IsTrue (is_some r.stable) → r.opened ≡ false
      → (y : TxnId) × (w : Watch) × Contains (watching y) w × (w.id ≡ x)

-- the turns are the plan of the step, and the lists are those after it
pub record IsPlanned (shard : ℕ) (records : Records) (own : Record) (waits : Waits) (plan : Plan) : Type 0 where
  pub turns : IsPlan shard (lookup records own) (changes_in plan.done)
  pub waiting : AreWatches shard (after_changes (lookup records own) (changes_in plan.done)) (watches_now plan.touched waits)
