-- What a step makes of a shelf that opens and applies what a plan says.
use Rattle.std.specs.Prelude.{◌≡◌, ◌+◌, ◌≤◌, ℕ, cond, ◌||◌, ◌++◌, Bool, false, List, [], Option, None, Some, Vec, vec_len, vec_capacity}
use Rattle.std.specs.Option.{option_map}
use Rattle.std.specs.BTreeMap as tree
use Rattle.std.specs.declared.alloc.Global.{Global}
use Rattle.acc_stamp.specs.declared.stamps.Stamp.{Stamp}
use Rattle.acc_stamp.specs.declared.stamps.TxnId.{TxnId}
use Rattle.acc_stamp.specs.Stamp.{id_cmp, stamp_eq}
use Rattle.acc_stamp.specs.Actor.{shard_of}
use Rattle.acc_topology.specs.Layout.{Layout}
use Rattle.acc_value.specs.declared.key.Key.{Key}
use Rattle.acc_value.specs.Cells.{applied}
use Rattle.acc_txn.specs.declared.parts.BodyParts.{BodyParts}
use Rattle.acc_message.specs.declared.message.Message.{Message}
use Rattle.acc_message.specs.declared.message.Message.TheVariants.{Stable, Apply}
use Rattle.acc_value.specs.declared.value.Value.{Value}
use Rattle.acc_message.specs.Opening.{Change}
use Rattle.acc_message.specs.StoreRules.{replay}
use Rattle.acc_record.specs.Stands.{StandsFor}
use Rattle.acc_record.specs.declared.record.Record.{Record}
use Rattle.acc_record.specs.declared.shelf.Shelf.{Shelf}
use Rattle.acc_record.specs.declared.shelf.Watch.{Watch}
use Rattle.acc_record.specs.Shelf.{Waits, record_at, cell_at, watchers}
use Rattle.acc_record.specs.Learning.{known_or_fresh, is_below_settled, share_at, IsLearnt}
use Rattle.acc_opening.specs.Plan.{IsPlan}
use Rattle.acc_opening.specs.declared.touched.Touched.{Touched}
use Rattle.acc_opening.specs.declared.turns.Turn.{Turn}
use Rattle.acc_opening.specs.Lookup.{lookup}
use Rattle.acc_opening.specs.declared.plan.Plan.{Plan}
use Rattle.acc_opening.specs.Turns.{changes_in}
use Rattle.acc_opening.specs.Touched.{TouchedWaits, watches_now}
use Rattle.acc_opening.specs.Planned.{IsPlanned, after_changes, AreWatches}
use Rattle.acc_opening.specs.declared.releasing.Released.{Released}
use Rattle.acc_opening.specs.Release.{IsReleased}
use Rattle.acc_execute.specs.Opened.{executed}
use Rattle.acc_execute.specs.declared.step.StepParts.{StepParts}
use Rattle.acc_execute.specs.Owned.{with_settled, with_waiter, with_outcome}
use Rattle.acc_execute.specs.Now.{at_once_of}

-- ---- a turn

-- the record of a transaction after its turn: when it is opened nobody waits any more
abbrev pub after_turn : Turn → Record → Record
after_turn turn r =
    record r { opened = r.opened || turn.opens; applied = r.applied || turn.applies; waiters = cond turn.opens [] r.waiters }

-- ---- room in the lists of who waits for whom

-- there is a list, and what is added fits
abbrev pub FitsIn : Touched → Option (Vec Watch Global) → Type 0
FitsIn touched None = ⊥
FitsIn touched (Some list) = vec_len list + vec_len touched.added ≤ vec_capacity list

abbrev pub AllFit : TouchedWaits → Waits → Type 0
AllFit touched waits = (y : TxnId) (t : Touched) → tree.get id_cmp touched y ≡ Some t → FitsIn t (tree.get id_cmp waits y)

-- ---- the step

-- the shelf stands for some history
abbrev pub Stands : Layout → Shelf → Type 0
Stands layout shelf = (messages : List Message) × StandsFor layout shelf (replay layout shelf.actor messages)

-- the record with which a step begins, with what the message brings
abbrev pub IsOwnOf : Shelf → Message → Record → Type 0
IsOwnOf shelf (Stable from to x ballot body t deps) own =
    own ≡ with_waiter ballot (with_settled (record { t = t; deps = deps }) (known_or_fresh (record_at shelf.records x) x body))
IsOwnOf shelf (Apply from to x ballot body t deps outcome) own =
    own ≡ with_outcome outcome (with_settled (record { t = t; deps = deps }) (known_or_fresh (record_at shelf.records x) x body))
IsOwnOf shelf _ own = ⊥

-- what is sent before anything is opened
abbrev pub first_of : Layout → Shelf → Message → List Message
first_of layout shelf (Stable from to x ballot body t deps) = at_once_of layout shelf x ballot
first_of layout shelf _ = []

-- ---- a timestamp that was noted

abbrev pub is_vote : Option Stamp → Stamp → Bool
is_vote None t = false
is_vote (Some vote) t = stamp_eq vote t

-- the record shows it: as the vote, or after what is decided
abbrev pub shows : Option Record → Stamp → Bool
shows None t = false
shows (Some r) t = is_vote r.vote t || is_below_settled t r.stable

abbrev pub time_of : Message → Option Stamp
time_of (Stable from to x ballot body t deps) = Some t
time_of (Apply from to x ballot body t deps outcome) = Some t
time_of _ = None

-- ---- the planned step

-- The step opens and applies what the rules of a plan give for the shelf with its own record, and sends and writes what this releases,
-- after these messages.
pub record IsReadyBehind (layout : Layout) (shelf : Shelf) (first : List Message) (step : StepParts) : Type 0 where
  pub planned : IsPlanned (shard_of shelf.actor) shelf.records step.own shelf.waits step.plan
  pub released : Released
  pub releases :
      IsReleased layout shelf.actor (lookup shelf.records step.own) (changes_in step.plan.done) (cell_at shelf.cells) released
  pub sends : step.sent ≡ first ++ released.sent
  pub writes : step.writes ≡ released.writes

-- the step of the message, while the shelf is this one
pub record IsReady (layout : Layout) (shelf : Shelf) (m : Message) (step : StepParts) : Type 0 where
  pub owns : IsOwnOf shelf m step.own
  pub noted : (t : Stamp) → time_of m ≡ Some t → step.noted ≡ shows (record_at shelf.records step.own.id) t
  pub ready : IsReadyBehind layout shelf (first_of layout shelf m) step

-- what a message brings of its transaction: the body, the timestamp, and the greatest h that it names
pub record Brought : Type 0 where
  pub body : BodyParts
  pub t : Stamp
  pub top : ℕ

-- nothing but what is learnt changes, and what the plan adds to the lists of who waits for whom fits
pub record IsLearntWithRoom (old new : Shelf) (x : TxnId) (plan : Plan) (share : List (Key × Bool)) (brought : Brought) : Type 0 where
  pub learns : IsLearnt old (record new { waits = old.waits }) x brought.body share (Some brought.t) brought.top
  pub waits : (y : TxnId) → watchers new.waits y ≡ watchers old.waits y
  pub room : AllFit plan.touched new.waits

-- the records, the lists and the cells change as planned
pub record IsCommitted (old new : Shelf) (own : Record) (plan : Plan) (writes : List (Key × Option Value)) : Type 0 where
  pub actor : new.actor ≡ old.actor
  pub index : new.index ≡ old.index
  pub greatest : new.greatest ≡ old.greatest
  pub records :
      (y : TxnId) → record_at new.records y ≡ option_map (executed (changes_in plan.done) y) (lookup old.records own y)
  pub waits : (y : TxnId) → watchers new.waits y ≡ watches_now plan.touched old.waits y
  pub cells : (key : Key) → cell_at new.cells key ≡ applied (cell_at old.cells) writes key

-- The step follows a plan over the records with its own one: it sends and writes what the plan releases, notes what it learns,
-- and leaves the records and the lists of who waits for whom as the plan does.
pub record IsExecuted (layout : Layout) (old new : Shelf) (own : Record) (brought : Brought) (first sent : List Message) : Type 0 where
  pub changes : List Change
  pub plan : IsPlan (shard_of old.actor) (lookup old.records own) changes
  pub released : Released
  pub releases : IsReleased layout old.actor (lookup old.records own) changes (cell_at old.cells) released
  pub sends : sent ≡ first ++ released.sent
  pub cells : (key : Key) → cell_at new.cells key ≡ applied (cell_at old.cells) released.writes key
  pub learnt : Shelf
  pub learns : IsLearnt old learnt own.id brought.body (share_at layout old own.id brought.body) (Some brought.t) brought.top
  pub actor : new.actor ≡ old.actor
  pub index : new.index ≡ learnt.index
  pub greatest : new.greatest ≡ learnt.greatest
  pub records : (y : TxnId) → record_at new.records y ≡ option_map (executed changes y) (lookup old.records own y)
  pub waiting : AreWatches (shard_of old.actor) (after_changes (lookup old.records own) changes) (watchers new.waits)
