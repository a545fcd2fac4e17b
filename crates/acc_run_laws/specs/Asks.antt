-- What a cluster that stands at some items, newest first, enters when it is asked for a step.
use Rattle.std.specs.Prelude.{ℕ, Bool, true, false, not, cond, nat_lt, ◌+◌, List, [], ◌∷◌, length, Option, None, Some, unwrap_or}
use Rattle.std.specs.List.{slice_get}
use Rattle.acc_stamp.specs.declared.stamps.TxnId.{TxnId}
use Rattle.acc_stamp.specs.declared.actors.Actor.{Actor}
use Rattle.acc_stamp.specs.Actor.{actor_of}
use Rattle.acc_stamp.specs.Stamp.{ballot_eq, zero_ballot}
use Rattle.acc_topology.specs.Layout.{Layout}
use Rattle.acc_message.specs.declared.message.Message.{Message}
use Rattle.acc_message.specs.declared.entry.Emitted.{Emitted}
use Rattle.acc_message.specs.declared.entry.Entry.{Entry}
use Rattle.acc_message.specs.declared.entry.Event.{Event}
use Rattle.acc_message.specs.declared.entry.Event.TheVariants.{Begin as BeginEvent, Recover as RecoverEvent, Slow as SlowEvent, Message as MessageEvent, Restart as RestartEvent}
use Rattle.acc_message.specs.declared.item.Skip.{Skip}
use Rattle.acc_message.specs.declared.item.Skip.TheVariants.{NoMessage, Begun, Unknown, NoQuorum}
use Rattle.acc_message.specs.declared.item.Item.{Item}
use Rattle.acc_message.specs.declared.item.Item.TheVariants.{Step, Skipped}
use Rattle.acc_message.specs.Fields.{to_of}
use Rattle.acc_message.specs.Items.{sent_of, message_at, id_of_txn, is_begun}
use Rattle.acc_message.specs.Attempts.{Attempt, Phase, Voting, majority_everywhere}
use Rattle.acc_message.specs.NodeRules.{Act}
use Rattle.acc_message.specs.Coordinator.{silence}
use Rattle.acc_message.specs.Run.{Cluster, act_of, attempt_at, emits}
use Rattle.acc_run_laws.specs.declared.ask.Ask.{Ask}
use Rattle.acc_run_laws.specs.declared.ask.Ask.TheVariants.{Begin, Recover, Slow, Deliver, Restart}

-- ---- who steps, and what it takes

abbrev pub home_of_txn : Cluster → ℕ → Actor
home_of_txn cluster txn = actor_of (unwrap_or (slice_get cluster.homes txn) 0) 0

abbrev pub receiver : Option Message → Actor
receiver None = actor_of 0 0
receiver (Some m) = to_of m

abbrev pub stepper : Cluster → List Item → Ask → Actor
stepper cluster items (Begin txn) = home_of_txn cluster txn
stepper cluster items (Recover txn node) = actor_of node 0
stepper cluster items (Slow txn) = home_of_txn cluster txn
stepper cluster items (Deliver number) = receiver (message_at items number)
stepper cluster items (Restart actor) = actor

abbrev pub event_for : Ask → Event
event_for (Begin txn) = BeginEvent txn
event_for (Recover txn node) = RecoverEvent txn
event_for (Slow txn) = SlowEvent txn
event_for (Deliver number) = MessageEvent number
event_for (Restart actor) = RestartEvent 0

-- ---- what is passed over

abbrev pub skip_if : Bool → Skip → Option Skip
skip_if true skip = Some skip
skip_if false skip = None

-- an attempt at ballot zero in its first phase can be slowed down once it has a majority of answers in every shard
abbrev pub slow_skip_in : Layout → ℕ → TxnId → Attempt → Phase → Option Skip
slow_skip_in layout txn x a Voting =
    cond (ballot_eq a.ballot zero_ballot) (skip_if (not (majority_everywhere layout x a.body a.answers)) (NoQuorum txn)) (Some (Unknown txn))
slow_skip_in layout txn x a _ = Some (Unknown txn)

abbrev pub slow_skip_at : Layout → ℕ → TxnId → Option Attempt → Option Skip
slow_skip_at layout txn x None = Some (Unknown txn)
slow_skip_at layout txn x (Some a) = slow_skip_in layout txn x a a.phase

abbrev pub slow_skip : Cluster → List Item → ℕ → Option TxnId → Option Skip
slow_skip cluster items txn None = Some (Unknown txn)
slow_skip cluster items txn (Some x) =
    slow_skip_at cluster.layout txn x (attempt_at cluster items (home_of_txn cluster txn) x)

abbrev pub skip_of : Cluster → List Item → Ask → Option Skip
skip_of cluster items (Begin txn) = skip_if (is_begun items txn) (Begun txn)
skip_of cluster items (Recover txn node) = skip_if (not (is_begun items txn)) (Unknown txn)
skip_of cluster items (Slow txn) = slow_skip cluster items txn (id_of_txn items txn)
skip_of cluster items (Deliver number) =
    skip_if (not (nat_lt number (length (sent_of items)))) (NoMessage number (length (sent_of items)))
skip_of cluster items (Restart actor) = None

-- ---- what is entered

abbrev pub emits_if : Cluster → List Item → Actor → Option Act → Emitted
emits_if cluster items a None = silence
emits_if cluster items a (Some act) = emits cluster items a act

abbrev pub entry_at : Cluster → List Item → Actor → Event → Entry
entry_at cluster items a event =
    record { actor = a; event = event; emitted = emits_if cluster items a (act_of cluster items event); lost = false }

abbrev pub entered : Cluster → List Item → ℕ → Ask → Option Skip → Item
entered cluster items step ask (Some skip) = Skipped step skip
entered cluster items step ask None = Step (entry_at cluster items (stepper cluster items ask) (event_for ask))

-- the item for an ask, which is the step of this number
abbrev pub item_for : Cluster → List Item → ℕ → Ask → Item
item_for cluster items step ask = entered cluster items step ask (skip_of cluster items ask)

-- the items after these asks, of which the first is the step of this number
abbrev pub after_asks : Cluster → ℕ → List Ask → List Item → List Item
after_asks cluster step [] items = items
after_asks cluster step (ask ∷ asks) items =
    let next : Item = item_for cluster items step ask in
    after_asks cluster (step + 1) asks (next ∷ items)
