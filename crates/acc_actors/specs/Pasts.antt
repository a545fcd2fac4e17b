-- What a situation tells of an actor: what it took, what its journal holds of that, and the steps that a fault of its disk stopped.
use Rattle.std.specs.Prelude.{ℕ, Bool, true, List, [], ◌∷◌, ◌++◌, Option, None, Some}
use Rattle.acc_stamp.specs.declared.actors.Actor.{Actor}
use Rattle.acc_message.specs.declared.message.Message.{Message}
use Rattle.acc_message.specs.declared.entry.Event.{Event}
use Rattle.acc_message.specs.NodeRules.{Act, Begins, Recovers, Slows, Takes, Restarts}
use Rattle.acc_message.specs.Run.{Cluster, act_of, deeds_of, taken_of}
use Rattle.acc_actor_laws.specs.TakenAlone.{messages_taken}
use Rattle.acc_safety.specs.RunLaws.{acts_done}
use Rattle.acc_payloads.specs.Items.{payloads_in}
use Rattle.acc_payloads.specs.Stops.{Stop, Past}
use Rattle.acc_pasts.specs.Entries.{payload_for}
use Rattle.acc_schedule_runs.specs.Situations.{Situation, whole, stopped_at}
use Rattle.acc_schedule_runs.specs.Moves.{event_in, entered}

-- ---- steps that didn't go out

abbrev pub first_of : List (List ℕ) → List ℕ
first_of [] = []
first_of (payload ∷ others) = payload

-- what it takes and the payload that it puts into the journal
abbrev pub stop_by : Event → Option Act → List (List ℕ) → List (Stop Act)
stop_by event None payloads = []
stop_by event (Some act) payloads = record { event = event; act = act; payload = first_of payloads } ∷ []

-- by the whole past, each after the entries of those before it
abbrev pub stops_in : Cluster → Situation → Actor → List Event → Bool → List (Stop Act)
stops_in cluster s a [] lost = []
stops_in cluster s a (event ∷ events) lost =
    stop_by event (act_of cluster (whole s) (event_in s event)) (payload_for cluster (whole s) a (event_in s event))
    ++ stops_in cluster (entered cluster s a event lost) a events lost

-- those that a fault stopped
abbrev pub stops_at : Cluster → Situation → Actor → List (Stop Act)
stops_at cluster s a = stops_in cluster s a (stopped_at a s.stopped) true

-- a store takes messages and nothing else
abbrev pub taking : Event → List ℕ → Act → List (Stop Message)
taking event payload (Begins txn body) = []
taking event payload (Recovers id body) = []
taking event payload (Slows id) = []
taking event payload (Takes m) = record { event = event; act = m; payload = payload } ∷ []
taking event payload Restarts = []

abbrev pub store_stops : List (Stop Act) → List (Stop Message)
store_stops [] = []
store_stops (stop ∷ stops) = taking stop.event stop.payload stop.act ++ store_stops stops

-- ---- the past of an actor

-- of a node
abbrev pub node_past : Cluster → Situation → Actor → Past Act
node_past cluster s a =
    record {
      acts = acts_done (deeds_of cluster a (whole s));
      held = payloads_in a (whole s);
      stopped = stops_at cluster s a;
    }

-- of a store
abbrev pub store_past : Cluster → Situation → Actor → Past Message
store_past cluster s a =
    record {
      acts = messages_taken (taken_of cluster a (whole s));
      held = payloads_in a (whole s);
      stopped = store_stops (stops_at cluster s a);
    }
