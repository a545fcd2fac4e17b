-- The steps of a schedule only add to the whole past.
use Rattle.std.proofs.Common.{◌≡◌, ℕ, ◌+◌, Bool, true, false, ◌&&◌, List, [], ◌∷◌, length, Option, None, Some, sym, subst}
use Rattle.acc_stamp.specs.declared.actors.Actor.{Actor}
use Rattle.acc_stamp.specs.Actor.{actor_of}
use Rattle.acc_message.specs.declared.entry.Event.{Event}
use Rattle.acc_message.specs.declared.entry.Event.TheVariants.{Begin as BeginEvent, Recover as RecoverEvent, Slow as SlowEvent, Message as MessageEvent, Restart as RestartEvent}
use Rattle.acc_message.specs.declared.item.Skip.{Skip}
use Rattle.acc_message.specs.declared.item.Item.TheVariants.{Skipped, Down}
use Rattle.acc_message.specs.Run.{Cluster}
use Rattle.acc_run_laws.specs.Asks.{home_of_txn}
use Rattle.acc_schedule.specs.declared.plan.Step.{Step}
use Rattle.acc_schedule.specs.declared.plan.Step.TheVariants.{Begin, Deliver, Drop, Recover, Slow, Restart, Fail, Drain}
use Rattle.acc_schedule_runs.specs.Fronts.{Begins}
use Rattle.acc_schedule_runs.specs.Moves.{Answers, begin_skip, deliver_skip, delivers, dropped_unless, entered, entered_all, event_in, fails_in, is_journalled, kept_if, message_skip, recover_skip, restarted_if, slowing_skip, stepped_unless, stops, tried, tried_if, with_kept, Drains, IsNext}
use Rattle.acc_schedule_runs.specs.Schedules.{Follows}
use Rattle.acc_schedule_runs.specs.Situations.{receiver_in, whole, Situation}
use Rattle.acc_schedule_runs.proofs.Beginnings.{begins_chain, begins_itself, begins_longer}
use Rattle.acc_pasts.specs.Entries.{entering}

-- the whole past of the second situation goes on from that of the first
abbrev pub GoesOnFrom : Situation → Situation → Type 0
GoesOnFrom s next = Begins (whole s) (whole next)

module _ (cluster : Cluster) (answers : Answers) where
  -- where the second situation is known
  known : (s t next : Situation) → next ≡ t → GoesOnFrom s t → GoesOnFrom s next
  known s t next is = subst (GoesOnFrom s) (sym is)

  tried_adds : (s : Situation) (a : Actor) (event : Event) → GoesOnFrom s (tried cluster answers s a event)
  tried_adds s a event = by (is_journalled a event && fails_in answers s)
    where
      by : (test : Bool) → GoesOnFrom s (tried_if test cluster s a event)
      by true = begins_longer (Down a) (whole s)
      by false = begins_longer (entering cluster (whole s) a (event_in s event) false) (whole s)

  stepped_adds : (skip : Option Skip) (number : ℕ) (s : Situation) (a : Actor) (event : Event)
      → GoesOnFrom s (stepped_unless skip cluster answers number s a event)
  stepped_adds (Some cause) number s a event = begins_longer (Skipped number cause) (whole s)
  stepped_adds None number s a event = tried_adds s a event

  dropped_adds : (skip : Option Skip) (number : ℕ) (s : Situation) (message : ℕ)
      → GoesOnFrom s (dropped_unless skip number s message)
  dropped_adds (Some cause) number s message = begins_longer (Skipped number cause) (whole s)
  dropped_adds None number s message = begins_itself (whole s)

  kept_adds : (s : Situation) (a : Actor) (events : List Event) → GoesOnFrom s (entered_all cluster s a events true)
  kept_adds s a [] = begins_itself (whole s)
  kept_adds s a (event ∷ events) =
      begins_chain (whole s) (whole (entered cluster s a event true)) (whole (entered_all cluster (entered cluster s a event true) a events true))
      (begins_longer (entering cluster (whole s) a (event_in s event) true) (whole s)) (kept_adds (entered cluster s a event true) a events)

  restarted_adds : (fails : Bool) (s : Situation) (a : Actor) → GoesOnFrom s (restarted_if fails cluster answers s a)
  restarted_adds true s a = begins_longer (Down a) (whole s)
  restarted_adds false s a =
      let kept : List Event = kept_if (answers.keeps (length s.own)) a s in
      let up : Situation = with_kept cluster s a kept in
      begins_chain (whole s) (whole up) (whole (restarted_if false cluster answers s a)) (kept_adds s a kept)
      (begins_longer (entering cluster (whole up) a (event_in up (RestartEvent (length kept))) false) (whole up))

  drained_adds : (next s : Situation) → Drains cluster answers next s → GoesOnFrom s next
  drained_adds next s (stops _ none is) = known s s next is (begins_itself (whole s))
  drained_adds next s (delivers _ n oldest rest) =
      let between : Situation = tried cluster answers s (receiver_in s n) (MessageEvent n) in
      begins_chain (whole s) (whole between) (whole next) (tried_adds s (receiver_in s n) (MessageEvent n)) (drained_adds next between rest)

  pub next_adds : (number : ℕ) (step : Step) (s next : Situation) → IsNext cluster answers number step s next → GoesOnFrom s next
  next_adds number (Begin txn) s next is =
      known s _ next is (stepped_adds (begin_skip cluster s txn) number s (home_of_txn cluster txn) (BeginEvent txn))
  next_adds number (Deliver message) s next is =
      known s _ next is (stepped_adds (deliver_skip s message) number s (receiver_in s message) (MessageEvent message))
  next_adds number (Drop message) s next is = known s _ next is (dropped_adds (message_skip s message) number s message)
  next_adds number (Recover txn node) s next is =
      known s _ next is (stepped_adds (recover_skip s txn node) number s (actor_of node 0) (RecoverEvent txn))
  next_adds number (Slow txn) s next is =
      known s _ next is (stepped_adds (slowing_skip cluster s txn) number s (home_of_txn cluster txn) (SlowEvent txn))
  next_adds number (Restart actor choice) s next is = known s _ next is (restarted_adds (fails_in answers s) s actor)
  next_adds number (Fail actor calls) s next is = known s s next is (begins_itself (whole s))
  next_adds number Drain s next drains = drained_adds next s drains

  pub steps_add : (number : ℕ) (steps : List Step) (s last : Situation) → Follows cluster answers number steps s last → GoesOnFrom s last
  steps_add number [] s last is = known s s last is (begins_itself (whole s))
  steps_add number (step ∷ steps) s last follows =
      begins_chain (whole s) (whole follows.0) (whole last) (next_adds number step s follows.0 follows.1)
      (steps_add (number + 1) steps follows.0 last follows.2)
