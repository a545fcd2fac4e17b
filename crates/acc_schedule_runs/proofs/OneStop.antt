-- A step of a schedule stops one step of an actor at most.
use Rattle.std.proofs.Common.{◌≡◌, ℕ, ◌+◌, ◌≤◌, Bool, true, false, ◌&&◌, List, [], ◌∷◌, length, Option, None, Some, sym, subst, arith}
use Rattle.acc_stamp.specs.declared.actors.Actor.{Actor}
use Rattle.acc_stamp.specs.Actor.{actor_of}
use Rattle.acc_message.specs.declared.entry.Event.{Event}
use Rattle.acc_message.specs.declared.entry.Event.TheVariants.{Begin as BeginEvent, Recover as RecoverEvent, Slow as SlowEvent, Message as MessageEvent}
use Rattle.acc_message.specs.declared.item.Skip.{Skip}
use Rattle.acc_message.specs.declared.item.Item.{Item}
use Rattle.acc_message.specs.Run.{Cluster}
use Rattle.acc_run_laws.specs.Asks.{home_of_txn}
use Rattle.acc_schedule.specs.declared.plan.Step.{Step}
use Rattle.acc_schedule.specs.declared.plan.Step.TheVariants.{Begin, Deliver, Drop, Recover, Slow, Restart, Fail, Drain}
use Rattle.acc_schedule_runs.specs.Situations.{Situation, opened, receiver_in, stopped_at}
use Rattle.acc_schedule_runs.specs.Moves.{Answers, fails_in, is_journalled, stopped_by, tried_if, tried, stepped_unless, dropped_unless, begin_skip, recover_skip, slowing_skip, message_skip, deliver_skip, kept_if, reopened, restarted_if, Drains, stops, delivers, IsNext}
use Rattle.acc_schedule_runs.specs.Schedules.{Follows}
use Rattle.acc_schedule_runs.proofs.StopLists.{by_without, by_stops}

-- of each actor one step is stopped at most
abbrev pub StopsOne : Situation → Type 0
StopsOne s = (a : Actor) → length (stopped_at a s.stopped) ≤ 1

pub one_stopped : (s : Situation) (a : Actor) (event : Event) → StopsOne s → StopsOne (stopped_by a (event ∷ []) s)
one_stopped s a event h b = by_stops (λ events. length events ≤ 1) a b s.stopped (event ∷ []) (λ is. omega arith) (λ is. h b)

module _ (cluster : Cluster) where
  pub one_reopened : (s : Situation) (a : Actor) (kept : List Event) → StopsOne s → StopsOne (reopened cluster s a kept)
  one_reopened s a kept h b = by_without (λ events. length events ≤ 1) a b s.stopped (λ is. omega arith) (λ is. h b)

  module _ (answers : Answers) where
    one_tried : (s : Situation) (a : Actor) (event : Event) → StopsOne s → StopsOne (tried cluster answers s a event)
    one_tried s a event h = by (is_journalled a event && fails_in answers s)
      where
        by : (test : Bool) → StopsOne (tried_if test cluster s a event)
        by true = one_stopped s a event h
        by false = h

    one_stepped : (skip : Option Skip) (number : ℕ) (s : Situation) (a : Actor) (event : Event) → StopsOne s
        → StopsOne (stepped_unless skip cluster answers number s a event)
    one_stepped (Some cause) number s a event h = h
    one_stepped None number s a event h = one_tried s a event h

    one_dropped : (skip : Option Skip) (number : ℕ) (s : Situation) (message : ℕ) → StopsOne s → StopsOne (dropped_unless skip number s message)
    one_dropped (Some cause) number s message h = h
    one_dropped None number s message h = h

    one_restarted : (fails : Bool) (s : Situation) (a : Actor) → StopsOne s → StopsOne (restarted_if fails cluster answers s a)
    one_restarted true s a h = h
    one_restarted false s a h = one_reopened s a (kept_if (answers.keeps (length s.own)) a s) h

    one_drained : (last s : Situation) → Drains cluster answers last s → StopsOne s → StopsOne last
    one_drained last s (stops _ none is) h = subst StopsOne (sym is) h
    one_drained last s (delivers _ n oldest rest) h =
        one_drained last (tried cluster answers s (receiver_in s n) (MessageEvent n)) rest (one_tried s (receiver_in s n) (MessageEvent n) h)

    pub one_next : (number : ℕ) (step : Step) (s next : Situation) → IsNext cluster answers number step s next → StopsOne s → StopsOne next
    one_next number (Begin txn) s next is h =
        subst StopsOne (sym is) (one_stepped (begin_skip cluster s txn) number s (home_of_txn cluster txn) (BeginEvent txn) h)
    one_next number (Deliver message) s next is h =
        subst StopsOne (sym is) (one_stepped (deliver_skip s message) number s (receiver_in s message) (MessageEvent message) h)
    one_next number (Drop message) s next is h = subst StopsOne (sym is) (one_dropped (message_skip s message) number s message h)
    one_next number (Recover txn node) s next is h =
        subst StopsOne (sym is) (one_stepped (recover_skip s txn node) number s (actor_of node 0) (RecoverEvent txn) h)
    one_next number (Slow txn) s next is h =
        subst StopsOne (sym is) (one_stepped (slowing_skip cluster s txn) number s (home_of_txn cluster txn) (SlowEvent txn) h)
    one_next number (Restart actor choice) s next is h = subst StopsOne (sym is) (one_restarted (fails_in answers s) s actor h)
    one_next number (Fail actor calls) s next is h = subst StopsOne (sym is) h
    one_next number Drain s next drains h = one_drained next s drains h

    one_last : (number : ℕ) (steps : List Step) (s last : Situation) → Follows cluster answers number steps s last → StopsOne s → StopsOne last
    one_last number [] s last is h = subst StopsOne (sym is) h
    one_last number (step ∷ steps) s last follows h =
        one_last (number + 1) steps follows.0 last follows.2 (one_next number step s follows.0 follows.1 h)

pub none_stopped : (earlier : List Item) → StopsOne (opened earlier)
none_stopped earlier a = omega arith

pub one_step_is_stopped : (cluster : Cluster) (answers : Answers) (earlier : List Item) (steps : List Step) (last : Situation) (a : Actor)
    → Follows cluster answers 0 steps (opened earlier) last → length (stopped_at a last.stopped) ≤ 1
one_step_is_stopped cluster answers earlier steps last a follows = one_last cluster answers 0 steps (opened earlier) last follows (none_stopped earlier) a
