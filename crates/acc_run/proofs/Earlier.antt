-- A schedule doesn't change the run that stood before it.
use Rattle.std.proofs.Common.{◌≡◌, ℕ, ◌+◌, Bool, true, false, ◌&&◌, List, [], ◌∷◌, length, Option, Some, None, refl, ◌∙◌, ap}
use Rattle.acc_stamp.specs.declared.actors.Actor.{Actor}
use Rattle.acc_stamp.specs.Actor.{actor_of}
use Rattle.acc_message.specs.declared.entry.Event.{Event}
use Rattle.acc_message.specs.declared.entry.Event.TheVariants.{Begin as BeginEvent, Recover as RecoverEvent, Slow as SlowEvent, Message as MessageEvent}
use Rattle.acc_message.specs.declared.item.Skip.{Skip}
use Rattle.acc_message.specs.Run.{Cluster}
use Rattle.acc_run_laws.specs.Asks.{home_of_txn}
use Rattle.acc_schedule.specs.declared.plan.Step.{Step}
use Rattle.acc_schedule.specs.declared.plan.Step.TheVariants.{Begin, Deliver, Drop, Recover, Slow, Restart, Fail, Drain}
use Rattle.acc_schedule_runs.specs.Situations.{Situation, receiver_in}
use Rattle.acc_schedule_runs.specs.Moves.{Answers, fails_in, is_journalled, tried_if, tried, stepped_unless, dropped_unless, begin_skip, recover_skip, slowing_skip, message_skip, deliver_skip, kept_if, reopened, restarted_if, Drains, stops, delivers, IsNext}
use Rattle.acc_schedule_runs.specs.Schedules.{Follows}
use Rattle.acc_schedule_runs.proofs.StopLists.{all_earlier}

module _ (cluster : Cluster) (answers : Answers) where
  tried_same : (fails : Bool) (s : Situation) (a : Actor) (event : Event) → (tried_if fails cluster s a event).earlier ≡ s.earlier
  tried_same true s a event = refl
  tried_same false s a event = refl

  stepped_same : (skip : Option Skip) (number : ℕ) (s : Situation) (a : Actor) (event : Event) → (stepped_unless skip cluster answers number s a event).earlier ≡ s.earlier
  stepped_same (Some cause) number s a event = refl
  stepped_same None number s a event = tried_same (is_journalled a event && fails_in answers s) s a event

  dropped_same : (skip : Option Skip) (number : ℕ) (s : Situation) (message : ℕ) → (dropped_unless skip number s message).earlier ≡ s.earlier
  dropped_same (Some cause) number s message = refl
  dropped_same None number s message = refl

  reopened_same : (s : Situation) (a : Actor) (kept : List Event) → (reopened cluster s a kept).earlier ≡ s.earlier
  reopened_same s a kept = all_earlier cluster a true s kept

  restarted_same : (fails : Bool) (s : Situation) (a : Actor) → (restarted_if fails cluster answers s a).earlier ≡ s.earlier
  restarted_same true s a = refl
  restarted_same false s a = reopened_same s a (kept_if (answers.keeps (length s.own)) a s)

  drained_same : (last s : Situation) → Drains cluster answers last s → last.earlier ≡ s.earlier
  drained_same last s (stops _ none is) = ap (λ (x : Situation). x.earlier) is
  drained_same last s (delivers _ n oldest rest) =
      drained_same last (tried cluster answers s (receiver_in s n) (MessageEvent n)) rest
      ∙ tried_same (is_journalled (receiver_in s n) (MessageEvent n) && fails_in answers s) s (receiver_in s n) (MessageEvent n)

  next_same : (number : ℕ) (step : Step) (s next : Situation) → IsNext cluster answers number step s next → next.earlier ≡ s.earlier
  next_same number (Begin txn) s next is =
      ap (λ (x : Situation). x.earlier) is ∙ stepped_same (begin_skip cluster s txn) number s (home_of_txn cluster txn) (BeginEvent txn)
  next_same number (Deliver message) s next is =
      ap (λ (x : Situation). x.earlier) is ∙ stepped_same (deliver_skip s message) number s (receiver_in s message) (MessageEvent message)
  next_same number (Drop message) s next is = ap (λ (x : Situation). x.earlier) is ∙ dropped_same (message_skip s message) number s message
  next_same number (Recover txn node) s next is =
      ap (λ (x : Situation). x.earlier) is ∙ stepped_same (recover_skip s txn node) number s (actor_of node 0) (RecoverEvent txn)
  next_same number (Slow txn) s next is =
      ap (λ (x : Situation). x.earlier) is ∙ stepped_same (slowing_skip cluster s txn) number s (home_of_txn cluster txn) (SlowEvent txn)
  next_same number (Restart actor choice) s next is = ap (λ (x : Situation). x.earlier) is ∙ restarted_same (fails_in answers s) s actor
  next_same number (Fail actor calls) s next is = ap (λ (x : Situation). x.earlier) is
  next_same number Drain s next drains = drained_same next s drains

  pub same_earlier : (number : ℕ) (steps : List Step) (s last : Situation) → Follows cluster answers number steps s last → last.earlier ≡ s.earlier
  same_earlier number [] s last is = ap (λ (x : Situation). x.earlier) is
  same_earlier number (step ∷ steps) s last follows =
      same_earlier (number + 1) steps follows.0 last follows.2 ∙ next_same number step s follows.0 follows.1
