-- Where no disk fails, nobody goes down and nothing is lost.
use Rattle.std.proofs.Common.{◌≡◌, ℕ, ◌+◌, Bool, true, false, not, ◌&&◌, List, [], ◌∷◌, length, Option, None, Some, refl, sym, ◌∙◌, ap, subst}
use Rattle.std.proofs.Math.Bool.{and-false}
use Rattle.std.proofs.lemmas.Bool.{and_from}
use Rattle.acc_stamp.specs.declared.actors.Actor.{Actor}
use Rattle.acc_stamp.specs.Actor.{actor_of}
use Rattle.acc_message.specs.declared.entry.Event.{Event}
use Rattle.acc_message.specs.declared.entry.Event.TheVariants.{Begin as BeginEvent, Recover as RecoverEvent, Slow as SlowEvent, Message as MessageEvent, Restart as RestartEvent}
use Rattle.acc_message.specs.declared.item.Skip.{Skip}
use Rattle.acc_message.specs.declared.item.Item.{Item}
use Rattle.acc_message.specs.declared.item.Item.TheVariants.{Step as StepItem, Skipped, Down}
use Rattle.acc_message.specs.Items.{sent_of}
use Rattle.acc_message.specs.Run.{Cluster}
use Rattle.acc_run_laws.specs.Asks.{home_of_txn}
use Rattle.acc_run_laws.specs.AskLaws.{is_no_down}
use Rattle.acc_schedule.specs.declared.plan.Step.{Step}
use Rattle.acc_schedule.specs.declared.plan.Step.TheVariants.{Begin, Deliver, Drop, Recover, Slow, Restart, Fail, Drain}
use Rattle.acc_schedule_runs.specs.Situations.{Situation, opened, raised, whole, is_lost, stopped_at, without, receiver_in}
use Rattle.acc_schedule_runs.specs.Moves.{Answers, fails_in, with_item, entry_of, entered, is_journalled, tried_if, tried, stepped_unless, dropped_unless, begin_skip, recover_skip, slowing_skip, message_skip, deliver_skip, kept_if, reopened, restarted_if, Drains, stops, delivers, IsNext}
use Rattle.acc_schedule_runs.specs.Schedules.{Follows}
use Rattle.acc_schedule_runs.specs.Laws.{NeverFails, NobodyIsDown, NothingIsLost}

-- nobody is down, no step is stopped, and no entry is lost
pub record Clean (s : Situation) : Type 0 where
  pub no_downs : NobodyIsDown (whole s)
  pub stopped : s.stopped ≡ []
  pub unlost : NothingIsLost s.own

pub clean_item : (s : Situation) (item : Item) → is_no_down item ≡ true → is_lost item ≡ false → Clean s → Clean (with_item item s)
clean_item s item up kept h =
    record {
      no_downs = and_from (is_no_down (raised (length (sent_of s.earlier)) item)) _ (still item up) h.no_downs;
      stopped = h.stopped;
      unlost = and_from (not (is_lost item)) _ (ap not kept) h.unlost;
    }
  where
    still : (item : Item) → is_no_down item ≡ true → is_no_down (raised (length (sent_of s.earlier)) item) ≡ true
    still (StepItem e) h = refl
    still (Skipped step cause) h = refl
    still (Down actor) h = h

kept_none : (keeps : Bool) (a : Actor) (s : Situation) → s.stopped ≡ [] → kept_if keeps a s ≡ []
kept_none true a s none = ap (stopped_at a) none
kept_none false a s none = refl

module _ (cluster : Cluster) (answers : Answers) (never : NeverFails answers) where
  pub tried_is_entered : (s : Situation) (a : Actor) (event : Event) → tried cluster answers s a event ≡ entered cluster s a event false
  tried_is_entered s a event =
      ap (λ b. tried_if (is_journalled a event && b) cluster s a event) (never (length s.own))
      ∙ ap (λ b. tried_if b cluster s a event) (and-false (is_journalled a event))

  clean_tried : (s : Situation) (a : Actor) (event : Event) → Clean s → Clean (tried cluster answers s a event)
  clean_tried s a event h = subst Clean (sym (tried_is_entered s a event)) (clean_item s (entry_of cluster s a event false) refl refl h)

  clean_stepped : (skip : Option Skip) (number : ℕ) (s : Situation) (a : Actor) (event : Event) → Clean s
      → Clean (stepped_unless skip cluster answers number s a event)
  clean_stepped (Some cause) number s a event h = clean_item s (Skipped number cause) refl refl h
  clean_stepped None number s a event h = clean_tried s a event h

  clean_dropped : (skip : Option Skip) (number : ℕ) (s : Situation) (message : ℕ) → Clean s → Clean (dropped_unless skip number s message)
  clean_dropped (Some cause) number s message h = clean_item s (Skipped number cause) refl refl h
  clean_dropped None number s message h = record { no_downs = h.no_downs; stopped = h.stopped; unlost = h.unlost }

  clean_restarted : (s : Situation) (a : Actor) → Clean s → Clean (restarted_if (fails_in answers s) cluster answers s a)
  clean_restarted s a h =
      subst Clean
      (sym (ap (λ b. restarted_if b cluster answers s a) (never (length s.own))
      ∙ ap (reopened cluster s a) (kept_none (answers.keeps (length s.own)) a s h.stopped)))
      (record { no_downs = again.no_downs; stopped = ap (without a) h.stopped; unlost = again.unlost })
    where
      again : Clean (entered cluster s a (RestartEvent 0) false)
      again = clean_item s (entry_of cluster s a (RestartEvent 0) false) refl refl h

  clean_drained : (last s : Situation) → Drains cluster answers last s → Clean s → Clean last
  clean_drained last s (stops _ none is) h = subst Clean (sym is) h
  clean_drained last s (delivers _ n oldest rest) h =
      clean_drained last (tried cluster answers s (receiver_in s n) (MessageEvent n)) rest (clean_tried s (receiver_in s n) (MessageEvent n) h)

  pub clean_next : (number : ℕ) (step : Step) (s next : Situation) → IsNext cluster answers number step s next → Clean s → Clean next
  clean_next number (Begin txn) s next is h =
      subst Clean (sym is) (clean_stepped (begin_skip cluster s txn) number s (home_of_txn cluster txn) (BeginEvent txn) h)
  clean_next number (Deliver message) s next is h =
      subst Clean (sym is) (clean_stepped (deliver_skip s message) number s (receiver_in s message) (MessageEvent message) h)
  clean_next number (Drop message) s next is h = subst Clean (sym is) (clean_dropped (message_skip s message) number s message h)
  clean_next number (Recover txn node) s next is h =
      subst Clean (sym is) (clean_stepped (recover_skip s txn node) number s (actor_of node 0) (RecoverEvent txn) h)
  clean_next number (Slow txn) s next is h =
      subst Clean (sym is) (clean_stepped (slowing_skip cluster s txn) number s (home_of_txn cluster txn) (SlowEvent txn) h)
  clean_next number (Restart actor choice) s next is h = subst Clean (sym is) (clean_restarted s actor h)
  clean_next number (Fail actor calls) s next is h = subst Clean (sym is) h
  clean_next number Drain s next drains h = clean_drained next s drains h

  pub clean_last : (number : ℕ) (steps : List Step) (s last : Situation) → Follows cluster answers number steps s last → Clean s → Clean last
  clean_last number [] s last is h = subst Clean (sym is) h
  clean_last number (step ∷ steps) s last follows h =
      clean_last (number + 1) steps follows.0 last follows.2 (clean_next number step s follows.0 follows.1 h)

pub clean_opened : (earlier : List Item) → NobodyIsDown earlier → Clean (opened earlier)
clean_opened earlier up = record { no_downs = up; stopped = refl; unlost = refl }

pub nobody_goes_down : (cluster : Cluster) (answers : Answers) (earlier : List Item) (steps : List Step) (last : Situation) → NeverFails answers
    → NobodyIsDown earlier → Follows cluster answers 0 steps (opened earlier) last → NobodyIsDown (whole last) × NothingIsLost last.own
nobody_goes_down cluster answers earlier steps last never up follows =
    let h : Clean last = clean_last cluster answers never 0 steps (opened earlier) last follows (clean_opened earlier up) in (h.no_downs, h.unlost)
