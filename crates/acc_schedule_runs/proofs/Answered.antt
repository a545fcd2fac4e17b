-- A run reads the answers of the disks at the places of its own items alone, and goes on with one step more.
use Rattle.std.proofs.Common.{◌≡◌, ℕ, suc, ◌+◌, ◌<◌, ◌≤◌, Bool, true, false, ◌&&◌, List, [], ◌∷◌, ◌++◌, length, Option, None, Some, refl, sym, ◌∙◌, ap, subst, arith}
use Rattle.acc_stamp.specs.declared.actors.Actor.{Actor}
use Rattle.acc_stamp.specs.Actor.{actor_of}
use Rattle.acc_message.specs.declared.entry.Event.{Event}
use Rattle.acc_message.specs.declared.entry.Event.TheVariants.{Begin as BeginEvent, Recover as RecoverEvent, Slow as SlowEvent, Message as MessageEvent}
use Rattle.acc_message.specs.declared.item.Skip.{Skip}
use Rattle.acc_message.specs.Run.{Cluster}
use Rattle.acc_run_laws.specs.Asks.{home_of_txn}
use Rattle.acc_schedule.specs.declared.plan.Step.{Step}
use Rattle.acc_schedule.specs.declared.plan.Step.TheVariants.{Begin, Deliver, Drop, Recover, Slow, Restart, Fail, Drain}
use Rattle.acc_schedule_runs.specs.Situations.{Situation, receiver_in}
use Rattle.acc_schedule_runs.specs.Moves.{Answers, fails_in, is_journalled, tried_if, tried, stepped_unless, dropped_unless, begin_skip, recover_skip, slowing_skip, message_skip, deliver_skip, kept_if, entered, entered_all, with_kept, reopened, restarted_if, Drains, stops, delivers, IsNext}
use Rattle.acc_schedule_runs.specs.Schedules.{Follows}
use Rattle.acc_schedule_runs.specs.Laws.{AgreeBelow}

own_length : {s t : Situation} → s ≡ t → length s.own ≡ length t.own
own_length is = ap (λ (u : Situation). length u.own) is

next_below : {n k : ℕ} → k ≡ suc n → n < k
next_below h = omega arith

later : {n k m : ℕ} → k ≡ suc n → k ≤ m → n < m
later h k = omega arith

below_is_most : {n k : ℕ} → n < k → n ≤ k
below_is_most h = omega arith

equal_is_most : {n k : ℕ} → k ≡ n → n ≤ k
equal_is_most h = omega arith

chain : {n k m : ℕ} → n ≤ k → k ≤ m → n ≤ m
chain h k = omega arith

below_next : {n k : ℕ} → n ≤ k → n < suc k
below_next h = omega arith

pub fewer : {answers other : Answers} {n k : ℕ} → n ≤ k → AgreeBelow answers other k → AgreeBelow answers other n
fewer less agree = λ place below. agree place (both below less)
  where
    both : {p n k : ℕ} → p < n → n ≤ k → p < k
    both h k = omega arith

module _ (cluster : Cluster) where
  pub tried_length : (answers : Answers) (s : Situation) (a : Actor) (event : Event) → length (tried cluster answers s a event).own ≡ suc (length s.own)
  tried_length answers s a event = by (is_journalled a event && fails_in answers s)
    where
      by : (test : Bool) → length (tried_if test cluster s a event).own ≡ suc (length s.own)
      by true = refl
      by false = refl

  -- ---- items are only added

  pub drained_grows : (answers : Answers) (last s : Situation) → Drains cluster answers last s → length s.own ≤ length last.own
  drained_grows answers last s (stops _ none is) = equal_is_most (own_length is)
  drained_grows answers last s (delivers _ n oldest rest) =
      below_is_most (later (tried_length answers s (receiver_in s n) (MessageEvent n))
      (drained_grows answers last (tried cluster answers s (receiver_in s n) (MessageEvent n)) rest))

  pub stepped_grows : (skip : Option Skip) (answers : Answers) (number : ℕ) (s : Situation) (a : Actor) (event : Event)
      → length (stepped_unless skip cluster answers number s a event).own ≡ suc (length s.own)
  stepped_grows (Some cause) answers number s a event = refl
  stepped_grows None answers number s a event = tried_length answers s a event

  pub dropped_grows : (skip : Option Skip) (number : ℕ) (s : Situation) (message : ℕ) → length s.own ≤ length (dropped_unless skip number s message).own
  dropped_grows (Some cause) number s message = below_is_most (next_below refl)
  dropped_grows None number s message = equal_is_most refl

  all_grows : (s : Situation) (a : Actor) (events : List Event) (lost : Bool) → length s.own ≤ length (entered_all cluster s a events lost).own
  all_grows s a [] lost = equal_is_most refl
  all_grows s a (event ∷ events) lost = chain (below_is_most (next_below refl)) (all_grows (entered cluster s a event lost) a events lost)

  reopened_grows : (s : Situation) (a : Actor) (kept : List Event) → length s.own < length (reopened cluster s a kept).own
  reopened_grows s a kept = below_next {n = length s.own} {k = length (with_kept cluster s a kept).own} (all_grows s a kept true)

  pub restarted_grows : (fails : Bool) (answers : Answers) (s : Situation) (a : Actor) → length s.own < length (restarted_if fails cluster answers s a).own
  restarted_grows true answers s a = next_below refl
  restarted_grows false answers s a = reopened_grows s a (kept_if (answers.keeps (length s.own)) a s)

  module _ (answers : Answers) (number : ℕ) where
    by_step : (skip : Option Skip) (s next : Situation) (a : Actor) (event : Event) → next ≡ stepped_unless skip cluster answers number s a event
        → length s.own ≤ length next.own
    by_step skip s next a event is = below_is_most (next_below (own_length is ∙ stepped_grows skip answers number s a event))

    pub next_grows : (step : Step) (s next : Situation) → IsNext cluster answers number step s next → length s.own ≤ length next.own
    next_grows (Begin txn) s next is = by_step (begin_skip cluster s txn) s next (home_of_txn cluster txn) (BeginEvent txn) is
    next_grows (Deliver message) s next is = by_step (deliver_skip s message) s next (receiver_in s message) (MessageEvent message) is
    next_grows (Drop message) s next is = chain (dropped_grows (message_skip s message) number s message) (equal_is_most (own_length is))
    next_grows (Recover txn node) s next is = by_step (recover_skip s txn node) s next (actor_of node 0) (RecoverEvent txn) is
    next_grows (Slow txn) s next is = by_step (slowing_skip cluster s txn) s next (home_of_txn cluster txn) (SlowEvent txn) is
    next_grows (Restart actor choice) s next is =
        chain (below_is_most (restarted_grows (fails_in answers s) answers s actor)) (equal_is_most (own_length is))
    next_grows (Fail actor calls) s next is = equal_is_most (own_length is)
    next_grows Drain s next drains = drained_grows answers next s drains

  pub last_grows : (answers : Answers) (number : ℕ) (steps : List Step) (s last : Situation) → Follows cluster answers number steps s last
      → length s.own ≤ length last.own
  last_grows answers number [] s last is = equal_is_most (own_length is)
  last_grows answers number (step ∷ steps) s last follows =
      chain (next_grows answers number step s follows.0 follows.1) (last_grows answers (number + 1) steps follows.0 last follows.2)

  -- ---- other answers that agree so far

  module _ (answers other : Answers) where
    pub tried_same : (s : Situation) (a : Actor) (event : Event) (n : ℕ) → AgreeBelow answers other n → length s.own < n
        → tried cluster answers s a event ≡ tried cluster other s a event
    tried_same s a event n agree less = ap (λ b. tried_if (is_journalled a event && b) cluster s a event) (agree (length s.own) less).0

    drained_same : (last s : Situation) → AgreeBelow answers other (length last.own) → Drains cluster answers last s → Drains cluster other last s
    drained_same last s agree (stops _ none is) = stops s none is
    drained_same last s agree (delivers _ n oldest rest) =
        delivers s n oldest
        (subst (Drains cluster other last)
        (tried_same s (receiver_in s n) (MessageEvent n) (length last.own) agree
        (later (tried_length answers s (receiver_in s n) (MessageEvent n))
        (drained_grows answers last (tried cluster answers s (receiver_in s n) (MessageEvent n)) rest)))
        (drained_same last (tried cluster answers s (receiver_in s n) (MessageEvent n)) agree rest))

    restarted_same : (fails : Bool) (s : Situation) (a : Actor) → answers.keeps (length s.own) ≡ other.keeps (length s.own)
        → restarted_if fails cluster answers s a ≡ restarted_if fails cluster other s a
    restarted_same true s a same = refl
    restarted_same false s a same = ap (λ keeps. reopened cluster s a (kept_if keeps a s)) same

    module _ (number : ℕ) where
      stepped_same : (skip : Option Skip) (s next : Situation) (a : Actor) (event : Event) → AgreeBelow answers other (length next.own)
          → next ≡ stepped_unless skip cluster answers number s a event → next ≡ stepped_unless skip cluster other number s a event
      stepped_same (Some cause) s next a event agree is = is
      stepped_same None s next a event agree is =
          is ∙ tried_same s a event (length next.own) agree (next_below (own_length is ∙ tried_length answers s a event))

      pub next_same : (step : Step) (s next : Situation) → AgreeBelow answers other (length next.own) → IsNext cluster answers number step s next
          → IsNext cluster other number step s next
      next_same (Begin txn) s next agree is = stepped_same (begin_skip cluster s txn) s next (home_of_txn cluster txn) (BeginEvent txn) agree is
      next_same (Deliver message) s next agree is =
          stepped_same (deliver_skip s message) s next (receiver_in s message) (MessageEvent message) agree is
      next_same (Drop message) s next agree is = is
      next_same (Recover txn node) s next agree is = stepped_same (recover_skip s txn node) s next (actor_of node 0) (RecoverEvent txn) agree is
      next_same (Slow txn) s next agree is = stepped_same (slowing_skip cluster s txn) s next (home_of_txn cluster txn) (SlowEvent txn) agree is
      next_same (Restart actor choice) s next agree is =
          let same = agree (length s.own) (subst (λ n. length s.own < n) (sym (own_length is)) (restarted_grows (fails_in answers s) answers s actor)) in
          is ∙ ap (λ b. restarted_if b cluster answers s actor) same.0 ∙ restarted_same (fails_in other s) s actor same.1
      next_same (Fail actor calls) s next agree is = is
      next_same Drain s next agree drains = drained_same next s agree drains

    last_same : (number : ℕ) (steps : List Step) (s last : Situation) → AgreeBelow answers other (length last.own)
        → Follows cluster answers number steps s last → Follows cluster other number steps s last
    last_same number [] s last agree is = is
    last_same number (step ∷ steps) s last agree follows = (
      follows.0,
      next_same number step s follows.0 (fewer (last_grows answers (number + 1) steps follows.0 last follows.2) agree) follows.1,
      last_same (number + 1) steps follows.0 last agree follows.2,
    )

-- ---- laws

pub answers_so_far : (cluster : Cluster) (answers other : Answers) (number : ℕ) (steps : List Step) (s last : Situation)
    → AgreeBelow answers other (length last.own) → Follows cluster answers number steps s last → Follows cluster other number steps s last
answers_so_far cluster answers other number steps s last agree follows = last_same cluster answers other number steps s last agree follows

pub one_step_more : (cluster : Cluster) (answers : Answers) (number : ℕ) (steps : List Step) (step : Step) (s between last : Situation)
    → Follows cluster answers number steps s between → IsNext cluster answers (number + length steps) step between last
    → Follows cluster answers number (steps ++ step ∷ []) s last
one_step_more cluster answers number [] step s between last is next =
    let none : number + 0 ≡ number = omega arith in (
      last,
      subst (λ n. IsNext cluster answers n step s last) none
          (subst (λ t. IsNext cluster answers (number + 0) step t last) is next),
      refl,
    )
one_step_more cluster answers number (first ∷ steps) step s between last follows next =
    let moved : number + suc (length steps) ≡ number + 1 + length steps = omega arith in (
      follows.0,
      follows.1,
      one_step_more cluster answers (number + 1) steps step follows.0 between last follows.2
          (subst (λ n. IsNext cluster answers n step between last) moved next),
    )
