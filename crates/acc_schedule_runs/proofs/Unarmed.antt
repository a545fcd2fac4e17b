-- Where nothing is armed on strict disks, they answer as disks of which none fails.
use Rattle.std.proofs.Common.{◌≡◌, ℕ, ◌+◌, Bool, true, false, cond, ◌&&◌, List, [], ◌∷◌, Option, None, Some, refl, sym, ◌∙◌, ap, subst}
use Rattle.std.specs.List.{AllByRecursion}
use Rattle.acc_stamp.specs.declared.actors.Actor.{Actor}
use Rattle.acc_stamp.specs.Actor.{actor_of}
use Rattle.acc_message.specs.declared.item.Item.{Item}
use Rattle.acc_message.specs.declared.item.Skip.{Skip}
use Rattle.acc_message.specs.declared.entry.Event.{Event}
use Rattle.acc_message.specs.declared.entry.Event.TheVariants.{Begin as BeginEvent, Recover as RecoverEvent, Slow as SlowEvent, Message as MessageEvent}
use Rattle.acc_message.specs.Items.{same_actor}
use Rattle.acc_message.specs.Run.{Cluster}
use Rattle.acc_run_laws.specs.Asks.{home_of_txn}
use Rattle.acc_journal.specs.Journal.{keeps_group}
use Rattle.acc_schedule.specs.Content.{Content}
use Rattle.acc_schedule.specs.declared.plan.Step.{Step}
use Rattle.acc_schedule.specs.declared.plan.Step.TheVariants.{Begin, Deliver, Drop, Recover, Slow, Restart, Fail, Drain}
use Rattle.acc_schedule_runs.specs.Situations.{opened, receiver_in}
use Rattle.acc_schedule_runs.specs.Moves.{is_journalled, tried_if, tried, stepped_unless, begin_skip, recover_skip, slowing_skip, deliver_skip, kept_if, reopened, restarted_if, Drains, stops as ends, delivers as takes, IsNext}
use Rattle.acc_schedule_runs.specs.Schedules.{Follows, cluster_of, Obeys}
use Rattle.acc_payloads.specs.Appends.{after_append, fails_append, passed_in}
use Rattle.acc_schedule_runs.specs.Disks.{Disks, after_step, after_restart}
use Rattle.acc_schedule_runs.specs.StrictMoves.{StrictSituation, tried_strictly, stepped_strictly, restarted_strictly, opened_strictly, StrictDrains, stops, delivers, IsStrictNext}
use Rattle.acc_schedule_runs.specs.StrictSchedules.{FollowsStrictly, ObeysStrictly}
use Rattle.acc_schedule_runs.specs.StrictLaws.{ArmsNothing, no_faults}

-- nothing is armed, and nobody is down by an append that failed
record Idle (disks : Disks) : Type 0 where
  armed : (a : Actor) → disks.armed a ≡ None
  passed : (a : Actor) → disks.passed a ≡ None

either_none : (test : Bool) (one other : Option ℕ) → one ≡ None → other ≡ None → cond test one other ≡ None
either_none true one other a b = a
either_none false one other a b = b

idle_step : (test : Bool) (a : Actor) (disks : Disks) → Idle disks → Idle (after_step test a disks)
idle_step true a disks idle =
    record {
      armed = λ b. either_none (same_actor b a) (after_append (disks.armed a)) (disks.armed b) (ap after_append (idle.armed a)) (idle.armed b);
      passed = λ b. either_none (same_actor b a) (passed_in (disks.armed a)) (disks.passed b) (ap passed_in (idle.armed a)) (idle.passed b);
    }
idle_step false a disks idle = idle

idle_restart : (a : Actor) (disks : Disks) → Idle disks → Idle (after_restart a disks)
idle_restart a disks idle =
    record {
      armed = λ b. either_none (same_actor b a) None (disks.armed b) refl (idle.armed b);
      passed = λ b. either_none (same_actor b a) None (disks.passed b) refl (idle.passed b);
    }

module _ (cluster : Cluster) where
  tried_idle : (s : StrictSituation) (a : Actor) (event : Event) → Idle s.disks
      → (tried_strictly cluster s a event).found ≡ tried cluster no_faults s.found a event
  tried_idle s a event idle = ap (λ armed. tried_if (is_journalled a event && fails_append armed) cluster s.found a event) (idle.armed a)

  -- ---- a drain

  drained_idle : (last s : StrictSituation) → StrictDrains cluster last s → Idle s.disks → Drains cluster no_faults last.found s.found × Idle last.disks
  drained_idle last s (stops _ none is) idle =
      (ends s.found none (ap (λ (t : StrictSituation). t.found) is), subst (λ (t : StrictSituation). Idle t.disks) (sym is) idle)
  drained_idle last s (delivers _ n oldest rest) idle =
      let a : Actor = receiver_in s.found n in
      let more =
      drained_idle last (tried_strictly cluster s a (MessageEvent n)) rest (idle_step (is_journalled a (MessageEvent n)) a s.disks idle) in
      (takes s.found n oldest (subst (Drains cluster no_faults last.found) (tried_idle s a (MessageEvent n) idle) more.0), more.1)

  -- ---- each step

  module _ (number : ℕ) (s next : StrictSituation) (idle : Idle s.disks) where
    found_is : (t : StrictSituation) → next ≡ t → next.found ≡ t.found
    found_is t is = ap (λ (u : StrictSituation). u.found) is

    still_idle : (t : StrictSituation) → next ≡ t → Idle t.disks → Idle next.disks
    still_idle t is h = subst (λ (u : StrictSituation). Idle u.disks) (sym is) h

    step_idle : (skip : Option Skip) (a : Actor) (event : Event) → next ≡ stepped_strictly skip cluster number s a event
        → (next.found ≡ stepped_unless skip cluster no_faults number s.found a event) × Idle next.disks
    step_idle (Some cause) a event is =
        (found_is (stepped_strictly (Some cause) cluster number s a event) is, still_idle (stepped_strictly (Some cause) cluster number s a event) is idle)
    step_idle None a event is = (
      found_is (tried_strictly cluster s a event) is ∙ tried_idle s a event idle,
      still_idle (tried_strictly cluster s a event) is (idle_step (is_journalled a event) a s.disks idle),
    )

    restart_idle : (a : Actor) (choice : ℕ) → next ≡ restarted_strictly cluster s a choice
        → (next.found ≡ restarted_if false cluster no_faults s.found a) × Idle next.disks
    restart_idle a choice is = (
      found_is (restarted_strictly cluster s a choice) is
          ∙ ap (λ passed. reopened cluster s.found a (kept_if (keeps_group passed choice) a s.found)) (idle.passed a),
      still_idle (restarted_strictly cluster s a choice) is (idle_restart a s.disks idle),
    )

    next_idle : (step : Step) → ArmsNothing step → IsStrictNext cluster number step s next
        → IsNext cluster no_faults number step s.found next.found × Idle next.disks
    next_idle (Begin txn) h is = step_idle (begin_skip cluster s.found txn) (home_of_txn cluster txn) (BeginEvent txn) is
    next_idle (Deliver message) h is = step_idle (deliver_skip s.found message) (receiver_in s.found message) (MessageEvent message) is
    next_idle (Drop message) h is = (ap (λ (t : StrictSituation). t.found) is, subst (λ (t : StrictSituation). Idle t.disks) (sym is) idle)
    next_idle (Recover txn node) h is = step_idle (recover_skip s.found txn node) (actor_of node 0) (RecoverEvent txn) is
    next_idle (Slow txn) h is = step_idle (slowing_skip cluster s.found txn) (home_of_txn cluster txn) (SlowEvent txn) is
    next_idle (Restart actor choice) h is = restart_idle actor choice is
    next_idle (Fail actor calls) h is = absurd h
    next_idle Drain h drains = drained_idle next s drains idle

  -- ---- all steps

  follows_idle : (number : ℕ) (steps : List Step) (s last : StrictSituation) → AllByRecursion ArmsNothing steps → FollowsStrictly cluster number steps s last
      → Idle s.disks → Follows cluster no_faults number steps s.found last.found
  follows_idle number [] s last h is idle = ap (λ (t : StrictSituation). t.found) is
  follows_idle number (step ∷ steps) s last h follows idle =
      let one = next_idle number s follows.0 idle step h.0 follows.1 in
      (follows.0.found, one.0, follows_idle (number + 1) steps follows.0 last h.1 follows.2 one.1)

pub nothing_fails : (cluster : Cluster) (earlier : List Item) (number : ℕ) (steps : List Step) (last : StrictSituation) → AllByRecursion ArmsNothing steps
    → FollowsStrictly cluster number steps (opened_strictly earlier) last → Follows cluster no_faults number steps (opened earlier) last.found
nothing_fails cluster earlier number steps last h follows =
    follows_idle cluster number steps (opened_strictly earlier) last h follows (record { armed = λ a. refl; passed = λ a. refl })

pub obeys_without_faults : (plan : Content) (items : List Item) → AllByRecursion ArmsNothing plan.steps → ObeysStrictly plan items
    → Obeys plan no_faults items
obeys_without_faults plan items h obeys =
    record {
      last = obeys.last.found;
      follows = nothing_fails (cluster_of plan) [] 0 plan.steps obeys.last h obeys.follows;
      items_are = obeys.items_are;
    }
