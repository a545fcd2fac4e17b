-- Over strict disks on which nothing is armed nobody goes down.
use Rattle.std.proofs.Common.{◌≡◌, ℕ, Bool, true, false, cond, ◌&&◌, List, [], ◌∷◌, Option, None, Some, refl, sym, ◌∙◌, ap, subst}
use Rattle.std.proofs.Math.Bool.{and-false}
use Rattle.std.proofs.lemmas.Bool.{true≢false, and_from}
use Rattle.acc_stamp.specs.declared.actors.Actor.{Actor}
use Rattle.acc_stamp.specs.Actor.{actor_of}
use Rattle.acc_journal.specs.Journal.{keeps_group}
use Rattle.acc_message.specs.declared.entry.Event.{Event}
use Rattle.acc_message.specs.declared.entry.Event.TheVariants.{Begin as BeginEvent, Recover as RecoverEvent, Message as MessageEvent}
use Rattle.acc_message.specs.declared.item.Skip.{Skip}
use Rattle.acc_message.specs.Items.{same_actor}
use Rattle.acc_message.specs.Run.{Cluster as RunCluster}
use Rattle.acc_run_laws.specs.Asks.{home_of_txn}
use Rattle.acc_schedule.specs.Content.{Content}
use Rattle.acc_schedule.specs.Plan.{IsPlan}
use Rattle.acc_schedule.specs.declared.plan.Step.{Step}
use Rattle.acc_schedule.specs.declared.plan.Step.TheVariants.{Begin, Deliver, Drop, Recover, Slow, Restart, Fail, Drain}
use Rattle.acc_schedule_runs.specs.Situations.{Situation, receiver_in, waits}
use Rattle.acc_schedule_runs.specs.Moves.{Answers, entered, is_journalled, tried_if, tried, begin_skip, recover_skip, kept_if, with_kept, reopened}
use Rattle.acc_schedule_runs.specs.Schedules.{cluster_of}
use Rattle.acc_schedule_runs.specs.Laws.{NobodyIsDown}
use Rattle.acc_payloads.specs.Appends.{fails_append, after_append}
use Rattle.acc_schedule_runs.specs.Disks.{Disks, after_step, step_answers}
use Rattle.acc_schedule_runs.specs.StrictMoves.{StrictSituation, tried_strictly, stepped_strictly, StrictDrains, stops, delivers, IsStrictNext}
use Rattle.acc_schedule_runs.specs.Fronts.{Begins}
use Rattle.acc_schedule_runs.specs.StrictFronts.{StrictlyDrainsTo, comes, goes_on}
use Rattle.acc_schedule_runs.proofs.Beginnings.{begins_itself, begins_chain}
use Rattle.acc_schedule_runs.proofs.Reached.{tried_adds}
use Rattle.acc_free_laws.specs.Commands.{is_command_of}
use Rattle.acc_free_laws.specs.Serving.{IsServing, HasGone}

-- nothing is armed, and nobody was ever down
pub record IsUp (s : StrictSituation) : Type 0 where
  pub unarmed : (a : Actor) → s.disks.armed a ≡ None
  pub up : NobodyIsDown s.found.own

either_none : (test : Bool) (one other : Option ℕ) → one ≡ None → other ≡ None → cond test one other ≡ None
either_none true one other a b = a
either_none false one other a b = b

unarmed_step : (test : Bool) (a : Actor) (disks : Disks) → ((b : Actor) → disks.armed b ≡ None) → (b : Actor) → (after_step test a disks).armed b ≡ None
unarmed_step true a disks none b = either_none (same_actor b a) (after_append (disks.armed a)) (disks.armed b) (ap after_append (none a)) (none b)
unarmed_step false a disks none b = none b

module _ (cluster : RunCluster) where
  up_tried : (s : StrictSituation) (a : Actor) (event : Event) → IsUp s → IsUp (tried_strictly cluster s a event)
  up_tried s a event h = record {
    unarmed = unarmed_step (is_journalled a event) a s.disks h.unarmed;
    up =
        subst (λ test. NobodyIsDown (tried_if test cluster s.found a event).own)
        (sym (ap (λ armed. is_journalled a event && fails_append armed) (h.unarmed a) ∙ and-false (is_journalled a event))) (and_from true _ refl h.up);
  }

  up_kept : (s : Situation) (a : Actor) (kept : List Event) → NobodyIsDown s.own → NobodyIsDown (with_kept cluster s a kept).own
  up_kept s a [] up = up
  up_kept s a (event ∷ kept) up = up_kept (entered cluster s a event true) a kept (and_from true _ refl up)

  up_reopened : (s : Situation) (a : Actor) (kept : List Event) → NobodyIsDown s.own → NobodyIsDown (reopened cluster s a kept).own
  up_reopened s a kept up = and_from true _ refl (up_kept s a kept up)

  pub up_drained : (last s : StrictSituation) → StrictDrains cluster last s → IsUp s → IsUp last
  up_drained last s (stops _ none is) h = subst IsUp (sym is) h
  up_drained last s (delivers _ n oldest rest) h =
      up_drained last (tried_strictly cluster s (receiver_in s.found n) (MessageEvent n)) rest (up_tried s (receiver_in s.found n) (MessageEvent n) h)

  module _ (number : ℕ) where
    up_stepped : (skip : Option Skip) (s : StrictSituation) (a : Actor) (event : Event) → IsUp s → IsUp (stepped_strictly skip cluster number s a event)
    up_stepped (Some cause) s a event h = record { unarmed = h.unarmed; up = and_from true _ refl h.up }
    up_stepped None s a event h = up_tried s a event h

    pub up_command : (a : Actor) (command : Step) (s next : StrictSituation) → is_command_of cluster a command ≡ true → IsStrictNext cluster number command s next → IsUp s → IsUp next
    up_command a (Begin txn) s next own is h =
        subst IsUp (sym is) (up_stepped (begin_skip cluster s.found txn) s (home_of_txn cluster txn) (BeginEvent txn) h)
    up_command a (Recover txn node) s next own is h =
        subst IsUp (sym is) (up_stepped (recover_skip s.found txn node) s (actor_of node 0) (RecoverEvent txn) h)
    up_command a (Restart actor choice) s next own is h =
        subst IsUp (sym is) (record {
          unarmed = λ b. either_none (same_actor b actor) None (s.disks.armed b) refl (h.unarmed b);
          up = up_reopened s.found actor (kept_if (keeps_group (s.disks.passed actor) choice) actor s.found) h.up;
        })
    up_command a (Deliver message) s next own is h = absurd (true≢false (sym own))
    up_command a (Drop message) s next own is h = absurd (true≢false (sym own))
    up_command a (Slow txn) s next own is h = absurd (true≢false (sym own))
    up_command a (Fail actor calls) s next own is h = absurd (true≢false (sym own))
    up_command a Drain s next own is h = absurd (true≢false (sym own))

-- ---- part of a drain

-- the law of one delivery
abbrev pub DeliveryLaw : Type 0
DeliveryLaw =
    (plan : Content) (answers : Answers) (s : Situation) (message : ℕ) → IsPlan plan → waits s message ≡ true → IsServing plan s
    → IsServing plan (tried (cluster_of plan) answers s (receiver_in s message) (MessageEvent message))
    × ((a : Actor) (left : List Step) → HasGone plan s a left → HasGone plan (tried (cluster_of plan) answers s (receiver_in s message) (MessageEvent message)) a left)

-- the deliveries serve, and nobody goes down
pub record IsDrainedTo (plan : Content) (reached s : StrictSituation) : Type 0 where
  pub serving : IsServing plan reached.found
  pub gone : (a : Actor) (left : List Step) → HasGone plan s.found a left → HasGone plan reached.found a left
  pub up : IsUp reached
  pub behind : Begins s.found.own reached.found.own

module _ (plan : Content) (valid : IsPlan plan) (law : DeliveryLaw) where
  pub drained_to : (reached s : StrictSituation) → StrictlyDrainsTo (cluster_of plan) reached s → IsServing plan s.found → IsUp s → IsDrainedTo plan reached s
  drained_to reached s (comes _ is) serving up =
      subst (λ t. IsDrainedTo plan t s) (sym is) (record { serving = serving; gone = λ a left gone. gone; up = up; behind = begins_itself s.found.own })
  drained_to reached s (goes_on _ n oldest rest) serving up =
      let a : Actor = receiver_in s.found n in
      let next : StrictSituation = tried_strictly (cluster_of plan) s a (MessageEvent n) in
      let one = law plan (step_answers s.disks a) s.found n valid oldest.0 serving in
      let more = drained_to reached next rest one.0 (up_tried (cluster_of plan) s a (MessageEvent n) up) in
      record {
        serving = more.serving;
        gone = λ b left gone. more.gone b left (one.1 b left gone);
        up = more.up;
        behind =
            begins_chain s.found.own next.found.own reached.found.own (tried_adds (cluster_of plan) (step_answers s.disks a) s.found a (MessageEvent n)) more.behind;
      }
