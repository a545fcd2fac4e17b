-- Runs that can be told: those of schedules, of schedules that go on, and free ones.
use Rattle.std.proofs.Common.{◌≡◌, ℕ, ◌+◌, ◌<◌, ◌≤◌, ◌^◌, IsTrue, List, [], ◌∷◌, length, Contains, refl, sym, subst, arith}
use Rattle.std.specs.List.{list_all, AllByRecursion}
use Rattle.std.proofs.lemmas.Bool.{true≢false, and_parts}
use Rattle.acc_stamp.specs.declared.actors.Actor.{Actor}
use Rattle.acc_topology.specs.Layout.{Layout, IsLayout}
use Rattle.acc_message.specs.declared.entry.Event.{Event}
use Rattle.acc_message.specs.declared.entry.Event.TheVariants.{Begin as BeginEvent, Recover as RecoverEvent, Slow as SlowEvent, Message as MessageEvent, Restart as RestartEvent}
use Rattle.acc_message.specs.declared.item.Item.{Item}
use Rattle.acc_message.specs.declared.item.Item.TheVariants.{Step as StepItem, Skipped, Down}
use Rattle.acc_message.specs.Items.{sent_of}
use Rattle.acc_message.specs.Run.{Cluster, kept_of, IsRun}
use Rattle.acc_safety.specs.Places.{IsPast, Whole}
use Rattle.acc_safety.specs.Valid.{IsValidCluster, IsStanding}
use Rattle.acc_safety.proofs.PlaceOrder.{Contains-IsIn}
use Rattle.acc_run_laws.proofs.AskFacts.{nothing_is_run}
use Rattle.acc_schedule.specs.Actors.{actors}
use Rattle.acc_schedule.specs.Content.{Content}
use Rattle.acc_schedule.specs.Plan.{IsPlan, IsStep}
use Rattle.acc_schedule.specs.declared.plan.Step.{Step}
use Rattle.acc_schedule_runs.specs.Limits.{IsWithin}
use Rattle.acc_schedule_runs.specs.Moves.{Answers}
use Rattle.acc_schedule_runs.specs.Schedules.{Follows, cluster_of, Obeys}
use Rattle.acc_schedule_runs.specs.Situations.{Situation, opened}
use Rattle.acc_schedule_runs.proofs.OneStop.{none_stopped}
use Rattle.acc_schedule_runs.proofs.GivesRuns.{Sound, sound_last, sound_opened, sound_run, sound_earlier, steps_of_plan}
use Rattle.acc_pasts.proofs.Situations.{whole_alone}
use Rattle.acc_free_laws.specs.FreeRun.{is_plain, AreKnown, KeepsSixteen, IsFreeRun}
use Rattle.acc_report_line.specs.Forms.{IsActor}
use Rattle.acc_report_laws.specs.Fits.{EventFits, PartsFit}
use Rattle.acc_report_laws.specs.Numbers.{NumbersMessage, IsNumbered}
use Rattle.acc_report_laws.specs.Told.{CanBeTold}
use Rattle.acc_report_laws.proofs.Actors.{actor_formed}
use Rattle.acc_report_laws.proofs.Placed.{Placed, follows_grow, steps_placed}
use Rattle.acc_report_laws.proofs.Sent.{sent_few}

-- ---- schedules

-- the plan's own schedule comes to one situation, and more steps from there to the last one
module _ (plan : Content) (answers : Answers) (h : IsPlan plan) (numbered : IsNumbered plan) (valid : IsValidCluster (cluster_of plan)) (more : List Step)
    (between last : Situation) (follows : Follows (cluster_of plan) answers 0 plan.steps (opened []) between)
    (on : Follows (cluster_of plan) answers (length plan.steps) more between last) (known : AllByRecursion (IsStep (length plan.names) plan.topology) more)
    (numbers : AllByRecursion NumbersMessage more) (short : length plan.steps + length more < 2 ^ 64) (within : IsWithin last.own) where
  abbrev cluster : Cluster
  cluster = cluster_of plan

  run : IsRun cluster last.own
  run =
      let first : Sound cluster [] between =
      sound_last cluster [] answers 0 plan.steps (opened []) between (steps_of_plan plan h plan.steps h.steps_known) follows
      (sound_opened cluster [] (nothing_is_run cluster).run) in
      let second : Sound cluster [] last = sound_last cluster [] answers (length plan.steps) more between last (steps_of_plan plan h more known) on first in
      subst (IsRun cluster) (whole_alone last (sound_earlier cluster [] last second)) (sound_run cluster [] last second)

  standing : IsStanding cluster last.own
  standing = record { valid = valid; stands = run.stands }

  few : length (sent_of last.own) < 2 ^ 64
  few = omega (arith, sent_few last.own, within.light)

  placed : Placed plan.names last
  placed =
      let first : Placed plan.names between =
      steps_placed plan answers h last.own standing few 0 plan.steps (opened []) between h.steps_known numbered.messages (omega (arith, h.few_steps))
      (follows_grow cluster answers (length plan.steps) more between last on) follows (record { items = tt; stopped = tt; one = none_stopped [] }) in
      steps_placed plan answers h last.own standing few (length plan.steps) more between last known numbers short (Whole last.own) on first

  pub gone_on : CanBeTold plan last.own
  gone_on = record { is_plan = h; bodies = numbered.bodies; run = run; within = within; parts = placed.items }

no_more : (n : ℕ) → n ≤ 200000 → n + 0 < 2 ^ 64
no_more n few = omega (arith, few)

pub obeyed : (plan : Content) (answers : Answers) (items : List Item) → IsPlan plan → IsNumbered plan → IsValidCluster (cluster_of plan) → Obeys plan answers items
    → IsWithin items → CanBeTold plan items
obeyed plan answers items h numbered valid obeys within =
    subst (CanBeTold plan) (sym obeys.items_are)
    (gone_on plan answers h numbered valid [] obeys.last obeys.last obeys.follows refl tt tt (no_more (length plan.steps) h.few_steps) (subst IsWithin obeys.items_are within))

-- ---- free runs

kept_few : (n : ℕ) → n ≤ 16 → n < 2 ^ 64
kept_few n few = omega (arith, few)

event_fits : (a : Actor) (event : Event) → IsActor a → kept_of event ≤ 16 → EventFits a event
event_fits a (BeginEvent txn) actor kept = tt
event_fits a (RecoverEvent txn) actor kept = tt
event_fits a (SlowEvent txn) actor kept = tt
event_fits a (MessageEvent number) actor kept = tt
event_fits a (RestartEvent count) actor kept = (actor, kept_few count kept)

module _ (names : List (List ℕ)) (layout : Layout) (h : IsLayout layout) where
  formed : (a : Actor) → Contains (actors layout) a → IsActor a
  formed a there = actor_formed layout h a (Contains-IsIn a (actors layout) there)

  free_parts : (items : List Item) → IsTrue (list_all is_plain items) → AreKnown layout items → AllByRecursion KeepsSixteen items → AllByRecursion (PartsFit names) items
  free_parts [] plain known kept = tt
  free_parts (StepItem e ∷ items) plain known kept = (
    event_fits e.actor e.event (formed e.actor known.0) kept.0,
    free_parts items (and_parts (is_plain (StepItem e)) (list_all is_plain items) plain).1 known.1 kept.1,
  )
  free_parts (Skipped step cause ∷ items) plain known kept = absurd (true≢false (sym plain))
  free_parts (Down actor ∷ items) plain known kept = (formed actor known.0, free_parts items plain known.1 kept.1)

pub freely : (plan : Content) (items : List Item) → IsPlan plan → IsNumbered plan → IsFreeRun plan items → IsWithin items → CanBeTold plan items
freely plan items h numbered free within =
    record {
      is_plan = h;
      bodies = numbered.bodies;
      run = free.run;
      within = within;
      parts = free_parts plan.names plan.topology h.layout items free.plain free.known free.kept;
    }
