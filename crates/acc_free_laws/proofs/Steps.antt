-- The steps of a schedule, as a cluster takes them, keep the items a free run, and each is the turn of its command.
use Rattle.std.proofs.Common.{◌≡◌, ℕ, Bool, true, false, not, nat_lt, ◌&&◌, ◌||◌, List, ◌∷◌, length, None, Some, Contains, refl, sym, ◌∙◌, ap, subst}
use Rattle.std.specs.List.{list_any}
use Rattle.std.proofs.lemmas.Bool.{and_parts, or_parts, not-true, eq-eqb}
use Rattle.acc_stamp.specs.declared.actors.Actor.{Actor}
use Rattle.acc_stamp.specs.Actor.{actor_of}
use Rattle.acc_topology.specs.Sets.{is_among}
use Rattle.acc_message.specs.declared.message.Message.{Message}
use Rattle.acc_message.specs.declared.entry.Event.{Event}
use Rattle.acc_message.specs.declared.entry.Event.TheVariants.{Begin as BeginEvent, Recover as RecoverEvent, Message as MessageEvent}
use Rattle.acc_message.specs.declared.item.Item.{Item}
use Rattle.acc_message.specs.Fields.{to_of}
use Rattle.acc_message.specs.Items.{same_actor, sent_of, message_at}
use Rattle.acc_message.specs.NodeRules.{Act, Begins, Recovers, Takes}
use Rattle.acc_message.specs.Run.{Cluster, kept_of, is_down}
use Rattle.acc_safety.specs.Calm.{item_takes}
use Rattle.acc_safety.specs.Valid.{IsStanding}
use Rattle.acc_safety.proofs.Bridge.{same}
use Rattle.acc_run_laws.specs.Asks.{home_of_txn}
use Rattle.acc_schedule.specs.Actors.{actors}
use Rattle.acc_schedule.specs.Content.{Content}
use Rattle.acc_schedule.specs.Plan.{IsPlan}
use Rattle.acc_schedule.specs.declared.plan.Step.{Step}
use Rattle.acc_schedule.specs.declared.plan.Step.TheVariants.{Begin, Deliver, Drop, Recover, Slow, Restart, Fail, Drain}
use Rattle.acc_schedule_runs.specs.Situations.{Situation, whole, is_sent_lost, receiver_in, is_through, waits, NothingWaits}
use Rattle.acc_schedule_runs.specs.Moves.{Answers, fails_in, event_in, is_journalled, tried_if, tried, stepped_unless, begin_skip, recover_skip, restarted_if, Drains, stops, delivers, IsNext}
use Rattle.acc_schedule_runs.specs.Schedules.{cluster_of}
use Rattle.acc_pasts.specs.Entries.{MayTake}
use Rattle.acc_pasts.proofs.Situations.{whole_alone}
use Rattle.acc_pasts.proofs.Skips.{begin_skip_is, recover_skip_is, begin_goes, recover_goes, sent_goes, waiting_goes}
use Rattle.acc_free_laws.specs.Commands.{is_restart, is_event_of, IsReady}
use Rattle.acc_free_laws.specs.FreeRun.{is_plain_event, IsUntaken}
use Rattle.acc_free_laws.specs.Serving.{IsServing, HasGone}
use Rattle.acc_free_laws.proofs.Commands.{has_txn, IsOwn, next_is_own}
use Rattle.acc_free_laws.proofs.Going.{command_went, message_went, others_went, stayed_down, others_stayed, reopened_went, others_reopened}
use Rattle.acc_free_laws.proofs.Serving.{serving_tried, serving_down, serving_restarted}

-- the law of receivers
abbrev pub GoesToActors : Type 0
GoesToActors =
    (cluster : Cluster) (items : List Item) (number : ℕ) (m : Message) → IsStanding cluster items → message_at items number ≡ Some m
    → Contains (actors cluster.layout) (to_of m)

-- the next command of the actor goes by, and no other actor's
abbrev pub GoesBy : Content → Actor → List Step → Situation → Situation → Type 0
GoesBy plan a left s next =
    IsServing plan next × HasGone plan next a left
    × ((b : Actor) (other : List Step) → same_actor a b ≡ false → HasGone plan s b other → HasGone plan next b other)

-- no command goes by
abbrev pub KeepsAll : Content → Situation → Situation → Type 0
KeepsAll plan s next = (b : Actor) (left : List Step) → HasGone plan s b left → HasGone plan next b left

module _ (plan : Content) (valid : IsPlan plan) (answers : Answers) where
  abbrev cluster : Cluster
  cluster = cluster_of plan

  up_own : (s : Situation) → IsServing plan s → (a : Actor) → is_down a (whole s) ≡ false → is_down a s.own ≡ false
  up_own s h a up = sym (ap (is_down a) (whole_alone s h.earlier)) ∙ up

  module _ (s : Situation) (h : IsServing plan s) where
    -- ---- the step of an actor

    module _ (a : Actor) (there : Contains (actors plan.topology) a) (event : Event) (act : Act)
        (may : MayTake cluster (whole s) a (event_in s event) act) (plain : is_plain_event event ≡ true) (none : kept_of event ≡ 0)
        (up : is_down a (whole s) ≡ false) (untaken : IsUntaken s.own event) where
      tried_serves : (test : Bool) → (is_journalled a event && fails_in answers s) ≡ test → IsServing plan (tried_if test cluster s a event)
      tried_serves test is =
          serving_tried plan s h a there event act test may plain none up untaken
          (λ fails. (and_parts (is_journalled a event) (fails_in answers s) (is ∙ fails)).0)

      command_goes : (command : Step) (left : List Step) → is_event_of command event ≡ true → is_restart command ≡ false
          → HasGone plan s a (command ∷ left) → GoesBy plan a left s (tried cluster answers s a event)
      command_goes command left is other gone = by (is_journalled a event && fails_in answers s) refl
        where
          by : (test : Bool) → (is_journalled a event && fails_in answers s) ≡ test → GoesBy plan a left s (tried_if test cluster s a event)
          by test k = (
            tried_serves test k,
            command_went plan s a event test command left is other (λ _. up_own s h a up) gone,
            λ b rest apart. others_went plan s a b event test rest apart,
          )

    -- ---- commands

    module _ (a : Actor) (there : Contains (actors plan.topology) a) (number : ℕ) (next : Situation) (left : List Step) where
      restart_goes : (actor : Actor) (choice : ℕ) (fails : Bool) → HasGone plan s a (Restart actor choice ∷ left)
          → GoesBy plan a left s (restarted_if fails cluster answers s a)
      restart_goes actor choice true gone = (
        serving_down plan s h a there,
        stayed_down plan s a (Restart actor choice) left refl gone,
        λ b rest apart. others_stayed plan s a b rest apart,
      )
      restart_goes actor choice false gone = (
        serving_restarted plan s h a there (answers.keeps (length s.own)),
        reopened_went plan s a (answers.keeps (length s.own)) (Restart actor choice) left refl gone,
        λ b rest apart. others_reopened plan s a b _ rest apart,
      )

      pub next_goes : (command : Step) → IsReady a (whole s) command → IsNext cluster answers number command s next
          → HasGone plan s a (command ∷ left) → GoesBy plan a left s next
      next_goes (Begin txn) ready is gone =
          let own : IsOwn plan a (Begin txn) = next_is_own plan a valid gone.gone (Begin txn) left gone.split in
          let home : home_of_txn cluster txn ≡ a = same (home_of_txn cluster txn) a own.1 in
          let none : begin_skip cluster s txn ≡ None =
          begin_skip_is cluster s txn false false (ap (λ b. is_down b (whole s)) home ∙ ready.0) ready.1 in
          let has = has_txn plan valid txn own.0 in
          let goes = begin_goes cluster s txn has none in
          let may = subst (λ b. MayTake cluster (whole s) b (BeginEvent txn) (Begins txn has.body)) home goes.2 in
          let next_is : next ≡ tried cluster answers s a (BeginEvent txn) =
          is ∙ ap (λ o. stepped_unless o cluster answers number s (home_of_txn cluster txn) (BeginEvent txn)) none
          ∙ ap (λ b. tried cluster answers s b (BeginEvent txn)) home in
          subst (GoesBy plan a left s) (sym next_is)
          (command_goes a there (BeginEvent txn) (Begins txn has.body) may refl refl ready.0 tt (Begin txn) left (eq-eqb txn txn refl) refl gone)
      next_goes (Recover txn node) ready is gone =
          let own : IsOwn plan a (Recover txn node) = next_is_own plan a valid gone.gone (Recover txn node) left gone.split in
          let home : actor_of node 0 ≡ a = same (actor_of node 0) a own.1 in
          let none : recover_skip s txn node ≡ None =
          recover_skip_is cluster s txn node false true (ap (λ b. is_down b (whole s)) home ∙ ready.0) ready.1 in
          let goes = recover_goes cluster s txn node h.sound.run.stands own.0.1 none in
          let may = subst (λ b. MayTake cluster (whole s) b (RecoverEvent txn) (Recovers goes.0 goes.1)) home goes.5 in
          let next_is : next ≡ tried cluster answers s a (RecoverEvent txn) =
          is ∙ ap (λ o. stepped_unless o cluster answers number s (actor_of node 0) (RecoverEvent txn)) none
          ∙ ap (λ b. tried cluster answers s b (RecoverEvent txn)) home in
          subst (GoesBy plan a left s) (sym next_is)
          (command_goes a there (RecoverEvent txn) (Recovers goes.0 goes.1) may refl refl ready.0 tt (Recover txn node) left (eq-eqb txn txn refl) refl
          gone)
      next_goes (Restart actor choice) ready is gone =
          let own : IsOwn plan a (Restart actor choice) = next_is_own plan a valid gone.gone (Restart actor choice) left gone.split in
          subst (GoesBy plan a left s)
          (sym (is ∙ ap (λ b. restarted_if (fails_in answers s) cluster answers s b) (same actor a own.1)))
          (restart_goes actor choice (fails_in answers s) gone)
      next_goes (Deliver message) ready is gone = absurd ready
      next_goes (Drop message) ready is gone = absurd ready
      next_goes (Slow txn) ready is gone = absurd ready
      next_goes (Fail actor calls) ready is gone = absurd ready
      next_goes Drain ready is gone = absurd ready

    -- ---- a message that waits

    not_taken : (message : ℕ) → waits s message ≡ true → list_any (item_takes message) s.own ≡ false
    not_taken message waiting =
        let parts = and_parts (nat_lt message (length (sent_of s.own))) (not (is_through s message) && not (is_down (receiver_in s message) (whole s))) waiting in
        let later = and_parts (not (is_through s message)) (not (is_down (receiver_in s message) (whole s))) parts.1 in
        (or_parts (list_any (item_takes message) s.own) (is_among s.dropped message || is_sent_lost s.own message)
        (not-true (is_through s message) later.0)).0

    pub message_goes : GoesToActors → (message : ℕ) → waits s message ≡ true
        → IsServing plan (tried cluster answers s (receiver_in s message) (MessageEvent message))
        × KeepsAll plan s (tried cluster answers s (receiver_in s message) (MessageEvent message))
    message_goes goes_to message waiting = by (is_journalled a (MessageEvent message) && fails_in answers s) refl
      where
        a : Actor
        a = receiver_in s message

        by : (test : Bool) → (is_journalled a (MessageEvent message) && fails_in answers s) ≡ test
            → IsServing plan (tried_if test cluster s a (MessageEvent message)) × KeepsAll plan s (tried_if test cluster s a (MessageEvent message))
        by test is =
            let goes = waiting_goes cluster s message waiting in
            let sent = sent_goes cluster s message goes.0 in
            let there = goes_to cluster s.own message sent.0 (record { valid = h.sound.valid; stands = h.free.run.stands }) sent.1 in (
              tried_serves a (subst (Contains (actors plan.topology)) (sym sent.2) there) (MessageEvent message) (Takes sent.0) sent.3 refl refl
                  goes.1 (not_taken message waiting) test is,
              λ b left. each test b left (same_actor a b) refl,
            )
          where
            each : (test : Bool) (b : Actor) (left : List Step) (here : Bool) → same_actor a b ≡ here → HasGone plan s b left
                → HasGone plan (tried_if test cluster s a (MessageEvent message)) b left
            each test b left true here gone =
                subst (λ c. HasGone plan (tried_if test cluster s a (MessageEvent message)) c left) (same a b here)
                (message_went plan s a (MessageEvent message) test left refl
                (λ _. up_own s h a (waiting_goes cluster s message waiting).1) (subst (λ c. HasGone plan s c left) (sym (same a b here)) gone))
            each test b left false apart gone = others_went plan s a b (MessageEvent message) test left apart gone

  -- ---- drains

  pub drains_go : GoesToActors → (next s : Situation) → Drains cluster answers next s → IsServing plan s
      → IsServing plan next × NothingWaits next × KeepsAll plan s next
  drains_go goes_to next s (stops _ none is) h =
      subst (λ t. IsServing plan t × NothingWaits t × KeepsAll plan s t) (sym is) (h, none, λ b left gone. gone)
  drains_go goes_to next s (delivers _ message oldest rest) h =
      let goes = message_goes s h goes_to message oldest.0 in
      let later = drains_go goes_to next (tried cluster answers s (receiver_in s message) (MessageEvent message)) rest goes.0 in
      (later.0, later.1, λ b left gone. later.2 b left (goes.1 b left gone))
