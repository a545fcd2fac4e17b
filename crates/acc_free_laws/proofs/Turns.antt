-- A whole turn of an actor: it stepped by what it had seen, and then its item came after others' items.
use Rattle.std.proofs.Common.{◌≡◌, ◌≤◌, true, false, List, [], ◌∷◌, ◌++◌, length, Contains, refl, sym, ◌∙◌, ap, subst}
use Rattle.std.specs.List.{AllByRecursion}
use Rattle.std.proofs.lemmas.Bool.{true≢false}
use Rattle.acc_stamp.specs.declared.actors.Actor.{Actor}
use Rattle.acc_stamp.proofs.Rising.{each_weaker}
use Rattle.acc_message.specs.declared.entry.Event.{Event}
use Rattle.acc_message.specs.declared.entry.Event.TheVariants.{Restart as RestartEvent}
use Rattle.acc_message.specs.declared.item.Item.{Item}
use Rattle.acc_message.specs.declared.item.Item.TheVariants.{Down}
use Rattle.acc_message.specs.NodeRules.{Act, Restarts}
use Rattle.acc_message.specs.Run.{Cluster, kept_of, is_down}
use Rattle.acc_schedule.specs.Actors.{actors}
use Rattle.acc_schedule.specs.Content.{Content}
use Rattle.acc_schedule.specs.declared.plan.Step.{Step}
use Rattle.acc_schedule_runs.specs.Situations.{Stopped, Situation, whole, without, stops_of}
use Rattle.acc_schedule_runs.specs.Moves.{event_in, entered, is_journalled, reopened}
use Rattle.acc_schedule_runs.specs.Schedules.{cluster_of}
use Rattle.acc_pasts.specs.Entries.{entering, MayTake}
use Rattle.acc_pasts.specs.Pasts.{IsUntouched}
use Rattle.acc_pasts.specs.Stopped.{AreDifferent}
use Rattle.acc_free_laws.specs.Commands.{is_restart, is_event_of, is_message}
use Rattle.acc_free_laws.specs.FreeRun.{is_plain_event, IsUntaken, AreOthers, IsFreeRun, alone}
use Rattle.acc_free_laws.specs.Serving.{IsServing, MayStop, HasGone, AreStopsOf}
use Rattle.acc_free_laws.proofs.Alone.{alone_whole, alone_event, alone_entered, alone_reopened}
use Rattle.acc_free_laws.proofs.Going.{command_went, messages_stopped, message_went, reopened_went, stayed_down}
use Rattle.acc_free_laws.proofs.Fitting.{plain_if_journalled}
use Rattle.acc_free_laws.proofs.Others.{untouched_by, may_over, no_entries, untaken_over, entering_over}
use Rattle.acc_free_laws.proofs.Over.{gone_over, serving_over}
use Rattle.acc_free_laws.proofs.Serving.{serving_entered, serving_stopped, serving_down, serving_restarted}

module _ (plan : Content) (seen others : List Item) (a : Actor) (stopped : List Stopped) (apart : AreOthers a others) where
  abbrev cluster : Cluster
  cluster = cluster_of plan

  abbrev items : List Item
  items = others ++ seen

  abbrev found : Situation
  found = alone items stopped

  never : {A : Type 0} → false ≡ true → A
  never fails = absurd (true≢false (sym fails))

  still_up : is_down a seen ≡ false → is_down a items ≡ false
  still_up up =
      let past : IsUntouched cluster seen items a = untouched_by cluster seen a others apart in
      past.down ∙ up

  -- its entry stands as it was made
  module _ (event : Event) (act : Act) (may : MayTake cluster seen a event act) where
    pub entered_is : entered cluster found a event false ≡ alone (entering cluster seen a event false ∷ items) stopped
    entered_is =
        alone_entered cluster items stopped a event false
        ∙ ap (λ (item : Item). alone (item ∷ items) stopped)
        (entering_over cluster seen others a event act (no_entries a others apart) may.act_is false)

    -- ---- which commands went by

    pub command_entered : (command : Step) (left : List Step) → is_event_of command event ≡ true → is_restart command ≡ false
        → HasGone plan (alone seen stopped) a (command ∷ left)
        → HasGone plan (alone (entering cluster seen a event false ∷ items) stopped) a left
    command_entered command left is other gone =
        subst (λ s. HasGone plan s a left) entered_is
        (command_went plan found a event false command left is other never (gone_over plan seen others a stopped (command ∷ left) apart gone))

    pub message_entered : (left : List Step) → is_message event ≡ true → HasGone plan (alone seen stopped) a left
        → HasGone plan (alone (entering cluster seen a event false ∷ items) stopped) a left
    message_entered left is gone =
        subst (λ s. HasGone plan s a left) entered_is
        (message_went plan found a event false left is never (gone_over plan seen others a stopped left apart gone))

  pub command_stopped : (event : Event) (command : Step) (left : List Step) → is_event_of command event ≡ true → is_restart command ≡ false
      → is_down a seen ≡ false → HasGone plan (alone seen stopped) a (command ∷ left)
      → HasGone plan (alone (Down a ∷ items) (stops_of a (event ∷ []) ++ without a stopped)) a left
  command_stopped event command left is other up gone =
      command_went plan found a event true command left is other (λ _. still_up up) (gone_over plan seen others a stopped (command ∷ left) apart gone)

  pub message_stopped : (events : List Event) (left : List Step) → AllByRecursion (λ (event : Event). is_message event ≡ true) events
      → is_down a seen ≡ false → HasGone plan (alone seen stopped) a left
      → HasGone plan (alone (Down a ∷ items) (stops_of a events ++ without a stopped)) a left
  message_stopped events left are up gone =
      messages_stopped plan found a events left are (still_up up) (gone_over plan seen others a stopped left apart gone)

  restarted_is : reopened cluster found a [] ≡ alone (entering cluster seen a (RestartEvent 0) false ∷ items) (without a stopped)
  restarted_is =
      alone_reopened cluster items stopped a
      ∙ ap (λ (item : Item). alone (item ∷ items) (without a stopped))
      (entering_over cluster seen others a (RestartEvent 0) Restarts (no_entries a others apart) refl false)

  pub restart_entered : (command : Step) (left : List Step) → is_restart command ≡ true → HasGone plan (alone seen stopped) a (command ∷ left)
      → HasGone plan (alone (entering cluster seen a (RestartEvent 0) false ∷ items) (without a stopped)) a left
  restart_entered command left is gone =
      subst (λ s. HasGone plan s a left) restarted_is
      (reopened_went plan found a false command left is (gone_over plan seen others a stopped (command ∷ left) apart gone))

  pub restart_failed : (command : Step) (left : List Step) → is_restart command ≡ true → HasGone plan (alone seen stopped) a (command ∷ left)
      → HasGone plan (alone (Down a ∷ items) stopped) a left
  restart_failed command left is gone =
      stayed_down plan found a command left is (gone_over plan seen others a stopped (command ∷ left) apart gone)

  -- ---- the items serve

  module _ (there : Contains (actors plan.topology) a) (stops : AreStopsOf a stopped) (free : IsFreeRun plan items)
      (h : IsServing plan (alone seen stopped)) where
    over : IsServing plan found
    over = serving_over plan seen others a stopped apart stops free h

    module _ (event : Event) (act : Act) (may : MayTake cluster seen a event act) (untaken : IsUntaken seen event)
        (plain : is_plain_event event ≡ true) where
      may_whole : MayTake cluster (whole found) a (event_in found event) act
      may_whole =
          subst (λ e. MayTake cluster (whole found) a e act) (sym (alone_event items stopped event))
          (subst (λ own. MayTake cluster own a event act) (sym (alone_whole items stopped))
          (may_over cluster seen a event act others apart free.run.stands plain may))

      untaken_now : IsUntaken items event
      untaken_now = untaken_over cluster seen a event act others apart free.run.stands may untaken

      pub entry_serves : kept_of event ≡ 0 → is_down a seen ≡ false
          → IsServing plan (alone (entering cluster seen a event false ∷ items) stopped)
      entry_serves none up =
          let past : IsUntouched cluster seen items a = untouched_by cluster seen a others apart in
          subst (IsServing plan) (entered_is event act may)
          (serving_entered plan found over a there event act may_whole plain none
          (ap (is_down a) (alone_whole items stopped) ∙ past.down ∙ up) untaken_now)

    pub stop_serves : (events : List Event) → AllByRecursion (MayStop cluster seen a) events → AreDifferent events → length events ≤ 16
        → IsServing plan (alone (Down a ∷ items) (stops_of a events ++ without a stopped))
    stop_serves events may different few =
        serving_stopped plan found over a there events
        (each_weaker (MayStop cluster seen a)
        (λ (event : Event). (act : Act) × MayTake cluster (whole found) a (event_in found event) act × (is_journalled a event ≡ true)) events
        (λ event h. (h.act, may_whole event h.act h.may h.untaken (plain_if_journalled a event h.journalled), h.journalled)) may)
        different
        (each_weaker (MayStop cluster seen a) (IsUntaken items) events
        (λ event h. untaken_now event h.act h.may h.untaken (plain_if_journalled a event h.journalled)) may) few

    pub restart_serves : IsServing plan (alone (entering cluster seen a (RestartEvent 0) false ∷ items) (without a stopped))
    restart_serves = subst (IsServing plan) restarted_is (serving_restarted plan found over a there false)

    pub failure_serves : IsServing plan (alone (Down a ∷ items) stopped)
    failure_serves = serving_down plan found over a there
