-- How the commands of an actor go by, with each move of an actor.
use Rattle.std.proofs.Common.{◌≡◌, ℕ, Bool, true, false, List, [], ◌∷◌, ◌++◌, length, reverse, Option, None, Some, refl, sym, ◌∙◌, ap, subst}
use Rattle.std.specs.List.{AllByRecursion}
use Rattle.std.proofs.lemmas.Bool.{true≢false}
use Rattle.std.proofs.lemmas.List.{reverse-append, append_assoc}
use Rattle.acc_stamp.specs.declared.actors.Actor.{Actor}
use Rattle.acc_message.specs.declared.entry.Event.{Event}
use Rattle.acc_message.specs.declared.entry.Event.TheVariants.{Restart as RestartEvent}
use Rattle.acc_message.specs.declared.item.Item.{Item}
use Rattle.acc_message.specs.declared.item.Item.TheVariants.{Down}
use Rattle.acc_message.specs.Items.{same_actor}
use Rattle.acc_message.specs.Run.{Cluster, is_down}
use Rattle.acc_safety.proofs.Bridge.{same_itself}
use Rattle.acc_schedule.specs.Content.{Content}
use Rattle.acc_schedule.specs.declared.plan.Step.{Step}
use Rattle.acc_schedule.specs.declared.plan.Step.TheVariants.{Begin, Deliver, Drop, Recover, Slow, Restart, Fail, Drain}
use Rattle.acc_schedule_runs.specs.Situations.{Stopped, Situation, whole, stopped_at}
use Rattle.acc_schedule_runs.specs.Moves.{with_item, entry_of, entered, stopped_by, tried_if, kept_if, with_kept, reopened}
use Rattle.acc_schedule_runs.specs.Schedules.{cluster_of}
use Rattle.acc_schedule_runs.proofs.StopLists.{without_other, without_own, stopped_own, stopped_other}
use Rattle.acc_pasts.proofs.Situations.{whole_alone}
use Rattle.acc_free_laws.specs.Commands.{commands_of, is_restart, is_event_of, is_message, IsPassed}
use Rattle.acc_free_laws.specs.Turns.{Went, begins, aside, delivered, took, came_up, stopped, stayed, went_down, kept, kept_message, passed}
use Rattle.acc_free_laws.specs.FreeRun.{alone}
use Rattle.acc_free_laws.specs.Serving.{IsStopOf, HasGone}
use Rattle.acc_free_laws.proofs.Alone.{made}

-- one command more went by
one_gone : (all gone : List Step) (command : Step) (left : List Step) → all ≡ reverse gone ++ command ∷ left
    → all ≡ reverse (command ∷ gone) ++ left
one_gone all gone command left is =
    is
    ∙ sym (append_assoc (reverse gone) (command ∷ []) left)
    ∙ sym (ap (λ front. front ++ left) (reverse-append (command ∷ []) gone))

pub gone_begins : (plan : Content) (a : Actor) → HasGone plan (alone [] []) a (commands_of plan a)
gone_begins plan a = record { gone = []; stop = None; split = refl; went = begins; stops = tt }

pub gone_each : (plan : Content) (items : List Item) (stops other : List Stopped) (a : Actor) (left : List Step)
    → stopped_at a other ≡ stopped_at a stops → HasGone plan (alone items stops) a left → HasGone plan (alone items other) a left
gone_each plan items stops other a left is h =
    record { gone = h.gone; stop = h.stop; split = h.split; went = h.went; stops = subst (IsStopOf h.stop) (sym is) h.stops }

-- ---- what a restart kept

module _ (cluster : Cluster) (a : Actor) where
  messages_kept : (s : Situation) (events : List Event) (gone : List Step) → IsStopOf None events → Went a s.own gone None
      → Went a (with_kept cluster s a events).own gone None
  messages_kept s [] gone are went = went
  messages_kept s (event ∷ events) gone are went =
      messages_kept (entered cluster s a event true) events gone are.1
      (kept_message (made cluster s a event true) s.own gone (same_itself a, are.0, refl) went)

  -- the steps that were kept are entered first
  kept_went : (s : Situation) (events : List Event) (gone : List Step) (stop : Option Step) → IsStopOf stop events → Went a s.own gone stop
      → (later : Option Step) × Went a (with_kept cluster s a events).own gone later
  kept_went s events gone None are went = (None, messages_kept s events gone are went)
  kept_went s [] gone (Some command) are went = (Some command, went)
  kept_went s (event ∷ []) gone (Some command) is went =
      (None, kept (made cluster s a event true) command s.own gone (same_itself a, is, refl) went)
  kept_went s (event ∷ other ∷ events) gone (Some command) are went = absurd are

  others_kept : (b : Actor) (s : Situation) (events : List Event) (gone : List Step) (stop : Option Step) → same_actor a b ≡ false
      → Went b s.own gone stop → Went b (with_kept cluster s a events).own gone stop
  others_kept b s [] gone stop apart went = went
  others_kept b s (event ∷ events) gone stop apart went =
      others_kept b (entered cluster s a event true) events gone stop apart (aside (entry_of cluster s a event true) s.own gone stop apart went)

module _ (plan : Content) (s : Situation) (a : Actor) where
  abbrev cluster : Cluster
  cluster = cluster_of plan

  -- ---- the turn of a command, or of a message

  pub command_went : (event : Event) (fails : Bool) (command : Step) (left : List Step) → is_event_of command event ≡ true
      → is_restart command ≡ false → (fails ≡ true → is_down a s.own ≡ false) → HasGone plan s a (command ∷ left) → HasGone plan (tried_if fails cluster s a event) a left
  command_went event true command left is other up h =
      record {
        gone = command ∷ h.gone;
        stop = Some command;
        split = one_gone (commands_of plan a) h.gone command left h.split;
        went = stopped a command s.own h.gone h.stop (same_itself a) other (up refl) h.went;
        stops = subst (IsStopOf (Some command)) (sym (stopped_own a (event ∷ []) s.stopped)) is;
      }
  command_went event false command left is other up h =
      record {
        gone = command ∷ h.gone;
        stop = h.stop;
        split = one_gone (commands_of plan a) h.gone command left h.split;
        went = took (made cluster s a event false) command s.own h.gone h.stop (same_itself a, is, refl) other h.went;
        stops = h.stops;
      }

  -- steps of messages, which a fault stopped
  pub messages_stopped : (events : List Event) (left : List Step) → AllByRecursion (λ (event : Event). is_message event ≡ true) events
      → is_down a s.own ≡ false → HasGone plan s a left → HasGone plan (stopped_by a events s) a left
  messages_stopped events left are up h =
      record {
        gone = h.gone;
        stop = None;
        split = h.split;
        went = went_down a s.own h.gone h.stop (same_itself a) up h.went;
        stops = subst (IsStopOf None) (sym (stopped_own a events s.stopped)) are;
      }

  pub message_went : (event : Event) (fails : Bool) (left : List Step) → is_message event ≡ true → (fails ≡ true → is_down a s.own ≡ false) → HasGone plan s a left
      → HasGone plan (tried_if fails cluster s a event) a left
  message_went event true left is up h = messages_stopped (event ∷ []) left (is, tt) (up refl) h
  message_went event false left is up h =
      record {
        gone = h.gone;
        stop = h.stop;
        split = h.split;
        went = delivered (made cluster s a event false) s.own h.gone h.stop (same_itself a, is, refl) h.went;
        stops = h.stops;
      }

  -- of another actor
  pub others_went : (b : Actor) (event : Event) (fails : Bool) (left : List Step) → same_actor a b ≡ false → HasGone plan s b left
      → HasGone plan (tried_if fails cluster s a event) b left
  others_went b event true left apart h =
      record {
        gone = h.gone;
        stop = h.stop;
        split = h.split;
        went = aside (Down a) s.own h.gone h.stop apart h.went;
        stops = subst (IsStopOf h.stop) (sym (stopped_other a b (event ∷ []) s.stopped apart)) h.stops;
      }
  others_went b event false left apart h =
      record {
        gone = h.gone;
        stop = h.stop;
        split = h.split;
        went = aside (entry_of cluster s a event false) s.own h.gone h.stop apart h.went;
        stops = h.stops;
      }

  -- ---- restarts whose disk fails

  pub stayed_down : (command : Step) (left : List Step) → is_restart command ≡ true → HasGone plan s a (command ∷ left)
      → HasGone plan (with_item (Down a) s) a left
  stayed_down command left is h =
      record {
        gone = command ∷ h.gone;
        stop = h.stop;
        split = one_gone (commands_of plan a) h.gone command left h.split;
        went = stayed a command s.own h.gone h.stop (same_itself a) is h.went;
        stops = h.stops;
      }

  pub others_stayed : (b : Actor) (left : List Step) → same_actor a b ≡ false → HasGone plan s b left → HasGone plan (with_item (Down a) s) b left
  others_stayed b left apart h =
      record { gone = h.gone; stop = h.stop; split = h.split; went = aside (Down a) s.own h.gone h.stop apart h.went; stops = h.stops }

  -- ---- other restarts

  comes_up : (command : Step) (count : ℕ) → is_restart command ≡ true → is_event_of command (RestartEvent count) ≡ true
  comes_up (Begin txn) count is = absurd (true≢false (sym is))
  comes_up (Deliver number) count is = absurd (true≢false (sym is))
  comes_up (Drop number) count is = absurd (true≢false (sym is))
  comes_up (Recover txn node) count is = absurd (true≢false (sym is))
  comes_up (Slow txn) count is = absurd (true≢false (sym is))
  comes_up (Restart actor choice) count is = refl
  comes_up (Fail actor calls) count is = absurd (true≢false (sym is))
  comes_up Drain count is = absurd (true≢false (sym is))

  came_back : (command : Step) (left : List Step) → is_restart command ≡ true → (h : HasGone plan s a (command ∷ left)) (events : List Event) (stop : Option Step)
      → Went a (with_kept cluster s a events).own h.gone stop → HasGone plan (reopened cluster s a events) a left
  came_back command left is h events stop went =
      let between : Situation = with_kept cluster s a events in
      record {
        gone = command ∷ h.gone;
        stop = None;
        split = one_gone (commands_of plan a) h.gone command left h.split;
        went = came_up (made cluster between a (RestartEvent (length events)) false) command between.own h.gone stop (same_itself a, comes_up command (length events) is, refl) is went;
        stops = subst (IsStopOf None) (sym (without_own a s.stopped)) tt;
      }

  pub reopened_went : (keeps : Bool) (command : Step) (left : List Step) → is_restart command ≡ true → HasGone plan s a (command ∷ left)
      → HasGone plan (reopened cluster s a (kept_if keeps a s)) a left
  reopened_went true command left is h =
      let events : List Event = stopped_at a s.stopped in
      let went = kept_went cluster a s events h.gone h.stop h.stops h.went in
      came_back command left is h events went.0 went.1
  reopened_went false command left is h = came_back command left is h [] h.stop h.went

  pub others_reopened : (b : Actor) (events : List Event) (left : List Step) → same_actor a b ≡ false → HasGone plan s b left
      → HasGone plan (reopened cluster s a events) b left
  others_reopened b events left apart h =
      let between : Situation = with_kept cluster s a events in
      record {
        gone = h.gone;
        stop = h.stop;
        split = h.split;
        went = aside (entry_of cluster between a (RestartEvent (length events)) false) between.own h.gone h.stop apart (others_kept cluster a b s events h.gone h.stop apart h.went);
        stops = subst (IsStopOf h.stop) (sym (without_other b a apart s.stopped)) h.stops;
      }

  -- ---- a command that is passed over

  pub passed_over : (command : Step) (left : List Step) → s.earlier ≡ [] → IsPassed a (whole s) command → HasGone plan s a (command ∷ left)
      → HasGone plan s a left
  passed_over command left first is h =
      record {
        gone = command ∷ h.gone;
        stop = h.stop;
        split = one_gone (commands_of plan a) h.gone command left h.split;
        went = passed command s.own h.gone h.stop (subst (λ items. IsPassed a items command) (whole_alone s first) is) h.went;
        stops = h.stops;
      }
