-- Over strict disks a schedule without a recover and a restart is served quietly, so all that was begun is answered.
use Rattle.std.proofs.Common.{◌≡◌, ℕ, Bool, true, false, not, cond, List, [], ◌∷◌, ◌++◌, reverse, Option, None, Some, Contains, refl, sym, ◌∙◌, ap, subst}
use Rattle.std.specs.Prelude.{IsTrue, count_by}
use Rattle.std.specs.List.{filter, list_all, AllByRecursion}
use Rattle.std.proofs.lemmas.Bool.{true≢false, and_parts, and_from, not-true}
use Rattle.std.proofs.lemmas.List.{reverse-append, reverse-reverse}
use Rattle.std.proofs.lemmas.Option.{none-some}
use Rattle.acc_stamp.specs.declared.actors.Actor.{Actor}
use Rattle.acc_message.specs.declared.entry.Event.{Event}
use Rattle.acc_message.specs.declared.entry.Event.TheVariants.{Begin as BeginEvent, Recover as RecoverEvent, Slow as SlowEvent, Message as MessageEvent, Restart as RestartEvent}
use Rattle.acc_message.specs.declared.item.Item.{Item}
use Rattle.acc_message.specs.declared.item.Item.TheVariants.{Step as StepItem, Skipped, Down}
use Rattle.acc_message.specs.Items.{notes_of}
use Rattle.acc_topology.specs.Layout.{Layout}
use Rattle.acc_ports.specs.declared.disk.Disk.{Ghosts}
use Rattle.acc_safety.specs.Calm.{is_calm_event}
use Rattle.acc_safety.proofs.Bridge.{same_itself}
use Rattle.acc_run_laws.specs.AskLaws.{is_no_down}
use Rattle.acc_payloads.specs.Items.{is_item_of}
use Rattle.acc_schedule.specs.Actors.{actors}
use Rattle.acc_schedule.specs.Content.{Content}
use Rattle.acc_schedule.specs.Document.{Means}
use Rattle.acc_schedule.specs.declared.plan.Step.{Step}
use Rattle.acc_schedule.specs.declared.plan.Step.TheVariants.{Begin, Deliver, Drop, Recover, Slow, Restart, Fail, Drain}
use Rattle.acc_schedule.proofs.AnswerFacts.{same_plan}
use Rattle.acc_schedule_runs.specs.Schedules.{cluster_of}
use Rattle.acc_schedule_runs.specs.Laws.{NobodyIsDown}
use Rattle.acc_report_line.specs.declared.line.Line.{Line}
use Rattle.acc_report_line.specs.declared.line.Line.TheVariants.{End}
use Rattle.acc_report_line.specs.Texts.{lines_text}
use Rattle.acc_report.specs.Report.{is_begin, is_reply, last_line, report_text}
use Rattle.acc_free_laws.specs.Commands.{is_command_of, is_restart, is_event_of, is_message}
use Rattle.acc_free_laws.specs.Turns.{Went, begins, aside, delivered, took, came_up, stopped, stayed, went_down, kept, kept_message, passed}
use Rattle.acc_free_laws.specs.FreeRun.{is_plain, AreKnown}
use Rattle.acc_free_laws.specs.Served.{HasServed, IsServed, is_quiet, IsQuiet, is_recover, HasNoRecover}
use Rattle.acc_command_alone.specs.Command.{IsReport}
use Rattle.acc_command_alone.proofs.CalmReports.{ends_with_last}
use Rattle.acc_command.specs.Free.{HasNoRestart, OverThreads}

-- ---- lists

module _ {X : Type 0} (P : X → Type 0) where
  pub all_front : (front back : List X) → AllByRecursion P (front ++ back) → AllByRecursion P front
  all_front [] back all = tt
  all_front (x ∷ front) back all = (all.0, all_front front back all.1)

  all_joined : (front back : List X) → AllByRecursion P front → AllByRecursion P back → AllByRecursion P (front ++ back)
  all_joined [] back some others = others
  all_joined (x ∷ front) back some others = (some.0, all_joined front back some.1 others)

  pub all_turned : (xs : List X) → AllByRecursion P xs → AllByRecursion P (reverse xs)
  all_turned [] all = tt
  all_turned (x ∷ xs) all = subst (AllByRecursion P) (sym (reverse-append (x ∷ []) xs)) (all_joined (reverse xs) (x ∷ []) (all_turned xs all.1) (all.0, tt))

  pub all_filtered : (p : X → Bool) (xs : List X) → AllByRecursion P xs → AllByRecursion P (filter p xs)
  all_filtered p [] all = tt
  all_filtered p (x ∷ xs) all = by (p x) (all_filtered p xs all.1)
    where
      by : (own : Bool) → AllByRecursion P (filter p xs) → AllByRecursion P (cond own (x ∷ filter p xs) (filter p xs))
      by true rest = (all.0, rest)
      by false rest = rest

-- ---- commands

-- no recover and no restart
abbrev IsForward : Step → Type 0
IsForward step = (is_recover step ≡ false) × (is_restart step ≡ false)

all_forward : (steps : List Step) → HasNoRecover steps → HasNoRestart steps → AllByRecursion IsForward steps
all_forward [] recovers restarts = tt
all_forward (step ∷ steps) recovers restarts =
    let one = and_parts (not (is_recover step)) (list_all (λ s. not (is_recover s)) steps) recovers in
    let other = and_parts (not (is_restart step)) (list_all (λ s. not (is_restart s)) steps) restarts in
    ((not-true (is_recover step) one.0, not-true (is_restart step) other.0), all_forward steps one.1 other.1)

pub nothing : {A : Type 0} → false ≡ true → A
nothing is = absurd (true≢false (sym is))

forward_is_calm : (command : Step) (event : Event) → is_event_of command event ≡ true → IsForward command → is_calm_event event ≡ true
forward_is_calm command (BeginEvent number) is forward = refl
forward_is_calm command (MessageEvent number) is forward = refl
forward_is_calm (Recover txn node) (RecoverEvent number) is forward = absurd (true≢false forward.0)
forward_is_calm (Begin txn) (RecoverEvent number) is forward = nothing is
forward_is_calm (Deliver message) (RecoverEvent number) is forward = nothing is
forward_is_calm (Drop message) (RecoverEvent number) is forward = nothing is
forward_is_calm (Slow txn) (RecoverEvent number) is forward = nothing is
forward_is_calm (Restart actor choice) (RecoverEvent number) is forward = nothing is
forward_is_calm (Fail actor calls) (RecoverEvent number) is forward = nothing is
forward_is_calm Drain (RecoverEvent number) is forward = nothing is
forward_is_calm (Begin txn) (SlowEvent number) is forward = nothing is
forward_is_calm (Deliver message) (SlowEvent number) is forward = nothing is
forward_is_calm (Drop message) (SlowEvent number) is forward = nothing is
forward_is_calm (Recover txn node) (SlowEvent number) is forward = nothing is
forward_is_calm (Slow txn) (SlowEvent number) is forward = nothing is
forward_is_calm (Restart actor choice) (SlowEvent number) is forward = nothing is
forward_is_calm (Fail actor calls) (SlowEvent number) is forward = nothing is
forward_is_calm Drain (SlowEvent number) is forward = nothing is
forward_is_calm (Restart actor choice) (RestartEvent count) is forward = absurd (true≢false forward.1)
forward_is_calm (Begin txn) (RestartEvent count) is forward = nothing is
forward_is_calm (Deliver message) (RestartEvent count) is forward = nothing is
forward_is_calm (Drop message) (RestartEvent count) is forward = nothing is
forward_is_calm (Recover txn node) (RestartEvent count) is forward = nothing is
forward_is_calm (Slow txn) (RestartEvent count) is forward = nothing is
forward_is_calm (Fail actor calls) (RestartEvent count) is forward = nothing is
forward_is_calm Drain (RestartEvent count) is forward = nothing is

message_is_calm : (event : Event) → is_message event ≡ true → is_calm_event event ≡ true
message_is_calm (BeginEvent number) is = refl
message_is_calm (RecoverEvent number) is = nothing is
message_is_calm (SlowEvent number) is = nothing is
message_is_calm (MessageEvent number) is = refl
message_is_calm (RestartEvent count) is = nothing is

-- ---- the items of an actor

pub no_down : {A : Type 0} (actor : Actor) (items : List Item) → NobodyIsDown (Down actor ∷ items) → A
no_down actor items up = absurd (true≢false (sym up))

module _ (a : Actor) where
  pub no_stop : (items : List Item) (gone : List Step) (stop : Option Step) → Went a items gone stop → NobodyIsDown items → stop ≡ None
  no_stop _ _ _ begins up = refl
  no_stop _ _ _ (aside item items gone stop apart went) up = no_stop items gone stop went (and_parts (is_no_down item) (list_all is_no_down items) up).1
  no_stop _ _ _ (delivered e items gone stop is went) up = no_stop items gone stop went up
  no_stop _ _ _ (took e command items gone stop is other went) up = no_stop items gone stop went up
  no_stop _ _ _ (came_up e command items gone stop is other went) up = refl
  no_stop _ _ _ (stopped actor command items gone stop own other before went) up = no_down actor items up
  no_stop _ _ _ (stayed actor command items gone stop own other went) up = no_down actor items up
  no_stop _ _ _ (went_down actor items gone stop own before went) up = no_down actor items up
  no_stop _ _ _ (kept e command items gone is went) up = refl
  no_stop _ _ _ (kept_message e items gone is went) up = refl
  no_stop _ _ _ (passed command items gone stop is went) up = no_stop items gone stop went up

  -- each of its items is quiet
  abbrev IsQuietOwn : Item → Type 0
  IsQuietOwn item = is_item_of a item ≡ true → is_quiet item ≡ true

  own_quiet : (items : List Item) (gone : List Step) (stop : Option Step) → Went a items gone stop → NobodyIsDown items → AllByRecursion IsForward gone
      → AllByRecursion IsQuietOwn items
  own_quiet _ _ _ begins up forward = tt
  own_quiet _ _ _ (aside item items gone stop apart went) up forward = (
    λ own. absurd (true≢false (sym own ∙ apart)),
    own_quiet items gone stop went (and_parts (is_no_down item) (list_all is_no_down items) up).1 forward,
  )
  own_quiet _ _ _ (delivered e items gone stop is went) up forward = ((λ own. message_is_calm e.event is.1), own_quiet items gone stop went up forward)
  own_quiet _ _ _ (took e command items gone stop is other went) up forward =
      ((λ own. forward_is_calm command e.event is.1 forward.0), own_quiet items gone stop went up forward.1)
  own_quiet _ _ _ (came_up e command items gone stop is other went) up forward =
      ((λ own. forward_is_calm command e.event is.1 forward.0), own_quiet items gone stop went up forward.1)
  own_quiet _ _ _ (stopped actor command items gone stop own other before went) up forward = no_down actor items up
  own_quiet _ _ _ (stayed actor command items gone stop own other went) up forward = no_down actor items up
  own_quiet _ _ _ (went_down actor items gone stop own before went) up forward = no_down actor items up
  own_quiet _ _ _ (kept e command items gone is went) up forward = absurd (none-some command (sym (no_stop items gone (Some command) went up)))
  own_quiet _ _ _ (kept_message e items gone is went) up forward = ((λ own. message_is_calm e.event is.1), own_quiet items gone None went up forward)
  own_quiet _ _ _ (passed command items gone stop is went) up forward = own_quiet items gone stop went up forward.1

-- ---- all items

all_quiet : (layout : Layout) (items : List Item) → AreKnown layout items → IsTrue (list_all is_plain items)
    → ((a : Actor) → Contains (actors layout) a → AllByRecursion (IsQuietOwn a) items) → NobodyIsDown items → IsQuiet items
all_quiet layout [] known plain each up = refl
all_quiet layout (StepItem e ∷ items) known plain each up =
    and_from (is_calm_event e.event) _ ((each e.actor known.0).0 (same_itself e.actor))
    (all_quiet layout items known.1 (and_parts (is_plain (StepItem e)) (list_all is_plain items) plain).1 (λ a there. (each a there).1) up)
all_quiet layout (Skipped step cause ∷ items) known plain each up = absurd (true≢false (sym plain))
all_quiet layout (Down actor ∷ items) known plain each up = no_down actor items up

pub quiet_served : (plan : Content) (items : List Item) → IsServed plan items → NobodyIsDown items → HasNoRecover plan.steps → HasNoRestart plan.steps
    → IsQuiet items
quiet_served plan items h up recovers restarts = all_quiet plan.topology items h.free.known h.free.plain each up
  where
    each : (a : Actor) → Contains (actors plan.topology) a → AllByRecursion (IsQuietOwn a) items
    each a there =
        let one : HasServed plan items a = h.commands a there in
        let all : AllByRecursion IsForward (reverse one.gone) =
        all_front IsForward (reverse one.gone) one.left
        (subst (AllByRecursion IsForward) one.split
        (all_filtered IsForward (is_command_of (cluster_of plan) a) plan.steps (all_forward plan.steps recovers restarts))) in
        own_quiet a items one.gone one.stop one.went up (subst (AllByRecursion IsForward) (reverse-reverse one.gone) (all_turned IsForward (reverse one.gone) all))

-- ---- reports

module _ {D : Type 0} (port : Ghosts D) (before after : List (ℕ × D)) (bytes text : List ℕ) (plan : Content) where
  pub free_none_open : ((items : List Item) → IsServed plan items → NobodyIsDown items
      → last_line (notes_of items) ≡ End (count_by is_begin (notes_of items)) (count_by is_reply (notes_of items)) 0) → Means bytes plan
      → IsReport (OverThreads port true before after) bytes text
      → (begun : ℕ) × (replied : ℕ) × (front : List ℕ) × (text ≡ front ++ lines_text (End begun replied 0 ∷ []))
  free_none_open calm says report =
      let same : report.plan ≡ plan = same_plan bytes report.plan plan report.says says in
      let items : List Item = report.reports.items in
      let served : IsServed plan items = subst (λ p. IsServed p items) same report.reports.also.served in
      let last = ends_with_last report.plan.print report.plan.names items in (
        count_by is_begin (notes_of items),
        count_by is_reply (notes_of items),
        last.0,
        report.reports.prints ∙ last.1 ∙ ap (λ (line : Line). last.0 ++ lines_text (line ∷ [])) (calm items served (report.reports.also.stayed refl)),
      )

  -- what each report of served items of a plan ends with, that of its document ends with
  pub free_ends_alike : (end : List ℕ)
      → ((items : List Item) → IsServed plan items → NobodyIsDown items → (front : List ℕ) × (report_text plan.print plan.names [] items ≡ front ++ end))
      → Means bytes plan → IsReport (OverThreads port true before after) bytes text → (front : List ℕ) × (text ≡ front ++ end)
  free_ends_alike end each says report =
      let same : report.plan ≡ plan = same_plan bytes report.plan plan report.says says in
      let items : List Item = report.reports.items in
      let served : IsServed plan items = subst (λ p. IsServed p items) same report.reports.also.served in
      let found = each items served (report.reports.also.stayed refl) in
      (found.0, report.reports.prints ∙ ap (λ (p : Content). report_text p.print p.names [] items) same ∙ found.1)
