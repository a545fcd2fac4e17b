-- Where nobody goes down, each begin that went by has begun its transaction, and where no step is a recover, all went by.
use Rattle.std.proofs.Common.{◌≡◌, inl, inr, ℕ, Bool, true, false, not, cond, List, [], ◌∷◌, ◌++◌, length, reverse, Option, unwrap_or, Contains, refl, sym, ◌∙◌, ap, subst}
use Rattle.std.specs.List.{filter, list_all, AllByRecursion}
use Rattle.std.proofs.lemmas.Bool.{true≢false, and_parts, and_from, or_left, or_right, eqb-true, eq-eqb}
use Rattle.std.proofs.lemmas.List.{reverse-append}
use Rattle.acc_stamp.specs.declared.actors.Actor.{Actor}
use Rattle.acc_stamp.specs.Actor.{actor_of}
use Rattle.acc_message.specs.declared.entry.Entry.{Entry}
use Rattle.acc_message.specs.declared.entry.Event.{Event}
use Rattle.acc_message.specs.declared.entry.Event.TheVariants.{Begin as BeginEvent, Recover as RecoverEvent, Slow as SlowEvent, Message as MessageEvent, Restart as RestartEvent}
use Rattle.acc_message.specs.declared.item.Item.{Item}
use Rattle.acc_message.specs.declared.item.Item.TheVariants.{Step as StepItem, Down}
use Rattle.acc_message.specs.Items.{event_begins, begins_txn, is_begun}
use Rattle.acc_message.specs.Run.{Cluster, IsHomeOf}
use Rattle.acc_safety.specs.Valid.{IsValidCluster}
use Rattle.acc_safety.proofs.Bridge.{same_itself}
use Rattle.acc_run_laws.specs.Asks.{home_of_txn}
use Rattle.acc_run_laws.specs.AskLaws.{HasTxn, is_no_down}
use Rattle.acc_schedule.specs.Actors.{actors}
use Rattle.acc_schedule.specs.Content.{Content}
use Rattle.acc_schedule.specs.Plan.{IsStep, IsPlan}
use Rattle.acc_schedule.specs.declared.plan.Step.{Step}
use Rattle.acc_schedule.specs.declared.plan.Step.TheVariants.{Begin, Deliver, Drop, Recover, Slow, Restart, Fail, Drain}
use Rattle.acc_schedule_runs.specs.Schedules.{cluster_of}
use Rattle.acc_schedule_runs.specs.Laws.{NobodyIsDown}
use Rattle.acc_free_laws.specs.Commands.{is_command_of, is_event_of, IsPassed, IsHeld}
use Rattle.acc_free_laws.specs.Turns.{Went, begins, aside, delivered, took, came_up, stopped, stayed, went_down, kept, kept_message, passed}
use Rattle.acc_free_laws.specs.Served.{HasServed, IsServed, is_recover, HasNoRecover, IsBegunIn}
use Rattle.acc_free_laws.proofs.Commands.{has_txn}
use Rattle.acc_free_laws.proofs.Quiet.{nobody_down}

-- ---- what went by

begun_more : (item : Item) (items : List Item) (command : Step) → IsBegunIn items command → IsBegunIn (item ∷ items) command
begun_more item items (Begin txn) begun = or_right (begins_txn txn item) (is_begun items txn) begun
begun_more item items (Deliver number) begun = tt
begun_more item items (Drop number) begun = tt
begun_more item items (Recover txn node) begun = tt
begun_more item items (Slow txn) begun = tt
begun_more item items (Restart actor choice) begun = tt
begun_more item items (Fail actor calls) begun = tt
begun_more item items Drain begun = tt

all_more : (item : Item) (items : List Item) (gone : List Step) → AllByRecursion (IsBegunIn items) gone
    → AllByRecursion (IsBegunIn (item ∷ items)) gone
all_more item items [] all = tt
all_more item items (command ∷ gone) all = (begun_more item items command all.0, all_more item items gone all.1)

event_of : (txn : ℕ) (event : Event) → is_event_of (Begin txn) event ≡ true → event_begins txn event ≡ true
event_of txn (BeginEvent number) is = eq-eqb number txn (sym (eqb-true txn number is))
event_of txn (RecoverEvent number) is = absurd (true≢false (sym is))
event_of txn (SlowEvent number) is = absurd (true≢false (sym is))
event_of txn (MessageEvent number) is = absurd (true≢false (sym is))
event_of txn (RestartEvent count) is = absurd (true≢false (sym is))

taken_begins : (e : Entry) (items : List Item) (command : Step) → is_event_of command e.event ≡ true → IsBegunIn (StepItem e ∷ items) command
taken_begins e items (Begin txn) is = or_left (event_begins txn e.event) (is_begun items txn) (event_of txn e.event is)
taken_begins e items (Deliver number) is = tt
taken_begins e items (Drop number) is = tt
taken_begins e items (Recover txn node) is = tt
taken_begins e items (Slow txn) is = tt
taken_begins e items (Restart actor choice) is = tt
taken_begins e items (Fail actor calls) is = tt
taken_begins e items Drain is = tt

passed_begins : (a : Actor) (items : List Item) (command : Step) → NobodyIsDown items → IsPassed a items command → IsBegunIn items command
passed_begins a items command up (inl down) = absurd (true≢false (sym down.0 ∙ nobody_down items a up))
passed_begins a items (Begin txn) up (inr again) = again
passed_begins a items (Deliver number) up (inr again) = tt
passed_begins a items (Drop number) up (inr again) = tt
passed_begins a items (Recover txn node) up (inr again) = tt
passed_begins a items (Slow txn) up (inr again) = tt
passed_begins a items (Restart actor choice) up (inr again) = tt
passed_begins a items (Fail actor calls) up (inr again) = tt
passed_begins a items Drain up (inr again) = tt

no_down : {A : Type 0} (actor : Actor) (items : List Item) → NobodyIsDown (Down actor ∷ items) → A
no_down actor items up = absurd (true≢false (sym up))

all_went : (a : Actor) (items : List Item) (gone : List Step) (stop : Option Step) → Went a items gone stop → NobodyIsDown items
    → AllByRecursion (IsBegunIn items) gone
all_went a _ _ _ begins up = tt
all_went a _ _ _ (aside item items gone stop other went) up =
    all_more item items gone (all_went a items gone stop went (and_parts (is_no_down item) (list_all is_no_down items) up).1)
all_went a _ _ _ (delivered e items gone stop is went) up = all_more (StepItem e) items gone (all_went a items gone stop went up)
all_went a _ _ _ (took e command items gone stop is other went) up =
    (taken_begins e items command is.1, all_more (StepItem e) items gone (all_went a items gone stop went up))
all_went a _ _ _ (came_up e command items gone stop is other went) up =
    (taken_begins e items command is.1, all_more (StepItem e) items gone (all_went a items gone stop went up))
all_went a _ _ _ (stopped actor command items gone stop is other before went) up = no_down actor items up
all_went a _ _ _ (stayed actor command items gone stop is other went) up = no_down actor items up
all_went a _ _ _ (went_down actor items gone stop is before went) up = no_down actor items up
all_went a _ _ _ (kept e command items gone is went) up = all_more (StepItem e) items gone (all_went a items gone _ went up)
all_went a _ _ _ (kept_message e items gone is went) up = all_more (StepItem e) items gone (all_went a items gone _ went up)
all_went a _ _ _ (passed command items gone stop is went) up = (passed_begins a items command up is, all_went a items gone stop went up)

-- ---- lists

module _ (P : Step → Type 0) where
  all_append : (front back : List Step) → AllByRecursion P front → AllByRecursion P back → AllByRecursion P (front ++ back)
  all_append [] back some others = others
  all_append (step ∷ front) back some others = (some.0, all_append front back some.1 others)

  all_reverse : (steps : List Step) → AllByRecursion P steps → AllByRecursion P (reverse steps)
  all_reverse [] all = tt
  all_reverse (step ∷ steps) all =
      subst (AllByRecursion P) (sym (reverse-append (step ∷ []) steps)) (all_append (reverse steps) (step ∷ []) (all_reverse steps all.1) (all.0, tt))

  all_if : (p : Step → Bool) (steps : List Step) → AllByRecursion P (filter p steps) → AllByRecursion (λ step. p step ≡ true → P step) steps
  all_if p [] all = tt
  all_if p (step ∷ steps) all = by (p step) refl all (all_if p steps)
    where
      by : (own : Bool) → p step ≡ own → AllByRecursion P (cond own (step ∷ filter p steps) (filter p steps))
          → (AllByRecursion P (filter p steps) → AllByRecursion (λ step. p step ≡ true → P step) steps)
          → (p step ≡ true → P step) × AllByRecursion (λ step. p step ≡ true → P step) steps
      by true is some rest = ((λ own. some.0), rest some.1)
      by false is some rest = ((λ own. absurd (true≢false (sym own ∙ is))), rest some)

-- ---- the whole schedule

-- the law of homes
abbrev pub HomesAreActors : Type 0
HomesAreActors =
    (cluster : Cluster) (txn : ℕ) (a : Actor) → IsValidCluster cluster → IsHomeOf cluster txn a → Contains (actors cluster.layout) a

module _ (plan : Content) (items : List Item) (valid : IsPlan plan) (holds : IsValidCluster (cluster_of plan)) (homes : HomesAreActors)
    (h : IsServed plan items) (up : NobodyIsDown items) (none : HasNoRecover plan.steps) where
  abbrev cluster : Cluster
  cluster = cluster_of plan

  no_recover : (a : Actor) (steps : List Step) → HasNoRecover steps → HasNoRecover (filter (is_command_of cluster a) steps)
  no_recover a [] none = refl
  no_recover a (step ∷ steps) none =
      by (is_command_of cluster a step) parts.0 (no_recover a steps parts.1)
    where
      parts : (not (is_recover step) ≡ true) × (list_all (λ s. not (is_recover s)) steps ≡ true)
      parts = and_parts (not (is_recover step)) (list_all (λ s. not (is_recover s)) steps) none

      by : (own : Bool) → not (is_recover step) ≡ true → HasNoRecover (filter (is_command_of cluster a) steps)
          → HasNoRecover (cond own (step ∷ filter (is_command_of cluster a) steps) (filter (is_command_of cluster a) steps))
      by true is rest = and_from (not (is_recover step)) _ is rest
      by false is rest = rest

  nothing_left : (front left : List Step) → HasNoRecover (front ++ left) → IsHeld items left → left ≡ []
  nothing_left front [] none held = refl
  nothing_left [] (Recover txn node ∷ left) none held = absurd (true≢false (sym none))
  nothing_left (step ∷ front) left none held =
      nothing_left front left (and_parts (not (is_recover step)) (list_all (λ s. not (is_recover s)) (front ++ left)) none).1 held
  nothing_left [] (Begin txn ∷ left) none held = absurd held
  nothing_left [] (Deliver number ∷ left) none held = absurd held
  nothing_left [] (Drop number ∷ left) none held = absurd held
  nothing_left [] (Slow txn ∷ left) none held = absurd held
  nothing_left [] (Restart actor choice ∷ left) none held = absurd held
  nothing_left [] (Fail actor calls ∷ left) none held = absurd held
  nothing_left [] (Drain ∷ left) none held = absurd held

  own_begun : (a : Actor) → Contains (actors plan.topology) a
      → AllByRecursion (λ step. is_command_of cluster a step ≡ true → IsBegunIn items step) plan.steps
  own_begun a there =
      all_if (IsBegunIn items) (is_command_of cluster a) plan.steps
      (subst (AllByRecursion (IsBegunIn items)) (sym one.split)
      (all_append (IsBegunIn items) (reverse one.gone) one.left
      (all_reverse (IsBegunIn items) one.gone (all_went a items one.gone one.stop one.went up))
      (subst (AllByRecursion (IsBegunIn items)) (sym all_gone) tt)))
    where
      one : HasServed plan items a
      one = h.commands a there

      all_gone : one.left ≡ []
      all_gone = nothing_left (reverse one.gone) one.left (subst HasNoRecover one.split (no_recover a plan.steps none)) one.held

  each_begun : (steps : List Step) → AllByRecursion (IsStep (length plan.names) plan.topology) steps
      → ((a : Actor) → Contains (actors plan.topology) a
      → AllByRecursion (λ step. is_command_of cluster a step ≡ true → IsBegunIn items step) steps)
      → AllByRecursion (IsBegunIn items) steps
  each_begun [] known own = tt
  each_begun (step ∷ steps) known own = (by step known.0 (λ a there. (own a there).0), each_begun steps known.1 (λ a there. (own a there).1))
    where
      by : (step : Step) → IsStep (length plan.names) plan.topology step
          → ((a : Actor) → Contains (actors plan.topology) a → is_command_of cluster a step ≡ true → IsBegunIn items step) → IsBegunIn items step
      by (Begin txn) is own =
          let has : HasTxn cluster txn = has_txn plan valid txn is in
          own (home_of_txn cluster txn)
          (homes cluster txn (home_of_txn cluster txn) holds
          (has.home, has.home_is, ap (λ o. actor_of (unwrap_or o 0) 0) has.home_is))
          (same_itself (home_of_txn cluster txn))
      by (Deliver number) is own = tt
      by (Drop number) is own = tt
      by (Recover txn node) is own = tt
      by (Slow txn) is own = tt
      by (Restart actor choice) is own = tt
      by (Fail actor calls) is own = tt
      by Drain is own = tt

  pub all_begun : AllByRecursion (IsBegunIn items) plan.steps
  all_begun = each_begun plan.steps valid.steps_known own_begun
