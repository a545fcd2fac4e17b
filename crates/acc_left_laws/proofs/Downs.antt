-- Who is down after the steps of a plan, after more steps, or in a free run, is an actor of the plan.
use Rattle.std.proofs.Common.{◌≡◌, ℕ, ◌+◌, Bool, true, false, not, ◌&&◌, ◌||◌, IsTrue, List, [], ◌∷◌, ◌++◌, length, Option, None, Some, unwrap_or, Contains, refl, sym, ◌∙◌, subst, ⊎_elim}
use Rattle.std.specs.List.{AllByRecursion}
use Rattle.std.proofs.lemmas.Bool.{and_parts, or_cases, true≢false}
use Rattle.acc_stamp.specs.declared.actors.Actor.{Actor}
use Rattle.acc_stamp.specs.Actor.{actor_of}
use Rattle.acc_topology.specs.Layout.{Layout}
use Rattle.acc_topology.specs.Sets.{is_among}
use Rattle.acc_message.specs.declared.entry.Entry.{Entry}
use Rattle.acc_message.specs.declared.entry.Event.{Event}
use Rattle.acc_message.specs.declared.entry.Event.TheVariants.{Begin as BeginEvent, Recover as RecoverEvent, Slow as SlowEvent, Message as MessageEvent, Restart as RestartEvent}
use Rattle.acc_message.specs.declared.message.Message.{Message}
use Rattle.acc_message.specs.declared.item.Skip.{Skip}
use Rattle.acc_message.specs.declared.item.Item.{Item}
use Rattle.acc_message.specs.declared.item.Item.TheVariants.{Step as StepItem, Skipped, Down}
use Rattle.acc_message.specs.Fields.{to_of}
use Rattle.acc_message.specs.Items.{message_at, same_actor, sent_of}
use Rattle.acc_message.specs.Run.{Cluster, is_down, EachStands, IsRun}
use Rattle.acc_safety.specs.Valid.{IsStanding, IsValidCluster}
use Rattle.acc_safety.proofs.Bridge.{same}
use Rattle.acc_safety.proofs.PlaceOrder.{IsIn-Contains}
use Rattle.acc_run_laws.specs.AskLaws.{HasTxn}
use Rattle.acc_run_laws.specs.Asks.{home_of_txn}
use Rattle.acc_run_laws.proofs.AskFacts.{nothing_is_run}
use Rattle.acc_run_laws.proofs.Layouts.{node_is}
use Rattle.acc_run_laws.proofs.ReceiverFacts.{goes_to_actor}
use Rattle.acc_run_laws.proofs.RunBounds.{get_each}
use Rattle.acc_schedule.specs.Actors.{actors}
use Rattle.acc_schedule.specs.Content.{Content}
use Rattle.acc_schedule.specs.Plan.{IsPlan, IsStep}
use Rattle.acc_schedule.specs.declared.plan.Step.{Step}
use Rattle.acc_schedule.specs.declared.plan.Step.TheVariants.{Begin, Deliver, Drop, Recover, Slow, Restart, Fail, Drain}
use Rattle.acc_schedule_runs.specs.Fronts.{Begins}
use Rattle.acc_schedule_runs.specs.Laws.{IsStepOf}
use Rattle.acc_schedule_runs.specs.Moves.{Answers, begin_skip, deliver_skip, delivers, dropped_unless, entered, entered_all, fails_in, is_journalled, kept_if, message_skip, recover_skip, restarted_if, slowing_skip, stepped_unless, stops, tried, tried_if, with_kept, Drains, IsNext}
use Rattle.acc_schedule_runs.specs.Schedules.{cluster_of, Follows, Obeys}
use Rattle.acc_schedule_runs.specs.Situations.{opened, receiver_in, whole, Situation}
use Rattle.acc_schedule_runs.proofs.Beginnings.{begins_chain, begins_itself}
use Rattle.acc_schedule_runs.proofs.GivesRuns.{sound_earlier, sound_last, sound_opened, sound_run, steps_of_plan, Sound}
use Rattle.acc_pasts.proofs.Situations.{message_whole, whole_alone}
use Rattle.acc_pasts.proofs.Skips.{deliver_goes, sent_goes, waiting_goes}
use Rattle.acc_free_laws.specs.FreeRun.{AreKnown}
use Rattle.acc_left_laws.specs.Joining.{DownsAreKnown}
use Rattle.acc_left_laws.proofs.WholePasts.{next_adds, steps_add, GoesOnFrom}

no_item_down : (a : Actor) → is_down a [] ≡ true → ⊥
no_item_down a down = true≢false (sym down)

module _ (layout : Layout) where
  abbrev IsFine : List Item → Type 0
  IsFine items = (a : Actor) → is_down a items ≡ true → Contains (actors layout) a

  entry_fine : (e : Entry) (items : List Item) → IsFine items → IsFine (StepItem e ∷ items)
  entry_fine e items fine a down = fine a (and_parts (is_down a items) (not (same_actor e.actor a) || e.lost) down).0

  down_fine : (x : Actor) (items : List Item) → Contains (actors layout) x → IsFine items → IsFine (Down x ∷ items)
  down_fine x items known fine a down =
      ⊎_elim (λ here. subst (Contains (actors layout)) (same x a here) known) (fine a) (or_cases (same_actor x a) (is_down a items) down)

  -- ---- free runs

  pub known_down : (items : List Item) → AreKnown layout items → IsFine items
  known_down [] known = λ a down. absurd (no_item_down a down)
  known_down (StepItem e ∷ items) known = entry_fine e items (known_down items known.1)
  known_down (Skipped step cause ∷ items) known = known_down items known.1
  known_down (Down x ∷ items) known = down_fine x items known.0 (known_down items known.1)

-- a front of items that stand
stands_before : (cluster : Cluster) (later own : List Item) → EachStands cluster (later ++ own) → EachStands cluster own
stands_before cluster [] own h = h
stands_before cluster (item ∷ later) own h = stands_before cluster later own h.1

-- ---- schedules

module _ (plan : Content) (answers : Answers) (is : IsPlan plan) (run : List Item) (standing : IsStanding (cluster_of plan) run) where
  abbrev cluster : Cluster
  cluster = cluster_of plan

  abbrev Known : Actor → Type 0
  Known a = Contains (actors plan.topology) a

  abbrev Fine : Situation → Type 0
  Fine s = DownsAreKnown plan (whole s)

  -- the whole past is a front of the run
  abbrev IsPast : Situation → Type 0
  IsPast s = Begins (whole s) run

  earlier_past : (s next : Situation) → GoesOnFrom s next → IsPast next → IsPast s
  earlier_past s next = begins_chain (whole s) (whole next) run

  node_known : (node : ℕ) → IsTrue (is_among plan.topology.nodes node) → Known (actor_of node 0)
  node_known node among = IsIn-Contains (actor_of node 0) (actors plan.topology) (node_is plan.topology node among)

  home_known : (txn : ℕ) → HasTxn cluster txn → Known (home_of_txn cluster txn)
  home_known txn has =
      subst (λ (o : Option ℕ). Known (actor_of (unwrap_or o 0) 0)) (sym has.home_is)
      (node_known has.home (get_each (λ node. IsTrue (is_among plan.topology.nodes node)) plan.homes txn has.home is.homes_known has.home_is))

  past_stands : (s : Situation) → IsPast s → IsStanding cluster (whole s)
  past_stands s past = record {
    valid = standing.valid;
    stands = stands_before cluster past.later (whole s) (subst (EachStands cluster) past.items_are standing.stands);
  }

  message_known : (s : Situation) (n : ℕ) (m : Message) → IsPast s → message_at s.own n ≡ Some m → receiver_in s n ≡ to_of m → Known (receiver_in s n)
  message_known s n m past found to =
      subst Known (sym to) (goes_to_actor cluster (whole s) (length (sent_of s.earlier) + n) m (past_stands s past) (message_whole s n ∙ found))

  -- ---- moves

  entered_fine : (s : Situation) (a : Actor) (event : Event) (lost : Bool) → Fine s → Fine (entered cluster s a event lost)
  entered_fine s a event lost fine b down = fine b (and_parts (is_down b (whole s)) (not (same_actor a b) || lost) down).0

  tried_fine : (s : Situation) (a : Actor) (event : Event) → (is_journalled a event ≡ true → Known a) → Fine s → Fine (tried cluster answers s a event)
  tried_fine s a event known fine = by (is_journalled a event && fails_in answers s) refl
    where
      by : (b : Bool) → (is_journalled a event && fails_in answers s) ≡ b → Fine (tried_if b cluster s a event)
      by true e = down_fine plan.topology a (whole s) (known (and_parts (is_journalled a event) (fails_in answers s) e).0) fine
      by false e = entered_fine s a event false fine

  stepped_fine : (o : Option Skip) (number : ℕ) (s : Situation) (a : Actor) (event : Event) → (o ≡ None → is_journalled a event ≡ true → Known a) → Fine s
      → Fine (stepped_unless o cluster answers number s a event)
  stepped_fine (Some cause) number s a event known fine = fine
  stepped_fine None number s a event known fine = tried_fine s a event (known refl) fine

  dropped_fine : (o : Option Skip) (number : ℕ) (s : Situation) (message : ℕ) → Fine s → Fine (dropped_unless o number s message)
  dropped_fine (Some cause) number s message fine = fine
  dropped_fine None number s message fine = fine

  kept_fine : (s : Situation) (a : Actor) (events : List Event) → Fine s → Fine (entered_all cluster s a events true)
  kept_fine s a [] fine = fine
  kept_fine s a (event ∷ events) fine = kept_fine (entered cluster s a event true) a events (entered_fine s a event true fine)

  restarted_fine : (b : Bool) (s : Situation) (a : Actor) → Known a → Fine s → Fine (restarted_if b cluster answers s a)
  restarted_fine true s a known fine = down_fine plan.topology a (whole s) known fine
  restarted_fine false s a known fine =
      let kept : List Event = kept_if (answers.keeps (length s.own)) a s in
      entered_fine (with_kept cluster s a kept) a (RestartEvent (length kept)) false (kept_fine s a kept fine)

  drained_fine : (next s : Situation) → IsPast next → Drains cluster answers next s → Fine s → Fine next
  drained_fine next s past (stops _ none e) fine = subst Fine (sym e) fine
  drained_fine next s past (delivers _ n oldest rest) fine =
      let before : IsPast s = earlier_past s next (next_adds cluster answers 0 Drain s next (delivers s n oldest rest)) past in
      let goes = sent_goes cluster s n (waiting_goes cluster s n oldest.0).0 in
      drained_fine next (tried cluster answers s (receiver_in s n) (MessageEvent n)) past rest
      (tried_fine s (receiver_in s n) (MessageEvent n) (λ journalled. message_known s n goes.0 before goes.1 goes.2) fine)

  -- ---- steps

  next_fine : (number : ℕ) (step : Step) (s next : Situation) → IsStep (length plan.names) plan.topology step → IsStepOf cluster step → IsPast s → IsPast next
      → IsNext cluster answers number step s next → Fine s → Fine next
  next_fine number (Begin txn) s next known of before after e fine =
      subst Fine (sym e)
      (stepped_fine (begin_skip cluster s txn) number s (home_of_txn cluster txn) (BeginEvent txn) (λ none journalled. home_known txn of) fine)
  next_fine number (Deliver message) s next known of before after e fine =
      subst Fine (sym e)
      (stepped_fine (deliver_skip s message) number s (receiver_in s message) (MessageEvent message)
      (λ none journalled. let goes = deliver_goes cluster s message none in message_known s message goes.0 before goes.1 goes.2) fine)
  next_fine number (Drop message) s next known of before after e fine =
      subst Fine (sym e) (dropped_fine (message_skip s message) number s message fine)
  next_fine number (Recover txn node) s next known of before after e fine =
      subst Fine (sym e)
      (stepped_fine (recover_skip s txn node) number s (actor_of node 0) (RecoverEvent txn) (λ none journalled. node_known node of) fine)
  next_fine number (Slow txn) s next known of before after e fine =
      subst Fine (sym e)
      (stepped_fine (slowing_skip cluster s txn) number s (home_of_txn cluster txn) (SlowEvent txn) (λ none journalled. absurd cc) fine)
  next_fine number (Restart actor choice) s next known of before after e fine =
      subst Fine (sym e) (restarted_fine (fails_in answers s) s actor known.0 fine)
  next_fine number (Fail actor calls) s next known of before after e fine = subst Fine (sym e) fine
  next_fine number Drain s next known of before after drains fine = drained_fine next s after drains fine

  steps_fine : (number : ℕ) (steps : List Step) (s end : Situation) → AllByRecursion (IsStep (length plan.names) plan.topology) steps → AllByRecursion (IsStepOf cluster) steps
      → IsPast end → Follows cluster answers number steps s end → Fine s → Fine end
  steps_fine number [] s end known of past e fine = subst Fine (sym e) fine
  steps_fine number (step ∷ steps) s end known of past follows fine =
      let between : IsPast follows.0 = earlier_past follows.0 end (steps_add cluster answers (number + 1) steps follows.0 end follows.2) past in
      let before : IsPast s = earlier_past s follows.0 (next_adds cluster answers number step s follows.0 follows.1) between in
      steps_fine (number + 1) steps follows.0 end known.1 of.1 past follows.2
      (next_fine number step s follows.0 known.0 of.0 before between follows.1 fine)

module _ (plan : Content) (answers : Answers) (is : IsPlan plan) (valid : IsValidCluster (cluster_of plan)) where
  -- after whatever was before
  pub more_downs : (number : ℕ) (steps : List Step) (before last : Situation) → DownsAreKnown plan (whole before)
      → Follows (cluster_of plan) answers number steps before last → IsRun (cluster_of plan) (whole last)
      → AllByRecursion (IsStep (length plan.names) plan.topology) steps → DownsAreKnown plan (whole last)
  more_downs number steps before last fine follows run known =
      steps_fine plan answers is (whole last) (record { valid = valid; stands = run.stands }) number steps before last known
      (steps_of_plan plan is steps known) (begins_itself (whole last)) follows fine

  -- after fresh actors
  fresh_downs : (number : ℕ) (steps : List Step) (before last : Situation) → Sound (cluster_of plan) [] before → DownsAreKnown plan (whole before)
      → Follows (cluster_of plan) answers number steps before last → AllByRecursion (IsStep (length plan.names) plan.topology) steps
      → Sound (cluster_of plan) [] last × DownsAreKnown plan (whole last)
  fresh_downs number steps before last sound fine follows known =
      let after : Sound (cluster_of plan) [] last =
      sound_last (cluster_of plan) [] answers number steps before last (steps_of_plan plan is steps known) follows sound in
      (after, more_downs number steps before last fine follows (sound_run (cluster_of plan) [] last after) known)

  own_downs : (last : Situation) → Sound (cluster_of plan) [] last × DownsAreKnown plan (whole last) → DownsAreKnown plan last.own
  own_downs last h = subst (DownsAreKnown plan) (whole_alone last (sound_earlier (cluster_of plan) [] last h.0)) h.1

  schedule_downs : (last : Situation) → Follows (cluster_of plan) answers 0 plan.steps (opened []) last
      → Sound (cluster_of plan) [] last × DownsAreKnown plan (whole last)
  schedule_downs last follows =
      fresh_downs 0 plan.steps (opened []) last (sound_opened (cluster_of plan) [] (nothing_is_run (cluster_of plan)).run)
      (λ a down. absurd (no_item_down a down)) follows is.steps_known

  pub obeyed_downs : (items : List Item) → Obeys plan answers items → DownsAreKnown plan items
  obeyed_downs items obeys = subst (DownsAreKnown plan) (sym obeys.items_are) (own_downs obeys.last (schedule_downs obeys.last obeys.follows))

  pub further_downs : (steps : List Step) (between last : Situation) → Follows (cluster_of plan) answers 0 plan.steps (opened []) between
      → Follows (cluster_of plan) answers (length plan.steps) steps between last → AllByRecursion (IsStep (length plan.names) plan.topology) steps
      → DownsAreKnown plan last.own
  further_downs steps between last follows on known =
      let first = schedule_downs between follows in
      own_downs last (fresh_downs (length plan.steps) steps between last first.0 first.1 on known)
