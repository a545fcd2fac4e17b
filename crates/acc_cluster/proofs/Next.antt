-- From what steps of actors, restarts and drains make of a cluster to the next situation of the schedule.
use Rattle.std.proofs.Common.{◌≡◌, ◌⊎◌, ℕ, suc, ◌==◌, ◌<◌, ◌≤◌, Bool, true, false, ◌&&◌, cond, List, [], ◌∷◌, Option, None, Some, length, refl, sym, ◌∙◌, ap, subst, inl, inr, ⊎_elim, arith}
use Rattle.std.proofs.lemmas.Bool.{eq-eqb}
use Rattle.std.proofs.lemmas.Bool.Decides.{nat_tests}
use Rattle.acc_stamp.specs.declared.actors.Actor.{Actor}
use Rattle.acc_ports.specs.declared.disk.Disk.{Ghosts}
use Rattle.acc_journal.specs.Journal.{keeps_group}
use Rattle.acc_message.specs.declared.entry.Event.{Event}
use Rattle.acc_message.specs.declared.item.Skip.{Skip}
use Rattle.acc_message.specs.declared.item.Item.{Item}
use Rattle.acc_message.specs.declared.error.Which.{Which}
use Rattle.acc_message.specs.Run.{Cluster as RunCluster}
use Rattle.acc_schedule.specs.Content.{Content}
use Rattle.acc_schedule.specs.declared.plan.Step.{Step}
use Rattle.acc_schedule.specs.declared.plan.Step.TheVariants.{Drop, Restart, Fail, Drain}
use Rattle.acc_schedule_runs.specs.Situations.{Situation}
use Rattle.acc_schedule_runs.specs.Moves.{Answers, is_journalled, tried_if, stepped_unless, message_skip, dropped_unless, kept_if, with_kept, entered, reopened, restarted_if, IsNext}
use Rattle.acc_schedule_runs.specs.Schedules.{cluster_of}
use Rattle.acc_schedule_runs.specs.Laws.{AgreeBelow}
use Rattle.acc_schedule_runs.specs.Disks.{Disks, after_step, after_fail, after_restart}
use Rattle.acc_schedule_runs.specs.StrictMoves.{StrictSituation, stepped_strictly, IsStrictNext}
use Rattle.acc_schedule_runs.specs.Limits.{EndsAt}
use Rattle.acc_schedule_runs.specs.Fronts.{ComesTo, Begins}
use Rattle.acc_schedule_runs.specs.StrictFronts.{StrictlyComesTo}
use Rattle.acc_cluster.specs.declared.cluster.Cluster.{Cluster}
use Rattle.acc_cluster.specs.Stands.{StandsFor, AreStrict}
use Rattle.acc_cluster.specs.Limits.{StopsAt, HasEntered}
use Rattle.acc_cluster.specs.Steps.{change, hit, StepsTo, StepsStrictly, EndsIn, EndsStrictlyIn, LimitLeaves}
use Rattle.acc_cluster.proofs.Limited.{limit_leaves, entered_there}
use Rattle.acc_cluster.specs.Tried.{scheduled, stepped_if, fails_strictly, disks_after, HasStepped, HasChanged, HitsLimit, restarted_by, kept_strictly, HasRestarted, HitsLimitInRestart, HasDrained, HitsLimitInDrain}

-- a limit ends the run inside the step, and the cluster stops there
abbrev pub EndsHere : {D : Type 0} → Ghosts D → Content → ℕ → Step → Cluster D → Cluster D → Situation → Which → ℕ → Answers → Type 0
EndsHere port plan number step old new s which limit answers =
    (ends : EndsIn plan answers number step s which limit) × LimitLeaves port plan old new s ends.items ends.reached

abbrev pub EndsStrictlyHere : {D : Type 0} → Content → ℕ → Step → Cluster D → StrictSituation → Which → ℕ → Type 0
EndsStrictlyHere plan number step new s which limit = (ends : EndsStrictlyIn plan number step s which limit) × HasEntered new ends.items

-- ---- answers

-- the answers with others at one place
abbrev with_answer : Answers → ℕ → Bool → Bool → Answers
with_answer answers at fails keeps =
    record {
      fails = λ place. cond (place == at) fails (answers.fails place);
      keeps = λ place. cond (place == at) keeps (answers.keeps place);
    }

below_not : (place at : ℕ) → place < at → (place == at) ≡ false
below_not place at less = grind (arith, nat_tests)

agree_with : (answers : Answers) (at : ℕ) (fails keeps : Bool) → AgreeBelow answers (with_answer answers at fails keeps) at
agree_with answers at fails keeps = λ place less. (
  sym (ap (λ b. cond b fails (answers.fails place)) (below_not place at less)),
  sym (ap (λ b. cond b keeps (answers.keeps place)) (below_not place at less)),
)

fails_with : (answers : Answers) (at : ℕ) (fails keeps : Bool) → (with_answer answers at fails keeps).fails at ≡ fails
fails_with answers at fails keeps = ap (λ b. cond b fails (answers.fails at)) (eq-eqb at at refl)

keeps_with : (answers : Answers) (at : ℕ) (fails keeps : Bool) → (with_answer answers at fails keeps).keeps at ≡ keeps
keeps_with answers at fails keeps = ap (λ b. cond b keeps (answers.keeps at)) (eq-eqb at at refl)

both : (journalled fails : Bool) → (fails ≡ true → journalled ≡ true) → (journalled && fails) ≡ fails
both true true may = refl
both true false may = refl
both false true may = may refl
both false false may = refl

longer_by : (n k : ℕ) → n ≤ k → n < suc k
longer_by n k low = omega (arith, low)

next_least : (n k : ℕ) → suc n ≤ k → n ≤ k
next_least n k low = omega (arith, low)

same_least : (n : ℕ) → n ≤ n
same_least n = omega arith

-- ---- fronts

ends_map : (P Q : List Item → Type 0) → ((front : List Item) → P front → Q front) → (items : List Item) (which : Which) (limit : ℕ) → EndsAt P items which limit → EndsAt Q items which limit
ends_map P Q f items which limit h = record { next = h.next; front = f (h.next ∷ items) h.front; within = h.within; passed = h.passed }

whole_front : (front own : List Item) → front ≡ own → Begins front own
whole_front front own is = record { later = []; items_are = sym is }

-- ---- a step of one actor

module _ (cluster : RunCluster) (skip : Option Skip) (number : ℕ) (s : Situation) (a : Actor) (event : Event) where
  stepped_is : (fails : Bool) → (fails ≡ true → is_journalled a event ≡ true) → (answers : Answers) (keeps : Bool)
      → stepped_if skip fails cluster number s a event ≡ stepped_unless skip cluster (with_answer answers (length s.own) fails keeps) number s a event
  stepped_is fails may answers keeps = by skip
    where
      by : (skip : Option Skip) → stepped_if skip fails cluster number s a event ≡ stepped_unless skip cluster (with_answer answers (length s.own) fails keeps) number s a event
      by (Some cause) = refl
      by None =
          ap (λ b. tried_if b cluster s a event)
          (sym (ap (λ b. is_journalled a event && b) (fails_with answers (length s.own) fails keeps) ∙ both (is_journalled a event) fails may))

  -- whatever the disks answer
  stepped_any : (more : Answers) → stepped_if skip (is_journalled a event && more.fails (length s.own)) cluster number s a event ≡ stepped_unless skip cluster more number s a event
  stepped_any more = by skip
    where
      by : (skip : Option Skip) → stepped_if skip (is_journalled a event && more.fails (length s.own)) cluster number s a event ≡ stepped_unless skip cluster more number s a event
      by (Some cause) = refl
      by None = refl

  -- the disk doesn't fail
  stepped_passes : (more : Answers) → more.fails (length s.own) ≡ false → stepped_if skip false cluster number s a event ≡ stepped_unless skip cluster more number s a event
  stepped_passes more passes =
      ap (λ b. stepped_if skip b cluster number s a event) (sym (ap (λ b. is_journalled a event && b) passes ∙ both (is_journalled a event) false (λ e. cc))) ∙ stepped_any more

  one_longer : length s.own < length (stepped_if skip false cluster number s a event).own
  one_longer = by skip
    where
      by : (skip : Option Skip) → length s.own < length (stepped_if skip false cluster number s a event).own
      by (Some cause) = longer_by (length s.own) (length s.own) (same_least (length s.own))
      by None = longer_by (length s.own) (length s.own) (same_least (length s.own))

  strictly_is : (fails : Bool) (disks : Disks) → (skip ≡ None → fails ≡ fails_strictly disks a event)
      → record { found = stepped_if skip fails cluster number s a event; disks = disks_after skip disks a event } ≡ stepped_strictly skip cluster number (record { found = s; disks = disks }) a event
  strictly_is fails disks is = by skip is
    where
      by : (skip : Option Skip) → (skip ≡ None → fails ≡ fails_strictly disks a event)
          → record { found = stepped_if skip fails cluster number s a event; disks = disks_after skip disks a event } ≡ stepped_strictly skip cluster number (record { found = s; disks = disks }) a event
      by (Some cause) is = refl
      by None is = ap (λ b. record { found = tried_if b cluster s a event; disks = after_step (is_journalled a event) a disks }) (is refl)

module _ {D : Type 0} (port : Ghosts D)
    (plan : Content) (number : ℕ) (step : Step) (old new : Cluster D) where
  abbrev cluster : RunCluster
  cluster = cluster_of plan

  module _ (s : Situation) (skip : Option Skip) (a : Actor) (event : Event) where
    pub steps_to : ((answers : Answers) (next : Situation) → next ≡ stepped_unless skip cluster answers number s a event → IsNext cluster answers number step s next)
        → HasStepped port plan (scheduled skip number a event) old new s → (answers : Answers) → StepsTo port plan answers number step (change old new) s
    steps_to to h answers =
        record {
          other = with_answer answers (length s.own) h.fails false;
          next = stepped_if skip h.fails cluster number s a event;
          agree = agree_with answers (length s.own) h.fails false;
          next_is = to (with_answer answers (length s.own) h.fails false) (stepped_if skip h.fails cluster number s a event) (stepped_is cluster skip number s a event h.fails h.may answers false);
          stands = h.stands;
          rose = h.rose;
        }

    pub ends_in : ((answers : Answers) (reached : Situation) → reached ≡ stepped_unless skip cluster answers number s a event → ComesTo cluster answers number step s reached)
        → (which : Which) (limit : ℕ) → HitsLimit port plan (scheduled skip number a event) old new s (hit which limit)
        → (answers : Answers) → EndsHere port plan number step old new s which limit answers
    ends_in to which limit hits answers = (
      record {
        other = other;
        items = s.own;
        reached = hits.reached;
        agree = agree_with answers (length s.own) false false;
        led =
            ⊎_elim (λ unasked. inl unasked.1)
            (λ asked. inr (to other hits.reached (asked.2 ∙ stepped_is cluster skip number s a event false (λ e. cc) answers false))) hits.ends;
        first = λ is. inr (ap (λ (t : Situation). t.own) (hits.first is));
        ends = λ more agree.
            ⊎_elim (λ unasked. by more (is_journalled a event && more.fails (length s.own)) (stepped_any cluster skip number s a event more) (unasked.0 (is_journalled a event && more.fails (length s.own))))
            (λ asked.
            by more false
            (stepped_passes cluster skip number s a event more
            (sym ((subst (λ (t : Situation). AgreeBelow other more (length t.own)) asked.2 agree) (length s.own) (one_longer cluster skip number s a event)).0
            ∙ fails_with answers (length s.own) false false)) asked.0) hits.ends;
      },
      limit_leaves port plan skip number a event old new s which limit hits,
    )
      where
        other : Answers
        other = with_answer answers (length s.own) false false

        by : (more : Answers) (fails : Bool) → stepped_if skip fails cluster number s a event ≡ stepped_unless skip cluster more number s a event
            → EndsAt (λ front. front ≡ (stepped_if skip fails cluster number s a event).own) s.own which limit
            → EndsAt (λ front. (later : Situation) × ComesTo cluster more number step s later × Begins front later.own) s.own which limit
        by more fails is ends =
            ends_map (λ front. front ≡ (stepped_if skip fails cluster number s a event).own) _
            (λ front e. (
              stepped_if skip fails cluster number s a event,
              to more (stepped_if skip fails cluster number s a event) is,
              whole_front front (stepped_if skip fails cluster number s a event).own e,
            ))
            s.own which limit ends

  module _ (ss : StrictSituation) (skip : Option Skip) (a : Actor) (event : Event) where
    pub steps_strictly : ((next : StrictSituation) → next ≡ stepped_strictly skip cluster number ss a event → IsStrictNext cluster number step ss next)
        → HasStepped port plan (scheduled skip number a event) old new ss.found → AreStrict port plan old.slots.items ss.found ss.disks
        → StepsStrictly port plan number step new ss
    steps_strictly to h are =
        let after = h.strictly ss.disks are in
        record {
          next = record { found = stepped_if skip h.fails cluster number ss.found a event; disks = disks_after skip ss.disks a event };
          next_is = to (record { found = stepped_if skip h.fails cluster number ss.found a event; disks = disks_after skip ss.disks a event }) (strictly_is cluster skip number ss.found a event h.fails ss.disks after.0);
          stands = record { stands = h.stands; strictly = after.1 };
        }

    pub ends_strictly : ((reached : StrictSituation) → reached ≡ stepped_strictly skip cluster number ss a event → StrictlyComesTo cluster number step ss reached)
        → (which : Which) (limit : ℕ) → HitsLimit port plan (scheduled skip number a event) old new ss.found (hit which limit)
        → AreStrict port plan old.slots.items ss.found ss.disks → EndsStrictlyHere plan number step new ss which limit
    ends_strictly to which limit hits are =
        ⊎_elim (λ any. by (fails_strictly ss.disks a event) (λ none. refl) (any.0 (fails_strictly ss.disks a event)))
        (λ one. by false (λ none. sym (one.1 ss.disks are none)) one.0) hits.ends
      where
        by : (fails : Bool) → (skip ≡ None → fails ≡ fails_strictly ss.disks a event) → EndsAt (λ front. front ≡ (stepped_if skip fails cluster number ss.found a event).own) ss.found.own which limit
            → EndsStrictlyHere plan number step new ss which limit
        by fails is ends = (
          record {
            items = ss.found.own;
            ends = ends_map (λ front. front ≡ (stepped_if skip fails cluster number ss.found a event).own) _
                (λ front e. (
                  record { found = stepped_if skip fails cluster number ss.found a event; disks = disks_after skip ss.disks a event },
                  to (record { found = stepped_if skip fails cluster number ss.found a event; disks = disks_after skip ss.disks a event }) (strictly_is cluster skip number ss.found a event fails ss.disks is),
                  whole_front front (stepped_if skip fails cluster number ss.found a event).own e,
                ))
                ss.found.own which limit ends;
          },
          entered_there port plan new ss.found.own hits.reached hits.stops,
        )

-- ---- restarts

-- whatever the disk answers
restarted_any : (cluster : RunCluster) (s : Situation) (a : Actor) (more : Answers)
    → restarted_by (more.fails (length s.own)) (more.keeps (length s.own)) cluster s a ≡ restarted_if (more.fails (length s.own)) cluster more s a
restarted_any cluster s a more = by (more.fails (length s.own))
  where
    by : (fails : Bool) → restarted_by fails (more.keeps (length s.own)) cluster s a ≡ restarted_if fails cluster more s a
    by true = refl
    by false = refl

restart_longer : (cluster : RunCluster) (s : Situation) (a : Actor) (keeps : Bool) → length s.own < length (restarted_by false keeps cluster s a).own
restart_longer cluster s a keeps = longer_by (length s.own) (length (with_kept cluster s a (kept_if keeps a s)).own) (by (kept_if keeps a s) s)
  where
    by : (kept : List Event) (s : Situation) → length s.own ≤ length (with_kept cluster s a kept).own
    by [] s = same_least (length s.own)
    by (event ∷ kept) s = next_least (length s.own) (length (with_kept cluster s a (event ∷ kept)).own) (by kept (entered cluster s a event true))

restarted_is : (cluster : RunCluster) (s : Situation) (a : Actor) (fails keeps : Bool) (answers : Answers)
    → restarted_by fails keeps cluster s a ≡ restarted_if ((with_answer answers (length s.own) fails keeps).fails (length s.own)) cluster (with_answer answers (length s.own) fails keeps) s a
restarted_is cluster s a fails keeps answers =
    by fails ∙ ap (λ b. restarted_if b cluster (with_answer answers (length s.own) fails keeps) s a) (sym (fails_with answers (length s.own) fails keeps))
  where
    by : (f : Bool) → restarted_by f keeps cluster s a ≡ restarted_if f cluster (with_answer answers (length s.own) fails keeps) s a
    by true = refl
    by false = ap (λ k. reopened cluster s a (kept_if k a s)) (sym (keeps_with answers (length s.own) fails keeps))

module _ {D : Type 0} (port : Ghosts D)
    (plan : Content) (number : ℕ) (a : Actor) (choice : ℕ) (old new : Cluster D) where
  abbrev run : RunCluster
  run = cluster_of plan

  pub restarts_to : (s : Situation) → HasRestarted port plan a choice old new s → (answers : Answers)
      → StepsTo port plan answers number (Restart a choice) (change old new) s
  restarts_to s h answers =
      record {
        other = with_answer answers (length s.own) h.fails h.keeps;
        next = restarted_by h.fails h.keeps run s a;
        agree = agree_with answers (length s.own) h.fails h.keeps;
        next_is = restarted_is run s a h.fails h.keeps answers;
        stands = h.stands;
        rose = h.rose;
      }

  pub restarts_strictly : (ss : StrictSituation) → HasRestarted port plan a choice old new ss.found
      → AreStrict port plan old.slots.items ss.found ss.disks → StepsStrictly port plan number (Restart a choice) new ss
  restarts_strictly ss h are =
      let after = h.strictly ss.disks are in
      record {
        next = record { found = restarted_by h.fails h.keeps run ss.found a; disks = after_restart a ss.disks };
        next_is =
            ap (λ b. record { found = restarted_by b h.keeps run ss.found a; disks = after_restart a ss.disks }) after.0
            ∙ ap (λ kept. record { found = reopened run ss.found a kept; disks = after_restart a ss.disks }) after.1;
        stands = record { stands = h.stands; strictly = after.2 };
      }

  pub restart_ends : (s : Situation) (which : Which) (limit : ℕ) → (hits : HitsLimitInRestart port plan a choice old s (hit which limit))
      → LimitLeaves port plan old new s hits.items hits.reached → (answers : Answers) → EndsHere port plan number (Restart a choice) old new s which limit answers
  restart_ends s which limit hits left answers =
      ⊎_elim
      (λ unasked. by false (inl unasked.1) (λ more agree. unasked.0 (more.fails (length s.own)) (more.keeps (length s.own))))
      (λ asked.
      by asked.0 (inr (asked.3 ∙ restarted_is run s a false asked.0 answers))
      (λ more agree.
      let same = subst (λ (t : Situation). AgreeBelow (with_answer answers (length s.own) false asked.0) more (length t.own)) asked.3 agree in
      let here = same (length s.own) (restart_longer run s a asked.0) in
      subst (λ fails. EndsAt (λ front. Begins front (restarted_by fails (more.keeps (length s.own)) run s a).own) hits.items which limit)
      (sym (fails_with answers (length s.own) false asked.0) ∙ here.0)
      (subst (λ keeps. EndsAt (λ front. Begins front (restarted_by false keeps run s a).own) hits.items which limit)
      (sym (keeps_with answers (length s.own) false asked.0) ∙ here.1) asked.1))) hits.ends
    where
      by : (keeps : Bool) → (hits.reached ≡ s) ⊎ ComesTo run (with_answer answers (length s.own) false keeps) number (Restart a choice) s hits.reached
          → ((more : Answers) → AgreeBelow (with_answer answers (length s.own) false keeps) more (length hits.reached.own)
          → EndsAt (λ front. Begins front (restarted_by (more.fails (length s.own)) (more.keeps (length s.own)) run s a).own) hits.items which limit)
          → EndsHere port plan number (Restart a choice) old new s which limit answers
      by keeps led ends = (
        record {
          other = with_answer answers (length s.own) false keeps;
          items = hits.items;
          reached = hits.reached;
          agree = agree_with answers (length s.own) false keeps;
          led = led;
          first = λ is. inl tt;
          ends = λ more agree.
              let next : Situation = restarted_by (more.fails (length s.own)) (more.keeps (length s.own)) run s a in
              ends_map (λ front. Begins front next.own) _ (λ front begins. (next, restarted_any run s a more, begins)) hits.items which limit (ends more agree);
        },
        left,
      )

  pub restart_ends_strictly : (ss : StrictSituation) (which : Which) (limit : ℕ) → (hits : HitsLimitInRestart port plan a choice old ss.found (hit which limit))
      → LimitLeaves port plan old new ss.found hits.items hits.reached
      → AreStrict port plan old.slots.items ss.found ss.disks → EndsStrictlyHere plan number (Restart a choice) new ss which limit
  restart_ends_strictly ss which limit hits left are =
      ⊎_elim (λ any. by (keeps_group (ss.disks.passed a) choice) refl (any.0 false (keeps_group (ss.disks.passed a) choice))) (λ one. by one.0 (one.2 ss.disks are) one.1) hits.ends
    where
      by : (keeps : Bool) → kept_if keeps a ss.found ≡ kept_strictly ss.disks choice a ss.found → EndsAt (λ front. Begins front (restarted_by false keeps run ss.found a).own) hits.items which limit
          → EndsStrictlyHere plan number (Restart a choice) new ss which limit
      by keeps is ends = (
        record {
          items = hits.items;
          ends = ends_map (λ front. Begins front (restarted_by false keeps run ss.found a).own) _
              (λ front begins. (
                record { found = restarted_by false keeps run ss.found a; disks = after_restart a ss.disks },
                ap (λ kept. record { found = reopened run ss.found a kept; disks = after_restart a ss.disks }) is,
                begins,
              ))
              hits.items which limit ends;
        },
        entered_there port plan new hits.items hits.reached left.stops,
      )

-- ---- drops, failing disks and drains

module _ {D : Type 0} (port : Ghosts D)
    (plan : Content) (number : ℕ) (old new : Cluster D) where
  abbrev there : RunCluster
  there = cluster_of plan

  pub drops_to : (message : ℕ) (s : Situation) → HasChanged port plan old new s (dropped_unless (message_skip s message) number s message)
      → (answers : Answers) → StepsTo port plan answers number (Drop message) (change old new) s
  drops_to message s h answers =
      record { other = answers; next = dropped_unless (message_skip s message) number s message; agree = λ place less. (refl, refl); next_is = refl; stands = h.stands; rose = h.rose }

  pub drops_strictly : (message : ℕ) (ss : StrictSituation) → HasChanged port plan old new ss.found (dropped_unless (message_skip ss.found message) number ss.found message)
      → AreStrict port plan old.slots.items ss.found ss.disks → StepsStrictly port plan number (Drop message) new ss
  drops_strictly message ss h are =
      record {
        next = record { found = dropped_unless (message_skip ss.found message) number ss.found message; disks = ss.disks };
        next_is = refl;
        stands = record { stands = h.stands; strictly = h.strictly ss.disks are };
      }

  pub drop_ends : (message : ℕ) (s : Situation) (which : Which) (limit : ℕ) → EndsAt (λ front. front ≡ (dropped_unless (message_skip s message) number s message).own) s.own which limit
      → StopsAt port plan new s.own s → (answers : Answers) → EndsHere port plan number (Drop message) old new s which limit answers
  drop_ends message s which limit ends stops answers = (
    record {
      other = answers;
      items = s.own;
      reached = s;
      agree = λ place less. (refl, refl);
      led = inl refl;
      first = λ is. inr refl;
      ends = λ more agree.
          ends_map (λ front. front ≡ (dropped_unless (message_skip s message) number s message).own) _
          (λ front is. (dropped_unless (message_skip s message) number s message, refl, whole_front front (dropped_unless (message_skip s message) number s message).own is)) s.own which limit ends;
    },
    record { stops = stops; rose = λ b known. inl refl },
  )

  pub drop_ends_strictly : (message : ℕ) (ss : StrictSituation) (which : Which) (limit : ℕ)
      → EndsAt (λ front. front ≡ (dropped_unless (message_skip ss.found message) number ss.found message).own) ss.found.own which limit
      → StopsAt port plan new ss.found.own ss.found → EndsStrictlyHere plan number (Drop message) new ss which limit
  drop_ends_strictly message ss which limit ends stops = (
    record {
      items = ss.found.own;
      ends = ends_map (λ front. front ≡ (dropped_unless (message_skip ss.found message) number ss.found message).own) _
          (λ front is. (
            record { found = dropped_unless (message_skip ss.found message) number ss.found message; disks = ss.disks },
            refl,
            whole_front front (dropped_unless (message_skip ss.found message) number ss.found message).own is,
          ))
          ss.found.own which limit ends;
    },
    entered_there port plan new ss.found.own ss.found stops,
  )

  pub fails_to : (a : Actor) (calls : ℕ) (s : Situation) → StandsFor port plan new s → (answers : Answers) → StepsTo port plan answers number (Fail a calls) (change old new) s
  fails_to a calls s h answers = record { other = answers; next = s; agree = λ place less. (refl, refl); next_is = refl; stands = h; rose = λ b known. inl refl }

  pub fails_strictly_to : (a : Actor) (calls : ℕ) (ss : StrictSituation) → StandsFor port plan new ss.found
      → AreStrict port plan new.slots.items ss.found (after_fail a calls ss.disks) → StepsStrictly port plan number (Fail a calls) new ss
  fails_strictly_to a calls ss h are = record { next = record { found = ss.found; disks = after_fail a calls ss.disks }; next_is = refl; stands = record { stands = h; strictly = are } }

  pub drains_to : (s : Situation) → HasDrained port plan old new s → (answers : Answers) → StepsTo port plan answers number Drain (change old new) s
  drains_to s h answers =
      let found = h.answered answers in record { other = found.0; next = h.next; agree = found.1; next_is = found.2; stands = h.stands; rose = h.rose }

  pub drains_strictly : (ss : StrictSituation) → HasDrained port plan old new ss.found → AreStrict port plan old.slots.items ss.found ss.disks
      → StepsStrictly port plan number Drain new ss
  drains_strictly ss h are =
      let found = h.strictly ss.disks are in
      record { next = record { found = h.next; disks = found.0 }; next_is = found.1; stands = record { stands = h.stands; strictly = found.2 } }

  pub drain_ends : (s : Situation) (which : Which) (limit : ℕ) → (hits : HitsLimitInDrain port plan old s which limit) → LimitLeaves port plan old new s hits.items hits.reached
      → (answers : Answers) → EndsHere port plan number Drain old new s which limit answers
  drain_ends s which limit hits left answers =
      let found = hits.answered answers in
      (record { other = found.0; items = hits.items; reached = hits.reached; agree = found.1; led = inr found.2; first = λ is. inr (hits.first is); ends = found.3 }, left)

  pub drain_ends_strictly : (ss : StrictSituation) (which : Which) (limit : ℕ) → (hits : HitsLimitInDrain port plan old ss.found which limit)
      → LimitLeaves port plan old new ss.found hits.items hits.reached
      → AreStrict port plan old.slots.items ss.found ss.disks → EndsStrictlyHere plan number Drain new ss which limit
  drain_ends_strictly ss which limit hits left are =
      (record { items = hits.items; ends = hits.strictly ss.disks are }, entered_there port plan new hits.items hits.reached left.stops)
