-- A healing is led from place to place: what one call leads to, the next one goes on with.
use Rattle.std.proofs.Common.{◌≡◌, ℕ, Bool, true, false, not, cond, List, [], ◌∷◌, ◌++◌, map, reverse, Option, None, Some, refl, sym, ◌∙◌, ap, subst}
use Rattle.std.specs.List.{AllByRecursion, slice_get}
use Rattle.std.specs.Option.{option_map}
use Rattle.std.proofs.lemmas.List.{append_assoc, reverse-reverse}
use Rattle.acc_stamp.specs.declared.stamps.TxnId.{TxnId}
use Rattle.acc_stamp.specs.declared.stamps.Ballot.{Ballot}
use Rattle.acc_ports.specs.declared.disk.Disk.{Ghosts}
use Rattle.acc_message.specs.declared.error.RunError.{RunError}
use Rattle.acc_message.specs.declared.error.RunError.TheVariants.{Limit, OutOfMemory}
use Rattle.acc_message.specs.declared.item.Item.{Item}
use Rattle.acc_message.specs.Items.{txn_of}
use Rattle.acc_schedule.specs.Content.{Content}
use Rattle.acc_schedule.specs.declared.plan.Step.TheVariants.{Drain}
use Rattle.acc_schedule_runs.specs.Situations.{Situation}
use Rattle.acc_schedule_runs.specs.Schedules.{cluster_of}
use Rattle.acc_cluster.specs.declared.cluster.Cluster.{Cluster}
use Rattle.acc_cluster.specs.Stands.{StandsFor}
use Rattle.acc_cluster.specs.Steps.{IfLimit}
use Rattle.acc_safety.specs.Places.{IsPast}
use Rattle.acc_delivered.specs.Ends.{is_ended}
use Rattle.acc_delivered.proofs.Deliveries.{append_is_past}
use Rattle.acc_heal_laws.specs.Stages.{Stage, Reopens, Turns, EndsFirst, Repeats, EndsSecond, Turn, turn_or, turn_at, turn_step, recover_unless, all_took_apply, next_turn, due, newest_ballot, stage_after, stage_after_first, stage_of_turn}
use Rattle.acc_heal_laws.proofs.TurnFacts.{txn_still}
use Rattle.acc_heal.specs.declared.seen.Seen.{Seen}
use Rattle.acc_heal.specs.Seen.{Tells, TellsOldest}
use Rattle.acc_heal.specs.Places.{Place, due_in, turn_in, turn_in_stage, recover_of, IsDue, TookDue, IsFirst, TookFirst, IsSecond, TookSecond, IsTurnOf, TookTurn, IsLeft, IsOver, At, found_in, IsHealingAt, StandsIn, Leads, EndsWithin}

-- ---- one call after another

module _ {D : Type 0} (port : Ghosts D) (plan : Content) where
  -- what holds in the place to which a call has led
  abbrev pub Then : Cluster D → (Place → Type 0) → (Place → Place → Type 0) → (Place → Type 0) → Type 0
  Then mid Before After Next =
      (strictly : Bool) (between : At strictly) (place now : Place) → Before place → After place now → IsHealingAt strictly port plan between mid now → Next now

  abbrev pub Both : Cluster D → (Place → Type 0) → (Place → Place → Type 0) → (Place → Place → Type 0) → (Place → Place → Type 0) → Type 0
  Both mid Before After Later Whole =
      (strictly : Bool) (between : At strictly) (place now last : Place) → Before place → After place now → IsHealingAt strictly port plan between mid now
      → Later now last → Whole place last

  module _ (old mid : Cluster D) (Before Next : Place → Type 0) (After : Place → Place → Type 0) (leads : Leads port plan old mid Before After) (next : Then mid Before After Next) where
    pub stands_next : StandsIn port plan old Before → StandsIn port plan mid Next
    stands_next standing =
        let led = leads false standing.between standing.place standing.before standing.healing in
        record { between = standing.between; place = led.0; before = next false standing.between standing.place led.0 standing.before led.1 led.2; healing = led.2 }

    pub leads_next : (new : Cluster D) (Later Whole : Place → Place → Type 0) → Leads port plan mid new Next Later → Both mid Before After Later Whole
        → Leads port plan old new Before Whole
    leads_next new Later Whole more both strictly between place before h =
        let led = leads strictly between place before h in
        let last = more strictly between led.0 (next strictly between place led.0 before led.1 led.2) led.2 in
        (last.0, both strictly between place led.0 last.0 before led.1 led.2 last.1, last.2)

    pub ends_next : (error : RunError) → IfLimit (EndsWithin port plan mid Next) error → IfLimit (EndsWithin port plan old Before) error
    ends_next OutOfMemory ends = tt
    ends_next (Limit which most) ends = λ strictly between place before h.
        let led = leads strictly between place before h in
        ends strictly between led.0 (next strictly between place led.0 before led.1 led.2) led.2

  pub weaker_leads : (old new : Cluster D) (Before Narrow : Place → Type 0) (After Whole : Place → Place → Type 0)
      → ((place : Place) → Narrow place → Before place) → ((place now : Place) → Narrow place → After place now → Whole place now)
      → Leads port plan old new Before After → Leads port plan old new Narrow Whole
  weaker_leads old new Before Narrow After Whole narrow whole leads strictly between place before h =
      let led = leads strictly between place (narrow place before) h in (led.0, whole place led.0 before led.1, led.2)

  pub narrower_ends : (old : Cluster D) (Before Narrow : Place → Type 0) → ((place : Place) → Narrow place → Before place)
      → (error : RunError) → IfLimit (EndsWithin port plan old Before) error → IfLimit (EndsWithin port plan old Narrow) error
  narrower_ends old Before Narrow narrow OutOfMemory ends = tt
  narrower_ends old Before Narrow narrow (Limit which most) ends = λ strictly between place before h. ends strictly between place (narrow place before) h

  pub narrower_stands : (cluster : Cluster D) (Before Narrow : Place → Type 0) → ((place : Place) → Narrow place → Before place) → StandsIn port plan cluster Narrow
      → StandsIn port plan cluster Before
  narrower_stands cluster Before Narrow narrow standing =
      record { between = standing.between; place = standing.place; before = narrow standing.place standing.before; healing = standing.healing }

  -- the items that a cluster shows are those of its place
  pub stands_found : (strictly : Bool) (between : At strictly) (cluster : Cluster D) (place : Place) (h : IsHealingAt strictly port plan between cluster place)
      → StandsFor port plan cluster (found_in strictly h.at)
  stands_found false between cluster place h = h.stands
  stands_found true between cluster place h = h.stands.stands

  pub shown_is : (items : List Item) (strictly : Bool) (between : At strictly) (cluster : Cluster D) (place : Place) → IsHealingAt strictly port plan between cluster place
      → ((plan : Content) (s : Situation) → StandsFor port plan cluster s → items ≡ reverse s.own) → reverse items ≡ place.items
  shown_is items strictly between cluster place h shows =
      ap reverse (shows plan (found_in strictly h.at) (stands_found strictly between cluster place h)) ∙ reverse-reverse (found_in strictly h.at).own ∙ h.items_are

-- ---- stages

module _ (plan : Content) where
  abbrev stage_then : Stage → List Item → List Item → Stage
  stage_then = stage_after (cluster_of plan)

  pub next_stage : (number : ℕ) (place now : Place) (stage : Stage) → TookDue plan number place now → place.stage ≡ stage
      → now.stage ≡ stage_then stage place.items now.items
  next_stage number place now stage t is = ap (λ (k : Place). k.stage) t.now_is ∙ ap (λ k. stage_then k place.items now.items) is

  pub turn_stage : (place : Place) (turn : Turn) → turn_in plan place ≡ Some turn
      → (ids : List TxnId) × (place.stage ≡ Turns ids) × (next_turn (cluster_of plan) place.items ids ≡ Some turn)
  turn_stage place turn is = by place.stage refl is
    where
      none : {T : Type 0} {x : T} → None ≡ Some x → ⊥
      none e = cc

      by : (stage : Stage) → place.stage ≡ stage → turn_in_stage plan place.items stage ≡ Some turn
          → (ids : List TxnId) × (place.stage ≡ Turns ids) × (next_turn (cluster_of plan) place.items ids ≡ Some turn)
      by (Reopens steps) was e = absurd (none e)
      by (Turns ids) was e = (ids, was, e)
      by (EndsFirst t drawn) was e = absurd (none e)
      by (Repeats t) was e = absurd (none e)
      by (EndsSecond t) was e = absurd (none e)

  pub turn_is_due : (place : Place) (turn : Turn) → turn_in plan place ≡ Some turn → due_in plan place ≡ Some turn.step
  turn_is_due place turn is =
      let t = turn_stage place turn is in
      ap (λ stage. due (cluster_of plan) stage place.items) t.1 ∙ ap (option_map (λ (k : Turn). k.step)) t.2

  pub first_is_due : (number : ℕ) (id : TxnId) (txn : ℕ) (place : Place) → IsFirst plan number id txn place → IsDue plan number (recover_of id txn) place
  first_is_due number id txn place f = (f.number_is, turn_is_due place (record { id = id; step = recover_of id txn; rest = f.rest }) f.turn_is)

  -- after the first recover
  pub after_recover : (number : ℕ) (place now : Place) (turn : Turn) → turn_in plan place ≡ Some turn → TookDue plan number place now
      → now.stage ≡ EndsFirst turn (newest_ballot turn.id now.items)
  after_recover number place now turn is t =
      let k = turn_stage place turn is in
      next_stage number place now (Turns k.0) t k.1 ∙ ap (λ o. stage_of_turn o now.items) k.2

  pub drain_is_due : (number : ℕ) (id : TxnId) (txn : ℕ) (place now : Place) (next : ℕ) → IsFirst plan number id txn place → TookDue plan next place now
      → IsDue plan next Drain now
  drain_is_due number id txn place now next f t =
      let turn : Turn = record { id = id; step = recover_of id txn; rest = f.rest } in
      (t.next, ap (λ stage. due (cluster_of plan) stage now.items) (after_recover next place now turn f.turn_is t))

  pub both_first : (number next last_number : ℕ) (id : TxnId) (txn : ℕ) (drawn : Option Ballot) (place now last : Place) → IsFirst plan number id txn place
      → TookDue plan next place now → drawn ≡ newest_ballot id now.items → TookDue plan last_number now last → TookFirst plan last_number drawn place last
  both_first number next last_number id txn drawn place now last f one is two =
      record {
        number_is = two.next;
        stage_is = λ turn e.
            next_stage last_number now last (EndsFirst turn (newest_ballot turn.id now.items)) two (after_recover next place now turn e one)
            ∙ ap (λ d. stage_after_first turn d last.items) (ap (λ x. newest_ballot x now.items) (same_id turn e) ∙ sym is);
        later = two.later ++ one.later;
        items_are = two.items_are ∙ ap (λ l. two.later ++ l) one.items_are ∙ sym (append_assoc two.later one.later place.items);
      }
    where
      same_turn : (one other : Turn) → Some one ≡ Some other → one ≡ other
      same_turn one other e = cc

      same_id : (turn : Turn) → turn_in plan place ≡ Some turn → turn.id ≡ id
      same_id turn e = ap (λ (k : Turn). k.id) (same_turn turn (record { id = id; step = recover_of id txn; rest = f.rest }) (sym e ∙ f.turn_is))

  -- the second recover
  pub second_is_due : (number : ℕ) (id : TxnId) (txn : ℕ) (place : Place) → IsSecond number id txn place → IsDue plan number (recover_of id txn) place
  second_is_due number id txn place s = (s.number_is, ap (λ stage. due (cluster_of plan) stage place.items) s.stage_is)

  pub second_drain_is_due : (number next : ℕ) (id : TxnId) (txn : ℕ) (place now : Place) → IsSecond number id txn place → TookDue plan next place now
      → IsDue plan next Drain now
  second_drain_is_due number next id txn place now s t =
      (t.next, ap (λ stage. due (cluster_of plan) stage now.items) (next_stage next place now _ t s.stage_is))

  pub both_second : (number next last_number : ℕ) (id : TxnId) (txn : ℕ) (place now last : Place) → IsSecond number id txn place → TookDue plan next place now
      → TookDue plan last_number now last → TookSecond last_number place last
  both_second number next last_number id txn place now last s one two =
      record {
        number_is = two.next;
        stage_is = λ turn e. next_stage last_number now last (EndsSecond turn) two (next_stage next place now (Repeats turn) one e);
        later = two.later ++ one.later;
        items_are = two.items_are ∙ ap (λ l. two.later ++ l) one.items_are ∙ sym (append_assoc two.later one.later place.items);
      }

  -- ---- a whole turn

  pub oldest_on : (seen : Seen) (later before now : List Item) → now ≡ later ++ before → TellsOldest seen before → TellsOldest seen now
  oldest_on seen later before now is t =
      record {
        later = later ++ t.later;
        oldest = t.oldest;
        items_are = is ∙ ap (λ l. later ++ l) t.items_are ∙ sym (append_assoc later t.later t.oldest);
        tells = t.tells;
      }

  pub all_oldest : (seen : Seen) (items : List Item) → Tells seen items → TellsOldest seen items
  all_oldest seen items tells = record { later = []; oldest = items; items_are = refl; tells = tells }

  -- no ballot was drawn
  pub turn_without : (number next : ℕ) (id : TxnId) (txn : ℕ) (seen : Seen) (place now : Place) → IsTurnOf plan number id txn seen place
      → TookFirst plan next None place now → TookTurn plan next seen place now
  turn_without number next id txn seen place now is t =
      record { number_is = t.number_is; stage_is = t.stage_is; later = t.later; items_are = t.items_are; tells = oldest_on seen t.later place.items now.items t.items_are is.tells }

  -- the attempt wasn't ended
  pub turn_once : (next : ℕ) (id : TxnId) (b : Ballot) (seen : Seen) (place now : Place) → ((turn : Turn) → turn_in plan place ≡ Some turn → turn.id ≡ id)
      → TookFirst plan next (Some b) place now → Tells seen now.items → is_ended id b now.items ≡ false → TookTurn plan next seen place now
  turn_once next id b seen place now of_id t tells unended =
      record {
        number_is = t.number_is;
        stage_is = λ turn e.
            t.stage_is turn e
            ∙ ap (λ o. cond o (Repeats turn) (Turns turn.rest)) (ap (λ x. is_ended x b now.items) (of_id turn e) ∙ unended);
        later = t.later;
        items_are = t.items_are;
        tells = all_oldest seen now.items tells;
      }

  -- it was
  pub ended_is_second : (number next : ℕ) (id : TxnId) (txn : ℕ) (b : Ballot) (place now : Place) → IsFirst plan number id txn place
      → TookFirst plan next (Some b) place now → is_ended id b now.items ≡ true → IsSecond next id txn now
  ended_is_second number next id txn b place now f t ended =
      let turn : Turn = record { id = id; step = recover_of id txn; rest = f.rest } in
      record {
        number_is = t.number_is;
        rest = f.rest;
        stage_is = t.stage_is turn f.turn_is ∙ ap (λ o. cond o (Repeats turn) (Turns f.rest)) ended;
      }

  pub turn_twice : (next last_number : ℕ) (id : TxnId) (b : Ballot) (seen : Seen) (place now last : Place) → ((turn : Turn) → turn_in plan place ≡ Some turn → turn.id ≡ id)
      → TookFirst plan next (Some b) place now → Tells seen now.items → is_ended id b now.items ≡ true → TookSecond last_number now last
      → TookTurn plan last_number seen place last
  turn_twice next last_number id b seen place now last of_id one tells ended two =
      record {
        number_is = two.number_is;
        stage_is = λ turn e.
            two.stage_is turn
            (one.stage_is turn e ∙ ap (λ o. cond o (Repeats turn) (Turns turn.rest)) (ap (λ x. is_ended x b now.items) (of_id turn e) ∙ ended));
        later = two.later ++ one.later;
        items_are = two.items_are ∙ ap (λ l. two.later ++ l) one.items_are ∙ sym (append_assoc two.later one.later place.items);
        tells = oldest_on seen two.later now.items last.items two.items_are (all_oldest seen now.items tells);
      }

  -- ---- the turns that are left

  abbrev ids_of : List (TxnId × ℕ) → List TxnId
  ids_of left = map (λ (one : TxnId × ℕ). one.0) left

  -- what the next transaction's turn is, where it has this number
  turn_step_is : (items : List Item) (id : TxnId) (txn : ℕ) → txn_of items id ≡ Some txn
      → turn_step (cluster_of plan) items id ≡ recover_unless (all_took_apply (cluster_of plan) items id (slice_get plan.bodies txn)) id txn
  turn_step_is items id txn is = ap (turn_at (cluster_of plan) items id) is

  pub passed_over : (number : ℕ) (id : TxnId) (txn : ℕ) (left : List (TxnId × ℕ)) (seen looked : Seen) (place : Place)
      → IsLeft plan number ((id, txn) ∷ left) seen place → Tells looked place.items
      → not (all_took_apply (cluster_of plan) place.items id (slice_get plan.bodies txn)) ≡ false → IsLeft plan number left looked place
  passed_over number id txn left seen looked place is tells all =
      record {
        number_is = is.number_is;
        ids = is.ids;
        stage_is = is.stage_is;
        same =
            is.same
            ∙ ap (λ o. turn_or o id (ids_of left) (next_turn (cluster_of plan) place.items (ids_of left)))
            (turn_step_is place.items id txn is.numbers.0 ∙ ap (λ o. recover_unless o id txn) (took _ all));
        numbers = is.numbers.1;
        tells = all_oldest looked place.items tells;
      }
    where
      took : (o : Bool) → not o ≡ false → o ≡ true
      took true e = refl
      took false e = sym e

  pub turn_comes : (number : ℕ) (id : TxnId) (txn : ℕ) (left : List (TxnId × ℕ)) (seen looked : Seen) (place : Place)
      → IsLeft plan number ((id, txn) ∷ left) seen place → Tells looked place.items
      → not (all_took_apply (cluster_of plan) place.items id (slice_get plan.bodies txn)) ≡ true
      → (turn_in plan place ≡ Some (record { id = id; step = recover_of id txn; rest = ids_of left })) × IsTurnOf plan number id txn looked place
  turn_comes number id txn left seen looked place is tells lacks =
      let turn : Turn = record { id = id; step = recover_of id txn; rest = ids_of left } in
      let turn_is : turn_in plan place ≡ Some turn =
      ap (turn_in_stage plan place.items) is.stage_is ∙ is.same
      ∙ ap (λ o. turn_or o id (ids_of left) (next_turn (cluster_of plan) place.items (ids_of left)))
      (turn_step_is place.items id txn is.numbers.0 ∙ ap (λ o. recover_unless o id txn) (lacking _ lacks)) in
      (turn_is, record { first = record { number_is = is.number_is; rest = ids_of left; turn_is = turn_is }; tells = all_oldest looked place.items tells })
    where
      lacking : (o : Bool) → not o ≡ true → o ≡ false
      lacking true e = sym e
      lacking false e = refl

  pub turn_taken : (number : ℕ) (id : TxnId) (txn : ℕ) (left : List (TxnId × ℕ)) (seen : Seen) (place now : Place)
      → turn_in plan place ≡ Some (record { id = id; step = recover_of id txn; rest = ids_of left })
      → AllByRecursion (λ (one : TxnId × ℕ). txn_of place.items one.0 ≡ Some one.1) left → TookTurn plan number seen place now → IsLeft plan number left seen now
  turn_taken number id txn left seen place now is numbers t =
      record {
        number_is = t.number_is;
        ids = ids_of left;
        stage_is = t.stage_is (record { id = id; step = recover_of id txn; rest = ids_of left }) is;
        same = refl;
        numbers = still left numbers;
        tells = t.tells;
      }
    where
      still : (left : List (TxnId × ℕ)) → AllByRecursion (λ (one : TxnId × ℕ). txn_of place.items one.0 ≡ Some one.1) left
          → AllByRecursion (λ (one : TxnId × ℕ). txn_of now.items one.0 ≡ Some one.1) left
      still [] h = tt
      still (one ∷ left) h =
          (txn_still one.0 place.items now.items one.1 (subst (IsPast place.items) (sym t.items_are) (append_is_past t.later place.items)) h.0, still left h.1)

  pub none_left : (number : ℕ) (seen : Seen) (place : Place) → IsLeft plan number [] seen place → IsOver plan place
  none_left number seen place is =
      ap (λ stage. due (cluster_of plan) stage place.items) is.stage_is ∙ ap (option_map (λ (turn : Turn). turn.step)) is.same
