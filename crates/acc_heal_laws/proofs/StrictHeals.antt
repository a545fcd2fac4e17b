-- Over strict disks nobody goes down in a healing, and nothing is lost.
use Rattle.std.proofs.Common.{◌≡◌, ℕ, ◌+◌, ◌*◌, ◌/◌, ◌<◌, ◌≤◌, Bool, true, false, ◌||◌, cond, List, [], ◌∷◌, length, Option, None, Some, refl, sym, ◌∙◌, ap, subst, arith, ◌⊎◌, inl, inr, ⊎_elim}
use Rattle.std.specs.List.{AllByRecursion}
use Rattle.std.specs.Prelude.{Contains}
use Rattle.std.proofs.lemmas.Bool.{true≢false, or_cases}
use Rattle.acc_stamp.specs.declared.actors.Actor.{Actor}
use Rattle.acc_stamp.specs.Actor.{actor_of}
use Rattle.acc_message.specs.declared.entry.Event.{Event}
use Rattle.acc_message.specs.declared.entry.Event.TheVariants.{Begin as BeginEvent, Recover as RecoverEvent, Slow as SlowEvent, Message as MessageEvent}
use Rattle.acc_message.specs.declared.item.Item.{Item}
use Rattle.acc_message.specs.declared.item.Skip.{Skip}
use Rattle.acc_message.specs.Items.{same_actor}
use Rattle.acc_message.specs.Run.{Cluster, is_node, is_down}
use Rattle.acc_run_laws.specs.Asks.{home_of_txn}
use Rattle.acc_safety.specs.Places.{IsIn, First, Later}
use Rattle.acc_safety.proofs.Bridge.{same, same_itself}
use Rattle.acc_safety.proofs.PlaceOrder.{IsIn-cases, IsIn-filter_map, Contains-IsIn}
use Rattle.acc_payloads.specs.Appends.{after_append}
use Rattle.acc_schedule.specs.declared.plan.Step.{Step}
use Rattle.acc_schedule.specs.declared.plan.Step.TheVariants.{Begin, Deliver, Drop, Recover, Slow, Restart, Fail, Drain}
use Rattle.acc_schedule.specs.Actors.{actors}
use Rattle.acc_schedule.specs.Content.{Content}
use Rattle.acc_schedule.specs.Plan.{IsPlan, IsStep}
use Rattle.acc_schedule_runs.specs.Situations.{whole, receiver_in}
use Rattle.acc_schedule_runs.specs.Moves.{is_journalled, begin_skip, recover_skip, slowing_skip, deliver_skip}
use Rattle.acc_schedule_runs.specs.Schedules.{cluster_of}
use Rattle.acc_schedule_runs.specs.Laws.{IsStepOf}
use Rattle.acc_schedule_runs.specs.Disks.{Disks, after_step, after_fail, after_restart, step_answers}
use Rattle.acc_schedule_runs.specs.StrictMoves.{StrictSituation, opened_strictly, stepped_strictly, tried_strictly, StrictDrains, stops, delivers, IsStrictNext}
use Rattle.acc_schedule_runs.specs.StrictSchedules.{FollowsStrictly}
use Rattle.acc_schedule_runs.specs.StrictLaws.{after_steps, no_faults}
use Rattle.acc_schedule_runs.proofs.Answering.{next_answered}
use Rattle.acc_schedule_runs.proofs.GivesRuns.{Sound, sound_next, sound_run}
use Rattle.acc_heal_laws.specs.Stages.{Reopens, Turns, fails, is_armed, calls_let_pass, step_of_armed, actors_rising, reopening_step, reopening, begun_ids}
use Rattle.acc_heal_laws.specs.Healings.{Standing, Goes, moving_strictly}
use Rattle.acc_heal_laws.specs.Laws.{HealingHeals, StrictDisksHeal}
use Rattle.acc_heal_laws.proofs.HealingTurns.{between_sound}
use Rattle.acc_heal_laws.proofs.Reopened.{union_all, mapped_in, down_is_reopened}
use Rattle.acc_heal_laws.proofs.StrictGoing.{strict_healings_are_answered}
use Rattle.acc_heal_laws.proofs.StrictDisks.{IsFine, AreFine, most_recovers, restart_fine, arm_fine}
use Rattle.acc_heal_laws.proofs.StrictAdds.{Adds, adds_same, adds_chain, drain, restart_adds}
use Rattle.acc_heal_laws.proofs.StrictWalk.{few_turns, turns_add}

-- ---- who was never named is never armed

either_none : (test : Bool) (one other : Option ℕ) → (test ≡ true → one ≡ None) → other ≡ None → cond test one other ≡ None
either_none true one other a b = a refl
either_none false one other a b = b

module _ (cluster : Cluster) (a : Actor) where
  abbrev IsUnarmed : StrictSituation → Type 0
  IsUnarmed s = s.disks.armed a ≡ None

  step_unarmed : (test : Bool) (b : Actor) (d : Disks) → d.armed a ≡ None → (after_step test b d).armed a ≡ None
  step_unarmed true b d none =
      either_none (same_actor a b) (after_append (d.armed b)) (d.armed a)
      (λ here. ap (λ k. after_append (d.armed k)) (sym (same a b here)) ∙ ap after_append none) none
  step_unarmed false b d none = none

  stepped_unarmed : (skip : Option Skip) (number : ℕ) (s : StrictSituation) (b : Actor) (event : Event) → IsUnarmed s
      → IsUnarmed (stepped_strictly skip cluster number s b event)
  stepped_unarmed (Some cause) number s b event none = none
  stepped_unarmed None number s b event none = step_unarmed (is_journalled b event) b s.disks none

  drained_unarmed : (last s : StrictSituation) → StrictDrains cluster last s → IsUnarmed s → IsUnarmed last
  drained_unarmed last s (stops _ nothing is) none = subst IsUnarmed (sym is) none
  drained_unarmed last s (delivers _ n oldest rest) none =
      let b : Actor = receiver_in s.found n in
      drained_unarmed last (tried_strictly cluster s b (MessageEvent n)) rest (step_unarmed (is_journalled b (MessageEvent n)) b s.disks none)

  next_unarmed : (number : ℕ) (step : Step) (s next : StrictSituation) → fails a step ≡ false → IsStrictNext cluster number step s next → IsUnarmed s → IsUnarmed next
  next_unarmed number (Begin txn) s next other is none =
      subst IsUnarmed (sym is) (stepped_unarmed (begin_skip cluster s.found txn) number s (home_of_txn cluster txn) (BeginEvent txn) none)
  next_unarmed number (Deliver message) s next other is none =
      subst IsUnarmed (sym is) (stepped_unarmed (deliver_skip s.found message) number s (receiver_in s.found message) (MessageEvent message) none)
  next_unarmed number (Drop message) s next other is none = subst IsUnarmed (sym is) none
  next_unarmed number (Recover txn node) s next other is none =
      subst IsUnarmed (sym is) (stepped_unarmed (recover_skip s.found txn node) number s (actor_of node 0) (RecoverEvent txn) none)
  next_unarmed number (Slow txn) s next other is none =
      subst IsUnarmed (sym is) (stepped_unarmed (slowing_skip cluster s.found txn) number s (home_of_txn cluster txn) (SlowEvent txn) none)
  next_unarmed number (Restart b choice) s next other is none =
      subst IsUnarmed (sym is) (either_none (same_actor a b) None (s.disks.armed a) (λ here. refl) none)
  next_unarmed number (Fail b calls) s next other is none =
      subst IsUnarmed (sym is)
      (either_none (same_actor a b) (Some calls) (s.disks.armed a)
      (λ here. absurd (true≢false (sym (ap (λ k. same_actor k a) (sym (same a b here)) ∙ same_itself a) ∙ other))) none)
  next_unarmed number Drain s next other is none = drained_unarmed next s is none

  follows_unarmed : (number : ℕ) (steps : List Step) (s last : StrictSituation) → is_armed steps a ≡ false → FollowsStrictly cluster number steps s last
      → IsUnarmed s → IsUnarmed last
  follows_unarmed number [] s last none is unarmed = subst IsUnarmed (sym is) unarmed
  follows_unarmed number (step ∷ steps) s last none follows unarmed =
      let k = neither (fails a step) (is_armed steps a) none in
      follows_unarmed (number + 1) steps follows.0 last k.1 follows.2 (next_unarmed number step s follows.0 k.0 follows.1 unarmed)
    where
      neither : (o p : Bool) → (o || p) ≡ false → (o ≡ false) × (p ≡ false)
      neither true p h = absurd (true≢false h)
      neither false p h = (refl, h)

-- who is named is an actor of the layout
named_known : (plan : Content) (a : Actor) (steps : List Step) → AllByRecursion (IsStep (length plan.names) plan.topology) steps → is_armed steps a ≡ true
    → Contains (actors plan.topology) a
named_known plan a [] known h = absurd (true≢false (sym h))
named_known plan a (step ∷ steps) known h =
    ⊎_elim (λ here. by step known.0 here) (λ more. named_known plan a steps known.1 more) (or_cases (fails a step) (is_armed steps a) h)
  where
    by : (k : Step) → IsStep (length plan.names) plan.topology k → fails a k ≡ true → Contains (actors plan.topology) a
    by (Fail b calls) is here = subst (Contains (actors plan.topology)) (same b a here) is.0
    by (Begin txn) is here = absurd (true≢false (sym here))
    by (Deliver message) is here = absurd (true≢false (sym here))
    by (Drop message) is here = absurd (true≢false (sym here))
    by (Recover txn node) is here = absurd (true≢false (sym here))
    by (Slow txn) is here = absurd (true≢false (sym here))
    by (Restart b choice) is here = absurd (true≢false (sym here))
    by Drain is here = absurd (true≢false (sym here))

-- ---- the reopening

-- a step of it keeps nothing, or arms a node that is up
abbrev IsOpening : Step → Type 0
IsOpening (Restart a choice) = choice ≡ 0
IsOpening (Fail a calls) = (calls ≡ calls_let_pass) × (is_node a ≡ true)
IsOpening _ = ⊥

some_step : {j k : Step} → Some j ≡ Some k → j ≡ k
some_step e = cc

armed_opens : (a : Actor) → IsOpening (step_of_armed a)
armed_opens a = by (is_node a) refl
  where
    by : (o : Bool) → is_node a ≡ o → IsOpening (cond o (Fail a calls_let_pass) (Restart a 0))
    by true node = (refl, node)
    by false store = refl

each_opens : (plan : Content) (items : List Item) (step : Step) → IsIn step (reopening plan items) → IsOpening step
each_opens plan items step there =
    let k = IsIn-filter_map (reopening_step plan.steps items) step (actors_rising plan.topology) there in
    by k.source (is_down k.source items) (is_armed plan.steps k.source) k.gives
  where
    none_step : {k : Step} → None ≡ Some k → ⊥
    none_step e = cc

    by : (a : Actor) (o p : Bool) → cond o (Some (Restart a 0)) (cond p (Some (step_of_armed a)) None) ≡ Some step → IsOpening step
    by a true p e = subst IsOpening (some_step e) refl
    by a false true e = subst IsOpening (some_step e) (armed_opens a)
    by a false false e = absurd (none_step e)

-- the actor's own step is still to come
abbrev IsOwed : Actor → List Step → Type 0
IsOwed a todo = IsIn (Restart a 0) todo ⊎ ((is_node a ≡ true) × IsIn (Fail a calls_let_pass) todo)

module _ (plan : Content) (is_plan : IsPlan plan) (between : StrictSituation) (follows : FollowsStrictly (cluster_of plan) 0 plan.steps (opened_strictly []) between) where
  abbrev AreReady : List Step → Disks → Type 0
  AreReady todo d = (a : Actor) → IsFine 0 d a ⊎ IsOwed a todo

  ready : AreReady (reopening plan (whole between.found)) between.disks
  ready a = by (is_armed plan.steps a) refl
    where
      todo : Step → Type 0
      todo step = IsIn step (reopening plan (whole between.found))

      named : is_armed plan.steps a ≡ true → Contains (actors plan.topology) a
      named h = named_known plan a plan.steps is_plan.steps_known h

      owed : (step : Step) → step_of_armed a ≡ step → IsIn (step_of_armed a) (reopening plan (whole between.found))
          → IsOwed a (reopening plan (whole between.found))
      owed step is there = of (is_node a) refl there
        where
          of : (o : Bool) → is_node a ≡ o → IsIn (cond o (Fail a calls_let_pass) (Restart a 0)) (reopening plan (whole between.found))
              → IsOwed a (reopening plan (whole between.found))
          of true node h = inr (node, h)
          of false store h = inl h

      up_or_down : (h : is_armed plan.steps a ≡ true) (o : Bool) → is_down a (whole between.found) ≡ o → IsOwed a (reopening plan (whole between.found))
      up_or_down h true down = inl (down_is_reopened plan (whole between.found) a (named h) down)
      up_or_down h false up =
          owed (step_of_armed a) refl
          (mapped_in (reopening_step plan.steps (whole between.found)) a (step_of_armed a) (actors_rising plan.topology)
          (union_all a (actors plan.topology) (Contains-IsIn a (actors plan.topology) (named h)))
          (ap (λ o. cond o (Some (Restart a 0)) (cond (is_armed plan.steps a) (Some (step_of_armed a)) None)) up
          ∙ ap (λ o. cond o (Some (step_of_armed a)) None) h))

      by : (o : Bool) → is_armed plan.steps a ≡ o → IsFine 0 between.disks a ⊎ IsOwed a (reopening plan (whole between.found))
      by true h = inr (up_or_down h (is_down a (whole between.found)) refl)
      by false h = inl (inl (follows_unarmed (cluster_of plan) a 0 plan.steps (opened_strictly []) between h follows refl))

no_restart : (a b : Actor) (calls : ℕ) → Restart a 0 ≡ Fail b calls → ⊥
no_restart a b calls e = cc

no_fail : (a b : Actor) (choice : ℕ) → Fail a calls_let_pass ≡ Restart b choice → ⊥
no_fail a b choice e = cc

same_restart : (a b : Actor) (choice : ℕ) → Restart a 0 ≡ Restart b choice → a ≡ b
same_restart a b choice e = cc

same_fail : (a b : Actor) (calls : ℕ) → Fail a calls_let_pass ≡ Fail b calls → a ≡ b
same_fail a b calls e = cc

module _ (plan : Content) where
  abbrev cluster : Cluster
  cluster = cluster_of plan

  abbrev Ready : List Step → Disks → Type 0
  Ready todo d = (a : Actor) → IsFine 0 d a ⊎ IsOwed a todo

  -- what is left of the actor's step once another's was taken
  left : (a b : Actor) (step : Step) (todo : List Step) → (Restart a 0 ≡ step → a ≡ b) → (Fail a calls_let_pass ≡ step → a ≡ b) → IsOwed a (step ∷ todo)
      → (same_actor a b ≡ true) ⊎ IsOwed a todo
  left a b step todo one two (inl there) =
      ⊎_elim (λ here. inl (subst (λ k. same_actor a k ≡ true) (one here) (same_itself a))) (λ more. inr (inl more)) (IsIn-cases (Restart a 0) step todo there)
  left a b step todo one two (inr there) =
      ⊎_elim (λ here. inl (subst (λ k. same_actor a k ≡ true) (two here) (same_itself a))) (λ more. inr (inr (there.0, more)))
      (IsIn-cases (Fail a calls_let_pass) step todo there.1)

  record Opened (todo : List Step) (s next : StrictSituation) : Type 0 where
    adds : Adds s.found.own next.found.own
    ready : Ready todo next.disks

  opens : (number : ℕ) (step : Step) (todo : List Step) (s next : StrictSituation) → IsOpening step → IsStrictNext cluster number step s next
      → Ready (step ∷ todo) s.disks → Opened todo s next
  opens number (Restart b choice) todo s next none is was =
      record {
        adds = restart_adds cluster s next b choice none is;
        ready = λ a. subst (λ (t : StrictSituation). IsFine 0 t.disks a ⊎ IsOwed a todo) (sym is) (by a (was a));
      }
    where
      by : (a : Actor) → IsFine 0 s.disks a ⊎ IsOwed a (Restart b choice ∷ todo) → IsFine 0 (after_restart b s.disks) a ⊎ IsOwed a todo
      by a (inl fine) = inl (restart_fine 0 s.disks a b (inr fine))
      by a (inr owed) =
          ⊎_elim (λ here. inl (restart_fine 0 s.disks a b (inl here))) (λ more. inr more)
          (left a b (Restart b choice) todo (same_restart a b choice) (λ e. absurd (no_fail a b choice e)) owed)
  opens number (Fail b calls) todo s next spared is was =
      record {
        adds = adds_same s.found.own next.found.own (ap (λ (t : StrictSituation). t.found.own) is);
        ready = λ a.
            subst (λ (t : StrictSituation). IsFine 0 t.disks a ⊎ IsOwed a todo) (sym is)
            (subst (λ k. IsFine 0 (after_fail b k s.disks) a ⊎ IsOwed a todo) (sym spared.0) (by a (was a)));
      }
    where
      by : (a : Actor) → IsFine 0 s.disks a ⊎ IsOwed a (Fail b calls ∷ todo) → IsFine 0 (after_fail b calls_let_pass s.disks) a ⊎ IsOwed a todo
      by a (inl fine) = inl (arm_fine 0 s.disks a b spared.1 (inr fine))
      by a (inr owed) =
          ⊎_elim (λ here. inl (arm_fine 0 s.disks a b spared.1 (inl here))) (λ more. inr more)
          (left a b (Fail b calls) todo (λ e. absurd (no_restart a b calls e)) (same_fail a b calls) owed)
  opens number (Begin txn) todo s next h is was = absurd h
  opens number (Deliver message) todo s next h is was = absurd h
  opens number (Drop message) todo s next h is was = absurd h
  opens number (Recover txn node) todo s next h is was = absurd h
  opens number (Slow txn) todo s next h is was = absurd h
  opens number Drain todo s next h is was = absurd h

  opening_of : (step : Step) → IsOpening step → IsStepOf cluster step
  opening_of (Restart b choice) h = tt
  opening_of (Fail b calls) h = tt
  opening_of (Begin txn) h = absurd h
  opening_of (Deliver message) h = absurd h
  opening_of (Drop message) h = absurd h
  opening_of (Recover txn node) h = absurd h
  opening_of (Slow txn) h = absurd h
  opening_of Drain h = absurd h

  all_fine : (d : Disks) → Ready [] d → AreFine 0 d
  all_fine d was a = ⊎_elim (λ fine. fine) (λ owed. ⊎_elim (λ never. elim never [ ]) (λ never. elim never.1 [ ]) owed) (was a)

  module _ (is_plan : IsPlan plan)
      (law : (a : Actor) (disks : Disks) (calls steps place : ℕ) → steps < calls / 4
      → (step_answers (after_steps steps a (after_fail a calls disks)) a).fails place ≡ false) where
    sound_after : (number : ℕ) (step : Step) (s next : StrictSituation) → IsStepOf cluster step → IsStrictNext cluster number step s next → Sound cluster [] s.found
        → Sound cluster [] next.found
    sound_after number step s next known is sound =
        let one = next_answered cluster no_faults number s next step is in
        sound_next cluster [] one.0 number step s.found next.found known one.2 sound

    same_due : (number : ℕ) (step other : Step) (s next : StrictSituation) → Some other ≡ Some step → IsStrictNext cluster number step s next
        → IsStrictNext cluster number other s next
    same_due number step other s next e is = subst (λ k. IsStrictNext cluster number k s next) (sym (some_step e)) is

    opening_adds : (todo : List Step) (number : ℕ) (steps : List Step) (s : StrictSituation) (to : Standing StrictSituation) → ((step : Step) → IsIn step todo → IsOpening step)
        → Ready todo s.disks → Sound cluster [] s.found → Goes (moving_strictly plan) number steps (record { stage = Reopens todo; at = s }) to
        → Adds s.found.own to.at.found.own
    opening_adds todo number [] s to each was sound g =
        adds_same s.found.own to.at.found.own (ap (λ (k : Standing StrictSituation). k.at.found.own) g)
    opening_adds [] number (step ∷ steps) s to each was sound g =
        let next : StrictSituation = g.0 in
        let is = same_due number step Drain s next g.1 g.2 in
        let one = drain cluster law 0 (omega arith) next s is (all_fine s.disks was) in
        let stands = (sound_run cluster [] next.found (sound_after number Drain s next tt is sound)).stands in
        adds_chain s.found.own next.found.own to.at.found.own one.adds
        (turns_add plan law (number + 1) steps (record { stage = Turns (begun_ids (whole next.found)); at = next }) to 0 tt
        (low (few_turns cluster (whole next.found) stands) is_plan.bodies_as_many is_plan.few) one.fine g.3)
      where
        low : {i j k : ℕ} → i ≤ j → j ≡ k → k ≤ 10000 → 0 + 2 * i ≤ most_recovers
        low p q r = omega (arith, p, q, r)
    opening_adds (r ∷ todo) number (step ∷ steps) s to each was sound g =
        let next : StrictSituation = g.0 in
        let is = same_due number step r s next g.1 g.2 in
        let opening = each r (First r todo) in
        let one = opens number r todo s next opening is was in
        adds_chain s.found.own next.found.own to.at.found.own one.adds
        (opening_adds todo (number + 1) steps next to (λ k there. each k (Later k r todo there)) one.ready
        (sound_after number r s next (opening_of r opening) is sound) g.3)

-- ---- all of it

pub strict_disks_heal :
    ((a : Actor) (disks : Disks) (calls steps place : ℕ) → steps < calls / 4
    → (step_answers (after_steps steps a (after_fail a calls disks)) a).fails place ≡ false)
    → HealingHeals → StrictDisksHeal
strict_disks_heal law heals plan steps between last is_plan h =
    let a = strict_healings_are_answered plan steps between last h in
    let to : Standing StrictSituation = record { stage = h.heals.stage; at = last } in
    let adds =
    opening_adds plan is_plan law (reopening plan (whole between.found)) (length plan.steps) steps between to (each_opens plan (whole between.found))
    (ready plan is_plan between h.follows) (between_sound plan a.0 between.found is_plan a.1.follows) h.heals.goes in
    record {
      later = adds.later;
      items_are = adds.items_are;
      nobody_down = adds.nobody;
      nothing_lost = adds.nothing;
      healed =
          heals plan a.0 steps between.found last.found
          (record { is_plan = is_plan; healing = a.1; later = adds.later; items_are = adds.items_are; nobody_down = adds.nobody });
    }
