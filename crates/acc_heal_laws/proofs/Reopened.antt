-- The reopening of a healing in which nobody goes down: after it and its drain all actors are up, and each message is through.
use Rattle.std.proofs.Common.{◌≡◌, ℕ, ◌+◌, ◌<◌, Bool, true, false, not, ◌&&◌, ◌||◌, cond, List, [], ◌∷◌, ◌++◌, length, Option, None, Some, refl, sym, ◌∙◌, ap, subst, arith, ◌⊎◌, inl, inr, ⊎_elim}
use Rattle.std.specs.List.{filter_map, cons_option}
use Rattle.std.specs.Prelude.{nat_lt, Contains, if◌then◌else◌}
use Rattle.std.proofs.lemmas.Bool.{true≢false, and_parts, cases_Bool}
use Rattle.acc_stamp.specs.declared.stamps.TxnId.{TxnId}
use Rattle.acc_stamp.specs.declared.actors.Actor.{Actor}
use Rattle.acc_stamp.specs.Rising.{rising_with, rising_union}
use Rattle.acc_topology.specs.Sets.{is_among}
use Rattle.acc_message.specs.declared.message.Message.{Message}
use Rattle.acc_message.specs.declared.entry.Event.{Event}
use Rattle.acc_message.specs.declared.entry.Event.TheVariants.{Restart as RestartEvent}
use Rattle.acc_message.specs.declared.item.Item.{Item}
use Rattle.acc_message.specs.Fields.{to_of}
use Rattle.acc_message.specs.Items.{sent_of, message_at, same_actor}
use Rattle.acc_message.specs.Run.{Cluster, is_node, is_down}
use Rattle.acc_safety.specs.Places.{IsIn, First, Later, IsPast}
use Rattle.acc_safety.specs.Valid.{IsStanding}
use Rattle.acc_safety.proofs.PlaceOrder.{IsPast-trans, IsIn-cases, IsIn-filter_map, Contains-IsIn}
use Rattle.acc_safety.proofs.Bridge.{same_itself}
use Rattle.acc_schedule.specs.declared.plan.Step.{Step}
use Rattle.acc_schedule.specs.declared.plan.Step.TheVariants.{Begin, Deliver, Drop, Recover, Slow, Restart, Fail, Drain}
use Rattle.acc_schedule.specs.Actors.{actors}
use Rattle.acc_schedule.specs.Content.{Content}
use Rattle.acc_schedule_runs.specs.Situations.{Situation, whole}
use Rattle.acc_schedule_runs.specs.Moves.{Answers, fails_in, entered, entered_all, with_kept, kept_if, reopened, restarted_if, IsNext}
use Rattle.acc_schedule_runs.specs.Schedules.{cluster_of}
use Rattle.acc_schedule_runs.specs.Laws.{NobodyIsDown}
use Rattle.acc_pasts.proofs.Situations.{whole_alone}
use Rattle.acc_heal_laws.specs.Stages.{Reopens, Turns, actor_lt, actors_rising, is_armed, step_of_armed, calls_let_pass, reopening_step, reopening, begun_ids, due}
use Rattle.acc_heal_laws.specs.Healings.{Standing, Moving, standing_after, Goes, moving_with}
use Rattle.acc_heal_laws.proofs.Growing.{GoesTo, stays_there, goes_trans, next_goes}
use Rattle.acc_heal_laws.proofs.Recovers.{IsReopen, AddsFew, few_chain, drain_few, reopen_few}
use Rattle.acc_heal_laws.proofs.Delivering.{no_down, IsSane, Through, drained, all_through}

-- ---- lists

lt_number : (n k : ℕ) → nat_lt n k ≡ false → nat_lt k n ≡ false → n ≡ k
lt_number n k f g = grind arith

with_itself : (a b : Actor) (xs : List Actor) → IsIn a xs → IsIn a (rising_with actor_lt b xs)
with_itself a b (x ∷ xs) there = by (actor_lt b x) (actor_lt x b) (IsIn-cases a x xs there) (with_itself a b xs)
  where
    by : (o p : Bool) → (a ≡ x) ⊎ IsIn a xs → (IsIn a xs → IsIn a (rising_with actor_lt b xs))
        → IsIn a (if o then b ∷ x ∷ xs else (if p then x ∷ rising_with actor_lt b xs else x ∷ xs))
    by true p (inl is) rest = Later a b (x ∷ xs) (subst (λ k. IsIn k (x ∷ xs)) (sym is) (First x xs))
    by true p (inr more) rest = Later a b (x ∷ xs) (Later a x xs more)
    by false true (inl is) rest = subst (λ k. IsIn k (x ∷ rising_with actor_lt b xs)) (sym is) (First x (rising_with actor_lt b xs))
    by false true (inr more) rest = Later a x (rising_with actor_lt b xs) (rest more)
    by false false (inl is) rest = subst (λ k. IsIn k (x ∷ xs)) (sym is) (First x xs)
    by false false (inr more) rest = Later a x xs more
with_itself a b [] there = elim there [ ]

with_first : (b : Actor) (xs : List Actor) → IsIn b (rising_with actor_lt b xs)
with_first b [] = First b []
with_first b (x ∷ xs) = by (actor_lt b x) (actor_lt x b) refl refl (with_first b xs)
  where
    number_is : {c d : Actor} → c.0 ≡ d.0 → c ≡ d
    number_is p = λ i. record { 0 = p i }

    by : (o p : Bool) → actor_lt b x ≡ o → actor_lt x b ≡ p → IsIn b (rising_with actor_lt b xs)
        → IsIn b (if o then b ∷ x ∷ xs else (if p then x ∷ rising_with actor_lt b xs else x ∷ xs))
    by true p f g rest = First b (x ∷ xs)
    by false true f g rest = Later b x (rising_with actor_lt b xs) rest
    by false false f g rest = subst (λ k. IsIn k (x ∷ xs)) (sym (number_is (lt_number b.0 x.0 f g))) (First x xs)

pub union_all : (a : Actor) (ys : List Actor) → IsIn a ys → IsIn a (rising_union actor_lt [] ys)
union_all a [] there = elim there [ ]
union_all a (y ∷ ys) there =
    ⊎_elim (λ is. subst (λ k. IsIn k (rising_with actor_lt y (rising_union actor_lt [] ys))) (sym is) (with_first y (rising_union actor_lt [] ys)))
    (λ more. with_itself a y (rising_union actor_lt [] ys) (union_all a ys more)) (IsIn-cases a y ys there)

pub mapped_in : (f : Actor → Option Step) (a : Actor) (step : Step) (xs : List Actor) → IsIn a xs → f a ≡ Some step → IsIn step (filter_map f xs)
mapped_in f a step [] there is = elim there [ ]
mapped_in f a step (x ∷ xs) there is =
    ⊎_elim (λ here. subst (λ o. IsIn step (cons_option o (filter_map f xs))) (sym (ap f (sym here) ∙ is)) (First step (filter_map f xs)))
    (λ more. by (f x) (mapped_in f a step xs more is)) (IsIn-cases a x xs there)
  where
    by : (o : Option Step) → IsIn step (filter_map f xs) → IsIn step (cons_option o (filter_map f xs))
    by None h = h
    by (Some k) h = Later step k (filter_map f xs) h

-- ---- steps of a reopening

armed_reopens : (a : Actor) → IsReopen (step_of_armed a)
armed_reopens a = by (is_node a)
  where
    by : (o : Bool) → IsReopen (cond o (Fail a calls_let_pass) (Restart a 0))
    by true = tt
    by false = tt

step_reopens : (steps : List Step) (items : List Item) (a : Actor) (step : Step) → reopening_step steps items a ≡ Some step → IsReopen step
step_reopens steps items a step is = by (is_down a items) (is_armed steps a) is
  where
    same_step : {j k : Step} → Some j ≡ Some k → j ≡ k
    same_step e = cc

    none_step : {k : Step} → None ≡ Some k → ⊥
    none_step e = cc

    by : (o p : Bool) → cond o (Some (Restart a 0)) (cond p (Some (step_of_armed a)) None) ≡ Some step → IsReopen step
    by true p e = subst IsReopen (same_step e) tt
    by false true e = subst IsReopen (same_step e) (armed_reopens a)
    by false false e = absurd (none_step e)

pub each_reopens : (plan : Content) (items : List Item) (step : Step) → IsIn step (reopening plan items) → IsReopen step
each_reopens plan items step there =
    let k = IsIn-filter_map (reopening_step plan.steps items) step (actors_rising plan.topology) there in step_reopens plan.steps items k.source step k.gives

-- who is down is reopened
pub down_is_reopened : (plan : Content) (items : List Item) (a : Actor) → Contains (actors plan.topology) a → is_down a items ≡ true → IsIn (Restart a 0) (reopening plan items)
down_is_reopened plan items a there down =
    mapped_in (reopening_step plan.steps items) a (Restart a 0) (actors_rising plan.topology) (union_all a (actors plan.topology) (Contains-IsIn a (actors plan.topology) there))
    (ap (λ o. cond o (Some (Restart a 0)) (cond (is_armed plan.steps a) (Some (step_of_armed a)) None)) down)

-- ---- who is up

-- an entry takes nobody down
kept_down : (cluster : Cluster) (c a : Actor) (s : Situation) (event : Event) (lost : Bool) → is_down c (entered cluster s a event lost).own ≡ true → is_down c s.own ≡ true
kept_down cluster c a s event lost h = (and_parts (is_down c s.own) (not (same_actor a c) || lost) h).0

restarted_up : (cluster : Cluster) (c a : Actor) (s : Situation) (event : Event) → a ≡ c → is_down c (entered cluster s a event false).own ≡ false
restarted_up cluster c a s event actor_is =
    ap (λ o. is_down c s.own && (not o || false)) (subst (λ k. same_actor k c ≡ true) (sym actor_is) (same_itself c)) ∙ none (is_down c s.own)
  where
    none : (o : Bool) → (o && false) ≡ false
    none true = refl
    none false = refl

kept_before : (cluster : Cluster) (c a : Actor) (s : Situation) (events : List Event) (lost : Bool) → is_down c (entered_all cluster s a events lost).own ≡ true → is_down c s.own ≡ true
kept_before cluster c a s [] lost h = h
kept_before cluster c a s (event ∷ events) lost h =
    kept_down cluster c a s event lost (kept_before cluster c a (entered cluster s a event lost) events lost h)

-- a healing adds to its items
pub goes_goes : (plan : Content) (answers : Answers) (number : ℕ) (steps : List Step) (from to : Standing Situation) → Goes (moving_with plan answers) number steps from to
    → GoesTo from.at to.at
goes_goes plan answers number [] from to g = subst (GoesTo from.at) (sym (ap (λ (k : Standing Situation). k.at) g)) (stays_there from.at)
goes_goes plan answers number (step ∷ steps) from to g =
    goes_trans from.at g.0 to.at (next_goes (cluster_of plan) answers number step from.at g.0 g.2)
    (goes_goes plan answers (number + 1) steps (standing_after (moving_with plan answers) from g.0) to g.3)

module _ (plan : Content) (answers : Answers) (bound final later : List Item) (final_is : final ≡ later ++ bound) (nobody : NobodyIsDown later) (standing : IsStanding (cluster_of plan) final)
    (receivers : (items : List Item) (number : ℕ) (m : Message) → IsStanding (cluster_of plan) items → message_at items number ≡ Some m → Contains (actors plan.topology) (to_of m)) where
  abbrev cluster : Cluster
  cluster = cluster_of plan

  abbrev pub moving : Moving Situation
  moving = moving_with plan answers

  abbrev Pending : List Step → Situation → Type 0
  Pending todo s = (a : Actor) → Contains (actors plan.topology) a → is_down a s.own ≡ true → IsIn (Restart a 0) todo

  -- ---- one step of the reopening

  no_restart : (a actor : Actor) (calls : ℕ) → Restart a 0 ≡ Fail actor calls → ⊥
  no_restart a actor calls e = cc

  same_restart : (a actor : Actor) (choice : ℕ) → Restart a 0 ≡ Restart actor choice → actor ≡ a
  same_restart a actor choice e = cc

  reopened_by : (s next : Situation) (actor : Actor) (choice : ℕ) (todo : List Step) → IsPast bound s.own → IsPast next.own final → Pending (Restart actor choice ∷ todo) s
      → (o : Bool) → next ≡ restarted_if o cluster answers s actor → Pending todo next
  reopened_by s next actor choice todo behind inside pending true is a there down =
      absurd (no_down cluster bound final later final_is nobody standing receivers s.own actor behind (subst (λ (k : Situation). IsPast k.own final) is inside))
  reopened_by s next actor choice todo behind inside pending false is a there down =
      let kept : List Event = kept_if (answers.keeps (length s.own)) actor s in
      let now : is_down a (reopened cluster s actor kept).own ≡ true = subst (λ (k : Situation). is_down a k.own ≡ true) is down in
      ⊎_elim
      (λ here. absurd (true≢false (sym now ∙ restarted_up cluster a actor (with_kept cluster s actor kept) (RestartEvent (length kept)) (same_restart a actor choice here))))
      (λ more. more)
      (IsIn-cases (Restart a 0) (Restart actor choice) todo
      (pending a there (kept_before cluster a actor s kept true (kept_down cluster a actor (with_kept cluster s actor kept) (RestartEvent (length kept)) false now))))

  next_pending : (number : ℕ) (step : Step) (s next : Situation) (todo : List Step) → IsReopen step → IsNext cluster answers number step s next → IsPast bound s.own
      → IsPast next.own final → Pending (step ∷ todo) s → Pending todo next
  next_pending number (Restart actor choice) s next todo reopen is behind inside pending =
      reopened_by s next actor choice todo behind inside pending (fails_in answers s) is
  next_pending number (Fail actor calls) s next todo reopen is behind inside pending =
      λ a there down. ⊎_elim (λ here. absurd (no_restart a actor calls here)) (λ more. more)
      (IsIn-cases (Restart a 0) (Fail actor calls) todo (pending a there (subst (λ (k : Situation). is_down a k.own ≡ true) is down)))
  next_pending number (Begin txn) s next todo reopen is behind inside pending = absurd reopen
  next_pending number (Deliver message) s next todo reopen is behind inside pending = absurd reopen
  next_pending number (Drop message) s next todo reopen is behind inside pending = absurd reopen
  next_pending number (Recover txn node) s next todo reopen is behind inside pending = absurd reopen
  next_pending number (Slow txn) s next todo reopen is behind inside pending = absurd reopen
  next_pending number Drain s next todo reopen is behind inside pending = absurd reopen

  -- ---- the whole of it

  -- the turns begin here, where all is quiet
  pub record TurnsBegin (to : Standing Situation) : Type 0 where
    pub number : ℕ
    pub steps : List Step
    pub quiet : Situation
    pub goes : Goes moving number steps (record { stage = Turns (begun_ids quiet.own); at = quiet }) to
    pub sane : IsSane cluster bound final later final_is nobody standing receivers quiet
    pub through : Through cluster bound final later final_is nobody standing receivers quiet (length (sent_of quiet.own))
    pub behind : IsPast bound quiet.own
    pub few : (x : TxnId) → AddsFew x 0 bound quiet.own

  no_step : (step : Step) → Some step ≡ None → ⊥
  no_step step e = cc

  same_step : (step other : Step) → Some step ≡ Some other → step ≡ other
  same_step step other e = cc

  pub reopens : (todo : List Step) (number : ℕ) (steps : List Step) (s : Situation) (to : Standing Situation) → ((step : Step) → IsIn step todo → IsReopen step)
      → s.earlier ≡ [] → ((n : ℕ) → is_among s.dropped n ≡ true → n < length (sent_of s.own)) → Pending todo s → IsPast bound s.own → IsPast to.at.own final
      → ((x : TxnId) → AddsFew x 0 bound s.own) → Goes moving number steps (record { stage = Reopens todo; at = s }) to → due cluster to.stage (whole to.at) ≡ None → TurnsBegin to
  reopens [] number [] s to each earlier drops pending behind inside few g done =
      absurd (no_step Drain (subst (λ (k : Standing Situation). due cluster k.stage (whole k.at) ≡ None) g done))
  reopens (r ∷ todo) number [] s to each earlier drops pending behind inside few g done =
      absurd (no_step r (subst (λ (k : Standing Situation). due cluster k.stage (whole k.at) ≡ None) g done))
  reopens [] number (step ∷ steps) s to each earlier drops pending behind inside few g done =
      let next : Situation = g.0 in
      let is_next : IsNext cluster answers number Drain s next = subst (λ k. IsNext cluster answers number k s next) (sym (same_step Drain step g.1)) g.2 in
      let sane : IsSane cluster bound final later final_is nobody standing receivers s = record {
        earlier_is = earlier;
        up = λ a there. nobody_left a there (cases_Bool (is_down a s.own));
        drops = drops;
      } in
      let next_inside : IsPast next.own final = IsPast-trans next.own to.at.own final (goes_goes plan answers (number + 1) steps (standing_after moving (record { stage = Reopens []; at = s }) next) to g.3).grows inside in
      let d = drained cluster bound final later final_is nobody standing receivers answers 0 next s is_next sane (λ n low. absurd (never low)) (omega arith) behind next_inside in
      record {
        number = number + 1;
        steps = steps;
        quiet = next;
        goes =
            subst (λ l. Goes moving (number + 1) steps (record { stage = Turns (begun_ids l); at = next }) to) (whole_alone next d.sane.earlier_is) g.3;
        sane = d.sane;
        through = all_through cluster bound final later final_is nobody standing receivers next d.sane next_inside d.none;
        behind = IsPast-trans bound s.own next.own behind (next_goes cluster answers number Drain s next is_next).grows;
        few = λ x. few_chain x 0 0 bound s.own next.own (few x) (drain_few x cluster answers next s is_next);
      }
    where
      never : {n : ℕ} → n < 0 → ⊥
      never h = omega (arith, h)

      nobody_left : (a : Actor) → Contains (actors plan.topology) a → (is_down a s.own ≡ true) ⊎ (is_down a s.own ≡ false) → is_down a s.own ≡ false
      nobody_left a there (inl down) = elim (pending a there down) [ ]
      nobody_left a there (inr up) = up
  reopens (r ∷ todo) number (step ∷ steps) s to each earlier drops pending behind inside few g done =
      let next : Situation = g.0 in
      let is_next : IsNext cluster answers number r s next = subst (λ k. IsNext cluster answers number k s next) (sym (same_step r step g.1)) g.2 in
      let one = next_goes cluster answers number r s next is_next in
      let next_inside : IsPast next.own final = IsPast-trans next.own to.at.own final (goes_goes plan answers (number + 1) steps (standing_after moving (record { stage = Reopens (r ∷ todo); at = s }) next) to g.3).grows inside in
      reopens todo (number + 1) steps next to (λ k there. each k (Later k r todo there)) (one.earlier_is ∙ earlier) (one.drops drops)
      (next_pending number r s next todo (each r (First r todo)) is_next behind next_inside pending)
      (IsPast-trans bound s.own next.own behind one.grows) inside
      (λ x. few_chain x 0 0 bound s.own next.own (few x) (reopen_few x cluster answers number r s next (each r (First r todo)) is_next)) g.3 done
