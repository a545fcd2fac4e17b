-- Rounds of all actors, with all deliveries after each.
use Rattle.std.proofs.Common.{◌≡◌, ◌⊎◌, ℕ, zero, suc, ◌+◌, ◌<◌, ◌≤◌, Bool, true, false, List, [], ◌∷◌, length, map, Contains, Some, refl, sym, ◌∙◌, ap, subst, arith, ⊎_elim}
use Rattle.std.specs.List.{slice_get, slice_set}
use Rattle.std.proofs.lemmas.Bool.{true≢false}
use mathlib.Core.Logic.{dite}
use native.Mathlib.Decide.{dec_lt}
use Rattle.std.proofs.lemmas.List.Sums.{sum_by-set}
use Rattle.std.proofs.lemmas.Option.{same_Some, slice_get_within, get_or_from_slice_get}
use Rattle.acc_stamp.specs.declared.actors.Actor.{Actor}
use Rattle.acc_ports.specs.declared.disk.Disk.{Ghosts}
use Rattle.acc_message.specs.declared.error.Which.{Which}
use Rattle.acc_message.specs.declared.item.Item.{Item}
use Rattle.acc_message.specs.Items.{same_actor}
use Rattle.acc_message.specs.declared.entry.Event.TheVariants.{Message as MessageEvent}
use Rattle.acc_schedule.specs.Actors.{actors}
use Rattle.acc_schedule.specs.Content.{Content}
use Rattle.acc_schedule.specs.Plan.{IsPlan}
use Rattle.acc_schedule.specs.declared.plan.Step.{Step}
use Rattle.acc_schedule.specs.declared.plan.Step.TheVariants.{Drain}
use Rattle.acc_schedule_runs.specs.Situations.{Situation, NothingWaits, receiver_in}
use Rattle.acc_schedule_runs.specs.Moves.{Answers, tried, Drains}
use Rattle.acc_schedule_runs.specs.Schedules.{cluster_of}
use Rattle.acc_schedule_runs.specs.StrictMoves.{StrictSituation}
use Rattle.acc_schedule_runs.specs.Limits.{EndsAt}
use Rattle.acc_schedule_runs.proofs.Answering.{next_answered}
use Rattle.acc_schedule_runs.specs.Fronts.{DrainsTo, comes, goes_on, Begins}
use Rattle.acc_schedule_runs.proofs.Beginnings.{begins_itself, begins_chain}
use Rattle.acc_schedule_runs.proofs.Reached.{next_adds, comes_adds}
use Rattle.acc_cluster.specs.declared.cluster.Cluster.{Cluster}
use Rattle.acc_cluster.specs.Stands.{StandsFor, StandsStrictly}
use Rattle.acc_cluster.specs.Steps.{change, StepsTo, StepsStrictly, EndsIn, LimitLeaves, EndsStrictlyIn}
use Rattle.acc_cluster.specs.Limits.{HasEntered}
use Rattle.acc_cluster.proofs.Limited.{entered_there}
use Rattle.acc_free_laws.specs.Commands.{IsHeld}
use Rattle.acc_free_laws.specs.Serving.{IsServing, HasGone}
use Rattle.acc_free_ending.specs.declared.rest.Queue.{Queue}
use Rattle.acc_free_ending.specs.Queues.{left_in, actor_in, AreAllActors, HaveGone, AreHeld, count_in, count_left}
use Rattle.acc_free_ending.specs.Moves.{progress, StaysUp, Serves, HasMoved, HasGoneRound, IsEmptied, HasEnded, EachWent, IsFreeFront, StopsFreely}
use Rattle.acc_free_ending.proofs.Steps.{some_answers, same_entered}
use Rattle.acc_free_ending.proofs.Strictly.{up_drained, DeliveryLaw, drained_to}
use Rattle.acc_free_ending.proofs.Lists.{set_cases, each_at_place, contained_at, apart_at, mapped_at, from_map}

-- ---- drains

-- the law of drains
abbrev pub DrainLaw : Type 0
DrainLaw =
    (plan : Content) (answers : Answers) (s next : Situation) → IsPlan plan → Drains (cluster_of plan) answers next s → IsServing plan s
    → IsServing plan next × NothingWaits next × ((a : Actor) (left : List Step) → HasGone plan s a left → HasGone plan next a left)

module _ (plan : Content) (valid : IsPlan plan) where
  -- of a drain that is under way
  part_serves : DeliveryLaw → (answers : Answers) (reached s : Situation) → DrainsTo (cluster_of plan) answers reached s → IsServing plan s
      → IsServing plan reached × ((a : Actor) (left : List Step) → HasGone plan s a left → HasGone plan reached a left)
  part_serves law answers reached s (comes _ is) h =
      subst (λ (t : Situation). IsServing plan t × ((a : Actor) (left : List Step) → HasGone plan s a left → HasGone plan t a left)) (sym is) (h, λ a left gone. gone)
  part_serves law answers reached s (goes_on _ n oldest rest) h =
      let one = law plan answers s n valid oldest.0 h in
      let more = part_serves law answers reached (tried (cluster_of plan) answers s (receiver_in s n) (MessageEvent n)) rest one.0 in
      (more.0, λ a left gone. more.1 a left (one.1 a left gone))

  module _ {D : Type 0} (port : Ghosts D) (strict_run : Bool) (s : Situation) (cluster : Cluster D)
      (serves : Serves port strict_run plan cluster s) where
    abbrev Strictly : (StrictSituation → Type 0) → Type 0
    Strictly P = (t : StrictSituation) → StandsStrictly port plan cluster t → P t

    -- over strict disks
    abbrev there : StaysUp port plan cluster s → StrictSituation
    there up = record { found = s; disks = up.disks }

    -- where the actors were led to
    led_serves : DeliveryLaw → (answers : Answers) (reached : Situation) → (reached ≡ s) ⊎ DrainsTo (cluster_of plan) answers reached s → IsServing plan reached
    led_serves law answers reached =
        ⊎_elim (λ same. subst (IsServing plan) (sym same) serves.serving) (λ comes. (part_serves law answers reached s comes serves.serving).0)

    pub drain_limit : DeliveryLaw → (answers : Answers) (which : Which) (number : ℕ) (new : Cluster D) (e : EndsIn plan answers 0 Drain s which number)
        → LimitLeaves port plan cluster new s e.items e.reached
        → Strictly (λ t. (ends : EndsStrictlyIn plan 0 Drain t which number) × HasEntered new ends.items) → EachWent plan s → StopsFreely port strict_run plan s.own new which number
    drain_limit law answers which number new e leaves strictly each = record {
      items = e.items;
      ends = by strict_run refl;
      reached = e.reached;
      serving = led_serves law e.other e.reached e.led;
      stops = leaves.stops;
    }
      where
        by : (test : Bool) → strict_run ≡ test → EndsAt (IsFreeFront strict_run plan s.own) e.items which number
        by false off =
            let ends = e.ends e.other (λ place below. (refl, refl)) in
            let f = ends.front in
            let part = part_serves law e.other f.0 s f.1 serves.serving in
            record {
              next = ends.next;
              front =
                  record {
                    reached = f.0;
                    serving = part.0;
                    went = λ a member. let h = each a member in (h.0, part.1 a h.0 h.1);
                    behind = comes_adds (cluster_of plan) e.other 0 Drain s f.0 f.1;
                    begins = f.2;
                    stayed = λ on. absurd (true≢false (sym on ∙ off));
                  };
              within = ends.within;
              passed = ends.passed;
            }
        by true on =
            let up = serves.stayed on in
            let said = strictly (there up) (record { stands = serves.stands; strictly = up.strictly }) in
            let told = said.0 in
            let f = told.ends.front in
            let part = drained_to plan valid law f.0 (there up) f.1 serves.serving (record { unarmed = up.unarmed; up = up.up }) in
            let ends : EndsAt (IsFreeFront strict_run plan s.own) told.items which number =
            record {
              next = told.ends.next;
              front =
                  record {
                    reached = f.0.found;
                    serving = part.serving;
                    went = λ a member. let h = each a member in (h.0, part.gone a h.0 h.1);
                    behind = part.behind;
                    begins = f.2;
                    stayed = λ _. part.up.up;
                  };
              within = told.ends.within;
              passed = told.ends.passed;
            } in
            subst (λ (items : List Item). EndsAt (IsFreeFront strict_run plan s.own) items which number)
            (same_entered new told.items e.items said.1 (entered_there port plan new e.items e.reached leaves.stops)) ends

    pub drained : DrainLaw → (answers : Answers) (new : Cluster D) → StepsTo port plan answers 0 Drain (change cluster new) s
        → Strictly (λ t. StepsStrictly port plan 0 Drain new t)
        → IsEmptied port strict_run plan new s
    drained law answers new steps strictly = by strict_run refl
      where
        emptied : (other : Answers) (next : Situation) → Drains (cluster_of plan) other next s → StandsFor port plan new next
            → (strict_run ≡ true → StaysUp port plan new next)
            → IsEmptied port strict_run plan new s
        emptied other next is stands stayed =
            let goes = law plan other s next valid is serves.serving in
            record {
              next = next;
              serves = record { stands = stands; serving = goes.0; stayed = stayed };
              gone = goes.2;
              behind = next_adds (cluster_of plan) other 0 Drain s next is;
              nothing = goes.1;
            }

        by : (test : Bool) → strict_run ≡ test → IsEmptied port strict_run plan new s
        by false off = emptied steps.other steps.next steps.next_is steps.stands (λ on. absurd (true≢false (sym on ∙ off)))
        by true on =
            let up = serves.stayed on in
            let n = strictly (there up) (record { stands = serves.stands; strictly = up.strictly }) in
            let found = next_answered (cluster_of plan) some_answers 0 (there up) n.next Drain n.next_is in
            let later = up_drained (cluster_of plan) n.next (there up) n.next_is (record { unarmed = up.unarmed; up = up.up }) in
            emptied found.0 n.next.found found.2 n.stands.stands
            (λ _. record { disks = n.next.disks; strictly = n.stands.strictly; unarmed = later.unarmed; up = later.up })

-- ---- the actors of queues

module _ (plan : Content) (queues : List Queue) (names : List Actor) (named : map actor_in queues ≡ names) (are : AreAllActors plan names) where
  named_at : (place : ℕ) (queue : Queue) → slice_get queues place ≡ Some queue → slice_get names place ≡ Some queue.actor
  named_at place queue is = subst (λ (l : List Actor). slice_get l place ≡ Some queue.actor) named (mapped_at actor_in queues place queue is)

  pub actor_known : (place : ℕ) (queue : Queue) → slice_get queues place ≡ Some queue → Contains (actors plan.topology) queue.actor
  actor_known place queue is = each_at_place (λ a. Contains (actors plan.topology) a) names are.known place queue.actor (named_at place queue is)

  pub actors_apart : (i j : ℕ) (one other : Queue) → slice_get queues i ≡ Some one → slice_get queues j ≡ Some other → (i ≡ j → ⊥) → same_actor one.actor other.actor ≡ false
  actors_apart i j one other p q different = apart_at names are.apart i j one.actor other.actor (named_at i one p) (named_at j other q) different

  pub queue_of : (a : Actor) → Contains (actors plan.topology) a → (place : ℕ) × (queue : Queue) × (slice_get queues place ≡ Some queue) × (queue.actor ≡ a)
  queue_of a member =
      let at = contained_at names a (are.each a member) in
      let found = from_map actor_in queues at.0 a (subst (λ (l : List Actor). slice_get l at.0 ≡ Some a) (sym named) at.1) in
      (at.0, found.0, found.1, found.2)

  pub each_went : (s : Situation) → HaveGone plan s queues → EachWent plan s
  each_went s gone a member =
      let q = queue_of a member in
      (left_in q.1, subst (λ (b : Actor). HasGone plan s b (left_in q.1)) q.3 (gone q.0 q.1 q.2))

-- ---- a round

-- of the queues before this place all commands went by that can, and nothing else went by
pub record IsUnder {D : Type 0} (port : Ghosts D) (strict_run : Bool) (plan : Content) (before now : List Queue) (place : ℕ) (went : Bool) (cluster : Cluster D) (s : Situation) : Type 0 where
  pub reached : Situation
  pub serves : Serves port strict_run plan cluster reached
  pub gone : HaveGone plan reached now
  pub behind : Begins s.own reached.own
  pub less : count_left now ≤ count_left before
  pub fewer : went ≡ true → count_left now < count_left before
  pub held : went ≡ false → (reached ≡ s) × ((j : ℕ) → j < place → (queue : Queue) → slice_get now j ≡ Some queue → IsHeld s.own (left_in queue))

none_below : {P : Type 0} (j : ℕ) → j < 0 → P
none_below j lt = absurd (omega (arith, lt))

counted : (was now one other : ℕ) → was + one ≡ now + other → other ≤ one → was ≤ now
counted was now one other is le = omega (arith, is, le)

counted_less : (was now one other : ℕ) → was + one ≡ now + other → other < one → was < now
counted_less was now one other is lt = omega (arith, is, lt)

le_trans : (a b c : ℕ) → a ≤ b → b ≤ c → a ≤ c
le_trans a b c p q = omega (arith, p, q)

lt_left : (a b c : ℕ) → a < b → b ≤ c → a < c
lt_left a b c p q = omega (arith, p, q)

lt_right : (a b c : ℕ) → a ≤ b → b < c → a < c
lt_right a b c p q = omega (arith, p, q)

at_or_before : (j place : ℕ) → j < place + 1 → (j ≡ place → ⊥) → j < place
at_or_before j place lt other = dite (dec_lt j place) (λ less. less) (λ not. absurd (other (omega (arith, lt, not))))

module _ {D : Type 0} (port : Ghosts D) (strict_run : Bool) (plan : Content) (s : Situation) where
  pub under_none : (queues : List Queue) (cluster : Cluster D) → Serves port strict_run plan cluster s → HaveGone plan s queues → IsUnder port strict_run plan queues queues 0 false cluster s
  under_none queues cluster serves gone = record {
    reached = s;
    serves = serves;
    gone = gone;
    behind = begins_itself s.own;
    less = omega arith;
    fewer = λ is. absurd (true≢false (sym is));
    held = λ is. (refl, λ j lt. none_below j lt);
  }

  -- one queue more
  module _ (before now : List Queue) (place : ℕ) (names : List Actor) (named : map actor_in now ≡ names) (are : AreAllActors plan names) (queue turned : Queue)
      (there : slice_get now place ≡ Some queue) (same : turned.actor ≡ queue.actor) where
    less_left : length (left_in turned) ≤ length (left_in queue) → count_left (slice_set now place turned) ≤ count_left now
    less_left le =
        counted (count_left (slice_set now place turned)) (count_left now) (count_in queue) (count_in turned)
        (subst (λ (q : Queue). count_left (slice_set now place turned) + count_in q ≡ count_left now + count_in turned) (get_or_from_slice_get now place queue queue there)
        (sum_by-set count_in now place turned queue (slice_get_within now place queue there))) le

    fewer_left : length (left_in turned) < length (left_in queue) → count_left (slice_set now place turned) < count_left now
    fewer_left lt =
        counted_less (count_left (slice_set now place turned)) (count_left now) (count_in queue) (count_in turned)
        (subst (λ (q : Queue). count_left (slice_set now place turned) + count_in q ≡ count_left now + count_in turned) (get_or_from_slice_get now place queue queue there)
        (sum_by-set count_in now place turned queue (slice_get_within now place queue there))) lt

    pub still_named : map actor_in (slice_set now place turned) ≡ names
    still_named = set_named now place there ∙ named
      where
        set_named : (xs : List Queue) (i : ℕ) → slice_get xs i ≡ Some queue → map actor_in (slice_set xs i turned) ≡ map actor_in xs
        set_named [] i e = refl
        set_named (x ∷ xs) zero e = ap (λ (a : Actor). a ∷ map actor_in xs) (same ∙ ap actor_in (sym (same_Some x queue e)))
        set_named (x ∷ xs) (suc i) e = ap (λ (l : List Actor). x.actor ∷ l) (set_named xs i e)

    module _ (went moved : Bool) (old new : Cluster D) (under : IsUnder port strict_run plan before now place went old s)
        (move : HasMoved port strict_run plan queue.actor (progress (left_in queue) (left_in turned) moved) new under.reached) where
      gone_now : HaveGone plan move.next (slice_set now place turned)
      gone_now j other is =
          ⊎_elim
          (λ here.
          subst (λ (q : Queue). HasGone plan move.next q.actor (left_in q)) (sym here.1)
          (subst (λ (a : Actor). HasGone plan move.next a (left_in turned)) (sym same) move.gone))
          (λ elsewhere.
          move.others other.actor (left_in other)
          (actors_apart plan now names named are place j queue other there elsewhere.1 (λ e. elsewhere.0 (sym e)))
          (under.gone j other elsewhere.1))
          (set_cases now place turned j other is)

      -- something went by
      pub under_went : moved ≡ true → IsUnder port strict_run plan before (slice_set now place turned) (place + 1) true new s
      under_went is =
          let fewer = lt_left (count_left (slice_set now place turned)) (count_left now) (count_left before) (fewer_left (move.fewer is)) under.less in
          record {
            reached = move.next;
            serves = move.serves;
            gone = gone_now;
            behind = begins_chain s.own under.reached.own move.next.own under.behind move.behind;
            less = le_trans (count_left (slice_set now place turned)) (count_left now) (count_left before) (less_left move.less) under.less;
            fewer = λ _. fewer;
            held = λ e. absurd (true≢false e);
          }

      -- nothing went by
      pub under_stayed : moved ≡ false → IsUnder port strict_run plan before (slice_set now place turned) (place + 1) went new s
      under_stayed is = record {
        reached = move.next;
        serves = move.serves;
        gone = gone_now;
        behind = begins_chain s.own under.reached.own move.next.own under.behind move.behind;
        less = le_trans (count_left (slice_set now place turned)) (count_left now) (count_left before) (less_left move.less) under.less;
        fewer = λ e. lt_right (count_left (slice_set now place turned)) (count_left now) (count_left before) (less_left move.less) (under.fewer e);
        held = λ e.
            let was = under.held e in
            let kept = move.held is in (
              kept.0 ∙ was.0,
              λ j lt other at.
                  ⊎_elim
                  (λ here.
                  subst (λ (q : Queue). IsHeld s.own (left_in q)) (sym here.1) (subst (λ (t : Situation). IsHeld t.own (left_in turned)) was.0 kept.1))
                  (λ elsewhere. was.1 j (at_or_before j place lt elsewhere.0) other elsewhere.1)
                  (set_cases now place turned j other at),
            );
      }

  pub round_ended : (before now : List Queue) (place : ℕ) (went : Bool) (cluster : Cluster D) → IsUnder port strict_run plan before now place went cluster s → length now ≤ place
      → HasGoneRound port strict_run plan (progress before now went) cluster s
  round_ended before now place went cluster under all = record {
    next = under.reached;
    serves = under.serves;
    gone = under.gone;
    behind = under.behind;
    less = under.less;
    fewer = under.fewer;
    held = λ e.
        let was = under.held e in
        (was.0, λ j queue is. was.1 j (lt_left j (length now) place (slice_get_within now j queue is) all) queue is);
  }

-- ---- all rounds

-- after a drain
pub record HasCome {D : Type 0} (port : Ghosts D) (strict_run : Bool) (plan : Content) (now : List Queue) (cluster : Cluster D) (s : Situation) : Type 0 where
  pub reached : Situation
  pub serves : Serves port strict_run plan cluster reached
  pub gone : HaveGone plan reached now
  pub behind : Begins s.own reached.own
  pub nothing : NothingWaits reached

module _ {D : Type 0} (port : Ghosts D) (strict_run : Bool) (plan : Content) (s : Situation) where
  pub come_first : (queues : List Queue) (cluster : Cluster D) → HaveGone plan s queues → IsEmptied port strict_run plan cluster s → HasCome port strict_run plan queues cluster s
  come_first queues cluster gone e = record {
    reached = e.next;
    serves = e.serves;
    gone = λ place queue is. e.gone queue.actor (left_in queue) (gone place queue is);
    behind = e.behind;
    nothing = e.nothing;
  }

  pub come_on : (before now : List Queue) (old between new : Cluster D) (come : HasCome port strict_run plan before old s)
      → (turned : HasGoneRound port strict_run plan (progress before now true) between come.reached) → IsEmptied port strict_run plan new turned.next → HasCome port strict_run plan now new s
  come_on before now old between new come turned e = record {
    reached = e.next;
    serves = e.serves;
    gone = λ place queue is. e.gone queue.actor (left_in queue) (turned.gone place queue is);
    behind = begins_chain s.own come.reached.own e.next.own come.behind (begins_chain come.reached.own turned.next.own e.next.own turned.behind e.behind);
    nothing = e.nothing;
  }

  pub come_to_end : (before now : List Queue) (old new : Cluster D) (come : HasCome port strict_run plan before old s) → HasGoneRound port strict_run plan (progress before now false) new come.reached
      → HasEnded port strict_run plan now new s
  come_to_end before now old new come turned =
      let held = turned.held refl in
      record {
        last = turned.next;
        serves = turned.serves;
        gone = turned.gone;
        behind = begins_chain s.own come.reached.own turned.next.own come.behind turned.behind;
        nothing = subst (λ (t : Situation). NothingWaits t) (sym held.0) come.nothing;
        held = subst (λ (t : Situation). AreHeld t.own now) (sym held.0) held.1;
      }
