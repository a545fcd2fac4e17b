-- The end of all rounds: the items are served.
use Rattle.std.proofs.Common.{◌≡◌, ◌⊎◌, ℕ, suc, ◌<◌, ◌≤◌, Bool, true, List, [], ◌∷◌, ◌++◌, length, reverse, map, Contains, refl, sym, ◌∙◌, ap, subst, inl, inr, arith}
use Rattle.std.specs.List.{AllByRecursion}
use Rattle.std.proofs.lemmas.List.{reverse-append, reverse-reverse}
use Rattle.acc_stamp.specs.declared.actors.Actor.{Actor}
use Rattle.acc_ports.specs.declared.disk.Disk.{Ghosts}
use Rattle.acc_message.specs.declared.item.Item.{Item}
use Rattle.acc_message.specs.declared.error.Which.{Which}
use Rattle.acc_schedule.specs.Actors.{actors}
use Rattle.acc_schedule.specs.Content.{Content}
use Rattle.acc_schedule.specs.declared.plan.Step.{Step}
use Rattle.acc_schedule_runs.specs.Situations.{Stopped, Situation, NothingWaits}
use Rattle.acc_schedule_runs.specs.Laws.{NobodyIsDown}
use Rattle.acc_schedule_runs.specs.Limits.{IsWithin, EndsAt}
use Rattle.acc_schedule_runs.specs.Fronts.{Begins}
use Rattle.acc_schedule_runs.proofs.Beginnings.{begins_longer, begins_chain, both_begin}
use Rattle.acc_cluster.specs.declared.cluster.Cluster.{Cluster}
use Rattle.acc_cluster.specs.declared.ending.Ended.{Ended}
use Rattle.acc_actors.specs.declared.slot.Slot.{Slot}
use Rattle.acc_cluster.specs.Stands.{StandsFor}
use Rattle.acc_cluster.specs.Ends.{IsEndOf}
use Rattle.acc_cluster.specs.Limits.{IsMoveAhead, StopsAt}
use Rattle.acc_cluster.specs.Over.{behind_items, actor_in as slot_actor, AreSlotsOf}
use Rattle.acc_free_laws.specs.Commands.{IsHeld}
use Rattle.acc_free_laws.specs.Served.{IsServed}
use Rattle.acc_free_laws.specs.Serving.{IsServing, HasGone}
use Rattle.acc_free_ending.specs.declared.rest.Rest.{Rest}
use Rattle.acc_free_ending.specs.declared.rest.Queue.{Queue}
use Rattle.acc_free_ending.specs.Queues.{placed_in, queue_in, left_in, actor_in, rest_actor, AreAllActors, HaveGone}
use Rattle.acc_free_ending.specs.Moves.{HasEnded, IsFreeFront, StopsFreely}
use Rattle.acc_free_ending.specs.Finish.{HasFinished, HasStopped}
use Rattle.acc_free_ending.proofs.Lists.{each_at_place, from_map}
use Rattle.acc_free_ending.proofs.Rounds.{queue_of}
use Rattle.acc_free_ending.proofs.Within.{within_part, not_within}

-- ---- the rests by their parts

module _ {D : Type 0} where
  pub actors_of_queues : (rests : List (Rest D)) → map actor_in (map queue_in rests) ≡ map rest_actor rests
  actors_of_queues [] = refl
  actors_of_queues (rest ∷ rests) = ap (λ l. rest.actor ∷ l) (actors_of_queues rests)

  actors_of_slots : (rests : List (Rest D)) → map slot_actor (map placed_in rests) ≡ map rest_actor rests
  actors_of_slots [] = refl
  actors_of_slots (rest ∷ rests) = ap (λ l. rest.actor ∷ l) (actors_of_slots rests)

  known_slots : (plan : Content) (rests : List (Rest D)) → AllByRecursion (λ a. Contains (actors plan.topology) a) (map rest_actor rests)
      → AllByRecursion (λ (one : Actor × Slot D). Contains (actors plan.topology) one.0) (map placed_in rests)
  known_slots plan [] h = tt
  known_slots plan (rest ∷ rests) h = (h.0, known_slots plan rests h.1)

  pub slots_of : (plan : Content) (rests : List (Rest D)) → AreAllActors plan (map rest_actor rests) → AreSlotsOf plan (map placed_in rests)
  slots_of plan rests are = record {
    known = known_slots plan rests are.known;
    each = λ a member. subst (λ (l : List Actor). Contains l a) (sym (actors_of_slots rests)) (are.each a member);
  }

  pub rests_gone : (plan : Content) (s : Situation) (rests : List (Rest D)) → AllByRecursion (λ (rest : Rest D). HasGone plan s rest.actor (left_in (queue_in rest))) rests
      → HaveGone plan s (map queue_in rests)
  rests_gone plan s rests all place queue is =
      let found = from_map queue_in rests place queue is in
      subst (λ (q : Queue). HasGone plan s q.actor (left_in q)) found.2
      (each_at_place (λ (rest : Rest D). HasGone plan s rest.actor (left_in (queue_in rest))) rests all place found.0 found.1)

-- ---- the items

-- the law of the end
abbrev pub EndLaw : Type 0
EndLaw =
    (plan : Content) (s : Situation) → IsServing plan s → NothingWaits s
    → ((a : Actor) → Contains (actors plan.topology) a → (left : List Step) × HasGone plan s a left × IsHeld s.own left) → IsServed plan s.own

turned_back : (entered later own items : List Item) → own ≡ later ++ reverse entered → items ≡ reverse own → items ≡ entered ++ reverse later
turned_back entered later own items behind are =
    are ∙ ap reverse behind ∙ reverse-append later (reverse entered) ∙ ap (λ (l : List Item). l ++ reverse later) (reverse-reverse entered)

module _ {D : Type 0} (port : Ghosts D) (strict_run : Bool) (plan : Content) (entered : List Item) (stopped : List Stopped) (queues : List Queue) (names : List Actor)
    (named : map actor_in queues ≡ names) (are : AreAllActors plan names) (cluster : Cluster D) (h : HasEnded port strict_run plan queues cluster (behind_items entered stopped)) where
  each_held : (a : Actor) → Contains (actors plan.topology) a → (left : List Step) × HasGone plan h.last a left × IsHeld h.last.own left
  each_held a member =
      let q = queue_of plan queues names named are a member in
      (left_in q.1, subst (λ (b : Actor). HasGone plan h.last b (left_in q.1)) q.3 (h.gone q.0 q.1 q.2), h.held q.0 q.1 q.2)

  pub has_finished : EndLaw → (ended : Ended D) → ((plan : Content) (s : Situation) → StandsFor port plan cluster s → IsEndOf port plan s.own s ended)
      → HasFinished port plan entered ended
  has_finished law ended ends =
      let e : IsEndOf port plan h.last.own h.last ended = ends plan h.last h.serves.stands in
      let own_is : reverse ended.items ≡ h.last.own = ap reverse e.items_are ∙ reverse-reverse h.last.own in
      record {
        later = reverse h.behind.later;
        items_are = turned_back entered h.behind.later h.last.own ended.items h.behind.items_are e.items_are;
        served = subst (IsServed plan) (sym own_is) (law plan h.last h.serves.serving h.nothing each_held);
        within = subst IsWithin (sym own_is) h.serves.stands.past.within;
        disks_are = e.disks_are;
        last = h.last;
        serving = h.serves.serving;
        last_is = own_is;
        kept = e.kept;
      }

  -- in a strict run
  pub nobody_down : (ended : Ended D) → ((plan : Content) (s : Situation) → StandsFor port plan cluster s → IsEndOf port plan s.own s ended)
      → strict_run ≡ true → NobodyIsDown (reverse ended.items)
  nobody_down ended ends on =
      let e = ends plan h.last h.serves.stands in
      subst NobodyIsDown (sym (ap reverse e.items_are ∙ reverse-reverse h.last.own)) (h.serves.stayed on).up

-- ---- after a limit

up_to : (n k : ℕ) → (n ≤ k) ⊎ (k < n)
up_to n k = grind arith

next_too : {n k : ℕ} → n < k → suc n ≤ k
next_too h = omega arith

-- what was entered within the limits comes before the limit
begins_there : (strict_run : Bool) (plan : Content) (entered front : List Item) (which : Which) (number : ℕ) → IsWithin entered
    → EndsAt (IsFreeFront strict_run plan entered) front which number → Begins entered front
begins_there strict_run plan entered front which number within e = by (up_to (length entered) (length front))
  where
    by : (length entered ≤ length front) ⊎ (length front < length entered) → Begins entered front
    by (inl short) =
        both_begin entered front e.front.reached.own e.front.behind
        (begins_chain front (e.next ∷ front) e.front.reached.own (begins_longer e.next front) e.front.begins) short
    by (inr long) =
        absurd (not_within front e.next which number e.passed
        (within_part (e.next ∷ front) entered (both_begin (e.next ∷ front) entered e.front.reached.own e.front.begins e.front.behind (next_too long)) within))

module _ {D : Type 0} (port : Ghosts D) (strict_run : Bool) (plan : Content) (entered : List Item) (cluster : Cluster D) (which : Which) (number : ℕ)
    (h : StopsFreely port strict_run plan (reverse entered) cluster which number) (ended : Ended D)
    (limited : (plan : Content) (items : List Item) (s : Situation) → StopsAt port plan cluster items s → IsEndOf port plan items s ended) where
  end_there : IsEndOf port plan h.items h.reached ended
  end_there = limited plan h.items h.reached h.stops

  same_items : h.items ≡ reverse ended.items
  same_items = sym (ap reverse end_there.items_are ∙ reverse-reverse h.items)

  pub ends_there : EndsAt (IsFreeFront strict_run plan (reverse entered)) (reverse ended.items) which number
  ends_there = subst (λ (items : List Item). EndsAt (IsFreeFront strict_run plan (reverse entered)) items which number) same_items h.ends

  pub has_stopped : IsWithin (reverse entered) → HasStopped port plan entered ended
  has_stopped within =
      let begins = begins_there strict_run plan (reverse entered) h.items which number within h.ends in
      record {
        later = reverse begins.later;
        items_are = turned_back entered begins.later h.items ended.items begins.items_are end_there.items_are;
        reached = h.reached;
        serving = h.serving;
        ahead = subst (λ (items : List Item). IsMoveAhead items h.reached.own) same_items h.stops.ahead;
        disks_are = end_there.disks_are;
        kept = end_there.kept;
      }
