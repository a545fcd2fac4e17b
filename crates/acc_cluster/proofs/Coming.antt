-- How far a drain has come: the invariant of its loop.
use Rattle.std.proofs.Common.{◌≡◌, ◌⊎◌, ℕ, suc, ◌<◌, ◌≤◌, Bool, true, false, ◌&&◌, List, [], ◌∷◌, Option, None, length, refl, sym, ◌∙◌, ap, subst, inl, inr, arith}
use Rattle.acc_stamp.specs.declared.actors.Actor.{Actor}
use Rattle.acc_ports.specs.declared.disk.Disk.{Ghosts}
use Rattle.acc_message.specs.declared.entry.Event.{Event}
use Rattle.acc_message.specs.declared.entry.Event.TheVariants.{Message as MessageEvent}
use Rattle.acc_message.specs.declared.error.Which.{Which}
use Rattle.acc_message.specs.declared.item.Item.{Item}
use Rattle.acc_message.specs.declared.item.Skip.{Skip}
use Rattle.acc_message.specs.Run.{Cluster as RunCluster}
use Rattle.acc_payloads.specs.Items.{downs_in}
use Rattle.acc_schedule.specs.Content.{Content}
use Rattle.acc_schedule_runs.specs.Situations.{Situation, IsOldestWaiting, NothingWaits, receiver_in}
use Rattle.acc_schedule_runs.specs.Moves.{Answers, is_journalled, tried_if}
use Rattle.acc_schedule_runs.specs.Schedules.{cluster_of}
use Rattle.acc_schedule_runs.specs.Laws.{AgreeBelow}
use Rattle.acc_schedule_runs.specs.Disks.{Disks, after_step}
use Rattle.acc_schedule_runs.specs.StrictMoves.{StrictSituation, tried_strictly}
use Rattle.acc_schedule_runs.proofs.Answering.{behind, agree_behind, fails_behind, agree_on}
use Rattle.acc_schedule_runs.specs.Limits.{EndsAt}
use Rattle.acc_schedule_runs.specs.Fronts.{Begins, DrainsTo, comes}
use Rattle.acc_schedule_runs.specs.StrictFronts.{StrictlyDrainsTo, comes as comes_strictly}
use Rattle.acc_cluster.specs.declared.cluster.Cluster.{Cluster}
use Rattle.acc_cluster.specs.Stands.{StandsFor, AreStrict, faults_at}
use Rattle.acc_cluster.specs.Limits.{NoneFell}
use Rattle.acc_cluster.specs.Steps.{hit, RoseByDowns, LimitLeaves}
use Rattle.acc_cluster.specs.Tried.{scheduled, fails_strictly, HasStepped, HitsLimit, HasDrained, HitsLimitInDrain}
use Rattle.acc_cluster.proofs.Counts.{at_most, most_on, rose_on}
use Rattle.acc_cluster.proofs.Limited.{same_downs}
use Rattle.acc_cluster.proofs.Drained.{one_more, to_the_end, one_more_strictly, to_the_strict_end}

-- a situation over strict disks
abbrev pub over : Situation → Disks → StrictSituation
over s disks = record { found = s; disks = disks }

-- with some answers, and whatever is answered later
abbrev pub HasComeBy : RunCluster → Situation → Situation → Answers → Type 0
HasComeBy cluster reached s answers =
    (other : Answers) × AgreeBelow answers other (length s.own) × ((more : Answers) → AgreeBelow other more (length reached.own) → DrainsTo cluster more reached s)

pub record HasCome {D : Type 0} (port : Ghosts D) (plan : Content) (old now : Cluster D) (s : Situation) : Type 0 where
  pub reached : Situation
  pub stands : StandsFor port plan now reached
  pub counted : NoneFell port plan old now
  pub rose : RoseByDowns port plan old now s reached
  pub grows : length s.own ≤ length reached.own
  pub answered : (answers : Answers) → HasComeBy (cluster_of plan) reached s answers
  pub strictly :
      (disks : Disks) → AreStrict port plan old.slots.items s disks
      → (later : Disks) × StrictlyDrainsTo (cluster_of plan) (over reached later) (over s disks) × AreStrict port plan now.slots.items reached later

-- ---- answers

abbrev always : Bool → Answers
always fails = record { fails = λ place. fails; keeps = λ place. false }

only_journalled : (journalled fails : Bool) → (fails ≡ true → journalled ≡ true) → (journalled && fails) ≡ fails
only_journalled true true may = refl
only_journalled true false may = refl
only_journalled false true may = may refl
only_journalled false false may = refl

pub longer : (fails : Bool) (cluster : RunCluster) (s : Situation) (a : Actor) (event : Event) → length (tried_if fails cluster s a event).own ≡ suc (length s.own)
longer true cluster s a event = refl
longer false cluster s a event = refl

next_below : {n k : ℕ} → k ≡ suc n → n < k
next_below is = omega (arith, is)

next_most : {n k : ℕ} → k ≡ suc n → n ≤ k
next_most is = omega (arith, is)

begins_same : (front own : List Item) → front ≡ own → Begins front own
begins_same front own is = record { later = []; items_are = sym is }

-- one delivery more, with an answer for it, and the answers so far
further_from : (cluster : RunCluster) (reached s : Situation) (message : ℕ) (fails : Bool) → length s.own ≤ length reached.own → IsOldestWaiting reached message
    → (fails ≡ true → is_journalled (receiver_in reached message) (MessageEvent message) ≡ true) → (answers : Answers) → (come : HasComeBy cluster reached s answers)
    → (further : HasComeBy cluster (tried_if fails cluster reached (receiver_in reached message) (MessageEvent message)) s answers)
    × AgreeBelow come.0 further.0 (length reached.own)
further_from cluster reached s message fails grows oldest may answers come = (
  (
    other,
    agree_on answers come.0 other (length s.own) count grows come.1 (agree_behind count come.0 (always fails)),
    λ more agree. goes more agree (agree count (next_below (longer fails cluster reached a event))).0,
  ),
  agree_behind count come.0 (always fails),
)
  where
    a : Actor
    a = receiver_in reached message

    event : Event
    event = MessageEvent message

    count : ℕ
    count = length reached.own

    other : Answers
    other = behind count come.0 (always fails)

    next : Situation
    next = tried_if fails cluster reached a event

    goes : (more : Answers) → AgreeBelow other more (length next.own) → other.fails count ≡ more.fails count → DrainsTo cluster more next s
    goes more agree here =
        let at : more.fails count ≡ fails = sym here ∙ fails_behind count come.0 (always fails) in
        let so_far : AgreeBelow come.0 more count =
        agree_on come.0 other more count (length next.own) (next_most (longer fails cluster reached a event)) (agree_behind count come.0 (always fails)) agree in
        subst (λ (t : Situation). DrainsTo cluster more t s)
        (ap (λ b. tried_if (is_journalled a event && b) cluster reached a event) at ∙ ap (λ b. tried_if b cluster reached a event) (only_journalled (is_journalled a event) fails may))
        (one_more cluster more reached message oldest s (come.2 more so_far))

module _ {D : Type 0} (port : Ghosts D)
    (plan : Content) (old : Cluster D) (s : Situation) where
  -- ---- at the start

  pub start : StandsFor port plan old s → HasCome port plan old old s
  start stands =
      record {
        reached = s;
        stands = stands;
        counted = λ a there. at_most (faults_at port old a);
        rose = λ a there. inl refl;
        grows = at_most (length s.own);
        answered = λ answers. (answers, λ place below. (refl, refl), λ more agree. comes s refl);
        strictly = λ disks are. (disks, comes_strictly (over s disks) refl, are);
      }

  module _ (now : Cluster D) (come : HasCome port plan old now s) where
    -- ---- one delivery more

    -- over strict disks
    come_strictly : (message : ℕ) (fails : Bool) (later : Disks) → IsOldestWaiting come.reached message
        → fails ≡ fails_strictly later (receiver_in come.reached message) (MessageEvent message) → (disks : Disks)
        → StrictlyDrainsTo (cluster_of plan) (over come.reached later) (over s disks)
        → StrictlyDrainsTo (cluster_of plan)
        (over (tried_if fails (cluster_of plan) come.reached (receiver_in come.reached message) (MessageEvent message))
        (after_step (is_journalled (receiver_in come.reached message) (MessageEvent message)) (receiver_in come.reached message) later)) (over s disks)
    come_strictly message fails later oldest is disks path =
        let a : Actor = receiver_in come.reached message in
        let event : Event = MessageEvent message in
        subst
        (λ b. StrictlyDrainsTo (cluster_of plan) (over (tried_if b (cluster_of plan) come.reached a event) (after_step (is_journalled a event) a later)) (over s disks))
        (sym is) (one_more_strictly (cluster_of plan) (over come.reached later) message oldest (over s disks) path)

    pub come_on : (new : Cluster D) (message : ℕ) → IsOldestWaiting come.reached message
        → HasStepped port plan (scheduled None 0 (receiver_in come.reached message) (MessageEvent message)) now new come.reached
        → NoneFell port plan now new → HasCome port plan old new s
    come_on new message oldest stepped none_fell =
        let a : Actor = receiver_in come.reached message in
        let event : Event = MessageEvent message in
        let next : Situation = tried_if stepped.fails (cluster_of plan) come.reached a event in
        record {
          reached = next;
          stands = stepped.stands;
          counted = λ b there. most_on (faults_at port old b) (faults_at port now b) (faults_at port new b) (come.counted b there) (none_fell b there);
          rose = λ b there.
              rose_on (faults_at port old b) (faults_at port now b) (faults_at port new b) (downs_in b s.own) (downs_in b come.reached.own) (downs_in b next.own)
              (come.counted b there) (none_fell b there) (come.rose b there) (stepped.rose b there);
          grows = most_on (length s.own) (length come.reached.own) (length next.own) come.grows (next_most (longer stepped.fails (cluster_of plan) come.reached a event));
          answered = λ answers. (further_from (cluster_of plan) come.reached s message stepped.fails come.grows oldest stepped.may answers (come.answered answers)).0;
          strictly = λ disks are.
              let before = come.strictly disks are in
              let answer = stepped.strictly before.0 before.2 in (
                after_step (is_journalled a event) a before.0,
                come_strictly message stepped.fails before.0 oldest (answer.0 refl) disks before.1,
                answer.1,
              );
        }

    -- ---- the end

    pub has_drained : NothingWaits come.reached → HasDrained port plan old now s
    has_drained none =
        record {
          next = come.reached;
          stands = come.stands;
          rose = come.rose;
          answered = λ answers.
              let found = come.answered answers in
              (found.0, found.1, to_the_end (cluster_of plan) found.0 come.reached none s (found.2 found.0 (λ place below. (refl, refl))));
          strictly = λ disks are.
              let found = come.strictly disks are in
              (found.0, to_the_strict_end (cluster_of plan) (over come.reached found.0) none (over s disks) found.1, found.2);
        }

    -- ---- a limit

    at_front : (P Q : List Item → Type 0) → ((front : List Item) → P front → Q front) → (items : List Item) (which : Which) (limit : ℕ)
        → EndsAt P items which limit → EndsAt Q items which limit
    at_front P Q f items which limit h = record { next = h.next; front = f (h.next ∷ items) h.front; within = h.within; passed = h.passed }

    module _ (new : Cluster D) (message : ℕ) (oldest : IsOldestWaiting come.reached message) (which : Which) (limit : ℕ)
        (hits : HitsLimit port plan (scheduled None 0 (receiver_in come.reached message) (MessageEvent message)) now new come.reached (hit which limit)) where
      abbrev HitsAt : Bool → Type 0
      HitsAt fails =
          EndsAt (λ front. front ≡ (tried_if fails (cluster_of plan) come.reached (receiver_in come.reached message) (MessageEvent message)).own) come.reached.own which limit

      abbrev Unasked : Type 0
      Unasked = ((fails : Bool) → HitsAt fails) × (hits.reached ≡ come.reached)

      abbrev Passes : Option Skip → Type 0
      Passes skip =
          (disks : Disks) → AreStrict port plan now.slots.items come.reached disks → skip ≡ None
          → fails_strictly disks (receiver_in come.reached message) (MessageEvent message) ≡ false

      abbrev Asked : Type 0
      Asked =
          HitsAt false
          × Passes None
          × (hits.reached ≡ tried_if false (cluster_of plan) come.reached (receiver_in come.reached message) (MessageEvent message))

      by_disks : Unasked ⊎ Asked → (later : Disks) → AreStrict port plan now.slots.items come.reached later
          → HitsAt (fails_strictly later (receiver_in come.reached message) (MessageEvent message))
      by_disks (inl all) later are = all.0 (fails_strictly later (receiver_in come.reached message) (MessageEvent message))
      by_disks (inr known) later are = subst (λ b. HitsAt b) (sym (known.1 later are refl)) known.0

      -- some delivery more ends it, with answers that bring the drain so far
      abbrev EndsBy : Answers → Type 0
      EndsBy answers = EndsAt (λ front. (later : Situation) × DrainsTo (cluster_of plan) answers later s × Begins front later.own) come.reached.own which limit

      ends_by : (answers : Answers) (fails : Bool) → HitsAt fails
          → DrainsTo (cluster_of plan) answers (tried_if fails (cluster_of plan) come.reached (receiver_in come.reached message) (MessageEvent message)) s → EndsBy answers
      ends_by answers fails ends to =
          let next : Situation = tried_if fails (cluster_of plan) come.reached (receiver_in come.reached message) (MessageEvent message) in
          at_front (λ front. front ≡ next.own) (λ front. (later : Situation) × DrainsTo (cluster_of plan) answers later s × Begins front later.own)
          (λ front is. (next, to, begins_same front next.own is)) come.reached.own which limit ends

      abbrev HasLed : Answers → Type 0
      HasLed answers =
          (other : Answers) × AgreeBelow answers other (length s.own) × DrainsTo (cluster_of plan) other hits.reached s
          × ((more : Answers) → AgreeBelow other more (length hits.reached.own) → EndsBy more)

      led : (answers : Answers) → Unasked ⊎ Asked → HasLed answers
      led answers (inl all) =
          let found = come.answered answers in (
            found.0,
            found.1,
            subst (λ (t : Situation). DrainsTo (cluster_of plan) found.0 t s) (sym all.1) (found.2 found.0 (λ place below. (refl, refl))),
            λ more agree.
                let fails : Bool = is_journalled (receiver_in come.reached message) (MessageEvent message) && more.fails (length come.reached.own) in
                ends_by more fails (all.0 fails)
                (one_more (cluster_of plan) more come.reached message oldest s
                (found.2 more (subst (λ (t : Situation). AgreeBelow found.0 more (length t.own)) all.1 agree))),
          )
      led answers (inr known) =
          let next : Situation = tried_if false (cluster_of plan) come.reached (receiver_in come.reached message) (MessageEvent message) in
          let found = come.answered answers in
          let further = further_from (cluster_of plan) come.reached s message false come.grows oldest (λ fails. cc) answers found in (
            further.0.0,
            further.0.1,
            subst (λ (t : Situation). DrainsTo (cluster_of plan) further.0.0 t s) (sym known.2) (further.0.2 further.0.0 (λ place below. (refl, refl))),
            λ more agree.
                ends_by more false known.0 (further.0.2 more (subst (λ (t : Situation). AgreeBelow further.0.0 more (length t.own)) known.2 agree)),
          )

      pub hits_in_drain : (found : HitsLimitInDrain port plan old s which limit) × LimitLeaves port plan old new s found.items found.reached
      hits_in_drain = (
        record {
          items = come.reached.own;
          reached = hits.reached;
          first = λ is. ap (λ (t : Situation). t.own) (hits.first is);
          answered = λ answers. led answers hits.ends;
          strictly = λ disks are.
              let found = come.strictly disks are in
              let reached : StrictSituation = tried_strictly (cluster_of plan) (over come.reached found.0) (receiver_in come.reached message) (MessageEvent message) in
              at_front (λ front. front ≡ reached.found.own) (λ front. (reached : StrictSituation) × StrictlyDrainsTo (cluster_of plan) reached (over s disks) × Begins front reached.found.own)
              (λ front is. (
                reached,
                one_more_strictly (cluster_of plan) (over come.reached found.0) message oldest (over s disks) found.1,
                begins_same front reached.found.own is,
              )) come.reached.own which limit (by_disks hits.ends found.0 found.2);
        },
        record {
          stops = hits.stops;
          rose = λ b there.
              rose_on (faults_at port old b) (faults_at port now b) (faults_at port new b) (downs_in b s.own) (downs_in b come.reached.own) (downs_in b hits.reached.own)
              (come.counted b there) (hits.none_fell b there) (come.rose b there)
              (inl (same_downs port plan None 0 (receiver_in come.reached message) (MessageEvent message) now new come.reached which limit hits b));
        },
      )
