-- The disks of a cluster's slots: they rise, there is one of each actor of the plan, and each keeps its actor.
use Rattle.std.proofs.Common.{◌≡◌, ℕ, zero, suc, ◌+◌, ◌≤◌, Bool, true, false, List, [], ◌∷◌, ◌++◌, map, length, Contains, refl, ◌∙◌, ap, subst, inl, inr, arith}
use Rattle.std.proofs.lemmas.List.{append-nil}
use Rattle.std.specs.List.{AllByRecursion, slice_index_or}
use Rattle.acc_stamp.specs.declared.actors.Actor.{Actor}
use Rattle.acc_stamp.specs.Actor.{node_of}
use Rattle.acc_ports.specs.declared.disk.Disk.{Ghosts}
use Rattle.acc_message.specs.declared.message.Message.{Message}
use Rattle.acc_message.specs.NodeRules.{Act}
use Rattle.acc_message.specs.Run.{clock_start, is_node}
use Rattle.acc_payloads.specs.Items.{payloads_in}
use Rattle.acc_payloads.specs.Stops.{Past, IsLeft, ReadsIf}
use Rattle.acc_payloads.specs.Stops as stops
use Rattle.acc_payloads.proofs.Marked.{node_marked, store_marked}
use Rattle.acc_durable_node.specs.declared.actor.NodeActor.{NodeActor}
use Rattle.acc_durable_store.specs.declared.actor.StoreActor.{StoreActor}
use Rattle.acc_durable_node.specs.Actor as node
use Rattle.acc_durable_store.specs.Actor as store
use Rattle.acc_schedule.specs.Actors.{actors}
use Rattle.acc_schedule.specs.Content.{Content}
use Rattle.acc_pasts.specs.Stopped.{IsSound}
use Rattle.acc_schedule_runs.specs.Situations.{Situation, whole, stopped_at}
use Rattle.acc_schedule_runs.specs.Moves.{kept_if, with_kept}
use Rattle.acc_schedule_runs.specs.Schedules.{cluster_of}
use Rattle.acc_actors.specs.declared.slot.Slot.{Slot}
use Rattle.acc_actors.specs.declared.slot.Slot.TheVariants.{Empty, Node, Store}
use Rattle.acc_actors.specs.Pasts.{stops_at, store_stops, node_past, store_past}
use Rattle.acc_actors.specs.Slots.{SlotStands, NodeStands, StoreStands, IsTaken, node_name, store_name}
use Rattle.acc_actors.proofs.RestartPasts.{all_may, node_all, store_all}
use Rattle.acc_cluster.specs.Stands.{AreActors, slot_at}
use Rattle.acc_cluster.specs.Ends.{entry_of, disks_from, HoldsIn, KeepsIn, Rises, AreDisksOf}

-- ---- the list of the disks

abbrev numbered : ℕ → Actor
numbered number = record { 0 = number }

module _ {D : Type 0} where
  -- what holds of the disk of an actor, if one stands there
  abbrev at_slot : (Actor × D → Type 0) → Actor → Slot D → Type 0
  at_slot Q a Empty = Unit {0}
  at_slot Q a (Node n) = Q (a, node.disk_of n)
  at_slot Q a (Store t) = Q (a, store.disk_of t)

  all_at : (Q : Actor × D → Type 0) (number : ℕ) (slots : List (Slot D)) → ((k j : ℕ) → j ≡ number + k → at_slot Q (record { 0 = j }) (slice_index_or slots k Empty))
      → AllByRecursion Q (disks_from number slots)
  all_at Q number [] h = tt
  all_at Q number (slot ∷ slots) h = by slot (h 0 number (omega arith)) (all_at Q (number + 1) slots (λ k j is. h (suc k) j (omega (arith, is))))
    where
      by : (slot : Slot D) → at_slot Q (record { 0 = number }) slot → AllByRecursion Q (disks_from (number + 1) slots)
          → AllByRecursion Q (entry_of number slot ++ disks_from (number + 1) slots)
      by Empty here rest = rest
      by (Node n) here rest = (here, rest)
      by (Store t) here rest = (here, rest)

  rises : (least number : ℕ) (slots : List (Slot D)) → least ≤ number → Rises least (disks_from number slots)
  rises least number [] low = tt
  rises least number (slot ∷ slots) low = by slot (rises least (number + 1) slots (omega (arith, low))) (rises (number + 1) (number + 1) slots (omega arith))
    where
      by : (slot : Slot D) → Rises least (disks_from (number + 1) slots) → Rises (number + 1) (disks_from (number + 1) slots)
          → Rises least (entry_of number slot ++ disks_from (number + 1) slots)
      by Empty same more = same
      by (Node n) same more = (low, more)
      by (Store t) same more = (low, more)

  abbrev names : List (Actor × D) → List Actor
  names disks = map (λ (entry : Actor × D). entry.0) disks

  names_at : (number : ℕ) (slots : List (Slot D)) (k j : ℕ) → j ≡ number + k → IsTaken (slice_index_or slots k Empty) → Contains (names (disks_from number slots)) (record { 0 = j })
  names_at number [] k j is taken = absurd taken
  names_at number (slot ∷ slots) zero j is taken = by slot taken
    where
      same : number ≡ j
      same = omega (arith, is)

      by : (slot : Slot D) → IsTaken slot → Contains (names (entry_of number slot ++ disks_from (number + 1) slots)) (record { 0 = j })
      by Empty taken = absurd taken
      by (Node n) taken = (0, omega arith, ap numbered same)
      by (Store t) taken = (0, omega arith, ap numbered same)
  names_at number (slot ∷ slots) (suc k) j is taken = by slot (names_at (number + 1) slots k j (omega (arith, is)) taken)
    where
      by : (slot : Slot D) → Contains (names (disks_from (number + 1) slots)) (record { 0 = j })
          → Contains (names (entry_of number slot ++ disks_from (number + 1) slots)) (record { 0 = j })
      by Empty there = there
      by (Node n) there = (suc there.0, omega (arith, there.1), there.2)
      by (Store t) there = (suc there.0, omega (arith, there.1), there.2)

  taken_at : (Q : Actor × D → Type 0) (a : Actor) (slot : Slot D) → (IsTaken slot → (d : D) → Q (a, d)) → at_slot Q a slot
  taken_at Q a Empty h = tt
  taken_at Q a (Node n) h = h tt (node.disk_of n)
  taken_at Q a (Store t) h = h tt (store.disk_of t)

  -- ---- as a loop makes it

  pub disks_more : (number : ℕ) (slots : List (Slot D)) (slot : Slot D) → disks_from number (slots ++ slot ∷ []) ≡ disks_from number slots ++ entry_of (number + length slots) slot
  disks_more number [] slot =
      let none : number ≡ number + 0 = omega arith in
      append-nil (entry_of number slot) ∙ ap (λ n. entry_of n slot) none
  disks_more number (first ∷ slots) slot =
      let more : (number + 1) + length slots ≡ number + suc (length slots) = omega arith in
      by first (disks_more (number + 1) slots slot ∙ ap (λ n. disks_from (number + 1) slots ++ entry_of n slot) more)
    where
      by : (first : Slot D) → disks_from (number + 1) (slots ++ slot ∷ []) ≡ disks_from (number + 1) slots ++ entry_of (number + suc (length slots)) slot
          → entry_of number first ++ disks_from (number + 1) (slots ++ slot ∷ []) ≡ (entry_of number first ++ disks_from (number + 1) slots) ++ entry_of (number + suc (length slots)) slot
      by Empty is = is
      by (Node n) is = ap (λ es. (record { 0 = number }, node.disk_of n) ∷ es) is
      by (Store t) is = ap (λ es. (record { 0 = number }, store.disk_of t) ∷ es) is

-- ---- what the disks hold

module _ (plan : Content) (s : Situation) (sound : IsSound (cluster_of plan) s) where
  -- what was journalled is what the actor's entries put there, with those of the steps that were kept
  node_held : (a : Actor) (keeps : Bool) → (stops.kept_if keeps (node_past (cluster_of plan) s a)).held ≡ payloads_in a (whole (with_kept (cluster_of plan) s a (kept_if keeps a s)))
  node_held a true =
      ap (λ (past : Past Act). past.held)
      (node_all (cluster_of plan) a (stopped_at a s.stopped) s (stops_at (cluster_of plan) s a) true (all_may (cluster_of plan) a (stopped_at a s.stopped) s (sound.stopped a)))
  node_held a false = refl

  store_held : (a : Actor) (keeps : Bool) → is_node a ≡ false
      → (stops.kept_if keeps (store_past (cluster_of plan) s a)).held ≡ payloads_in a (whole (with_kept (cluster_of plan) s a (kept_if keeps a s)))
  store_held a true kind =
      ap (λ (past : Past Message). past.held)
      (store_all (cluster_of plan) a (stopped_at a s.stopped) s (store_stops (stops_at (cluster_of plan) s a)) true kind (all_may (cluster_of plan) a (stopped_at a s.stopped) s (sound.stopped a)))
  store_held a false kind = refl

  module _ {D : Type 0} (port : Ghosts D) (a : Actor) (image : List ℕ) where
    node_holds : (n : NodeActor D) → NodeStands port plan s a n → port.is_image (node.disk_of n) image → HoldsIn plan s a image
    node_holds n stands is = by (stands.stands.left image is)
      where
        at : (keeps : Bool) → ReadsIf (node.IsJournal plan.topology (node_name plan (node_of a))) (node_past (cluster_of plan) s a) keeps image
            → HoldsIn plan s a image
        at keeps r =
            record {
              payloads = r.payloads;
              reads = r.reads;
              marks = node_marked plan.version (clock_start plan.starts (node_of a)) r.payloads r.journal.items r.journal.journal;
              keeps = keeps;
              kept = r.held_are ∙ node_held a keeps;
            }

        by : IsLeft (node.IsJournal plan.topology (node_name plan (node_of a))) (node_past (cluster_of plan) s a) image → HoldsIn plan s a image
        by (inl r) = at false r
        by (inr r) = at true r

    store_holds : (t : StoreActor D) → StoreStands port plan s a t → port.is_image (store.disk_of t) image → HoldsIn plan s a image
    store_holds t stands is = by (stands.stands.left image is)
      where
        at : (keeps : Bool) → ReadsIf (store.IsJournal plan.topology (store_name plan a)) (store_past (cluster_of plan) s a) keeps image → HoldsIn plan s a image
        at keeps r =
            record {
              payloads = r.payloads;
              reads = r.reads;
              marks = store_marked plan.topology plan.version a r.payloads r.journal.items r.journal.journal;
              keeps = keeps;
              kept = r.held_are ∙ store_held a keeps stands.kind;
            }

        by : IsLeft (store.IsJournal plan.topology (store_name plan a)) (store_past (cluster_of plan) s a) image → HoldsIn plan s a image
        by (inl r) = at false r
        by (inr r) = at true r

  module _ {D : Type 0} (port : Ghosts D) where
    keeps_at : (a : Actor) (slot : Slot D) → (IsTaken slot → SlotStands port plan s a slot) → at_slot (KeepsIn port plan s) a slot
    keeps_at a Empty stands = tt
    keeps_at a (Node n) stands =
        let here : NodeStands port plan s a n = stands tt in record { counted = here.counted; each = λ image is. node_holds port a image n here is }
    keeps_at a (Store t) stands =
        let here : StoreStands port plan s a t = stands tt in record { counted = here.counted; each = λ image is. store_holds port a image t here is }

    stands_taken : (a : Actor) (slot : Slot D) → SlotStands port plan s a slot → IsTaken slot
    stands_taken a Empty h = h
    stands_taken a (Node n) h = tt
    stands_taken a (Store t) h = tt

    -- ---- the whole

    module _ (slots : List (Slot D)) (stand : AreActors port plan slots s) where
      -- by the number of the slot
      at_number : (Q : Actor × D → Type 0) → ((j : ℕ) → at_slot Q (record { 0 = j }) (slice_index_or slots j Empty)) → AllByRecursion Q (disks_from 0 slots)
      at_number Q h =
          all_at Q 0 slots
          (λ k j is. let same : j ≡ k = omega (arith, is) in subst (λ i. at_slot Q (record { 0 = j }) (slice_index_or slots i Empty)) same (h j))

      pub disks_are : AreDisksOf plan (disks_from 0 slots)
      disks_are =
          record {
            rise = rises 0 0 slots (omega arith);
            known =
                at_number (λ entry. Contains (actors plan.topology) entry.0)
                (λ j. taken_at (λ entry. Contains (actors plan.topology) entry.0) (record { 0 = j }) (slice_index_or slots j Empty) (λ taken d. stand.only (record { 0 = j }) taken));
            each = λ a member. names_at 0 slots a.0 a.0 (omega arith) (stands_taken a (slot_at slots a) (stand.each a member));
          }

      pub disks_keep : AllByRecursion (KeepsIn port plan s) (disks_from 0 slots)
      disks_keep =
          at_number (KeepsIn port plan s)
          (λ j. keeps_at (record { 0 = j }) (slice_index_or slots j Empty) (λ taken. stand.each (record { 0 = j }) (stand.only (record { 0 = j }) taken)))
