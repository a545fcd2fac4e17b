-- What putting actors into slots leaves.
use Rattle.std.proofs.Common.{◌≡◌, ℕ, zero, suc, ◌<◌, ◌==◌, Bool, true, false, cond, List, [], ◌∷◌, ◌++◌, ◌||◌, map, length, Contains, IsTrue, Result, Ok, Err, OnOk, refl, sym, ◌∙◌, ap, subst, arith, ⊎_elim}
use Rattle.std.proofs.lemmas.Bool.{eq-eqb, eqb-true}
use Rattle.std.proofs.lemmas.List.Elements.{Contains-append_cases}
use Rattle.std.specs.List.{AllByRecursion, list_any, slice_index_or}
use Rattle.acc_stamp.specs.declared.actors.Actor.{Actor}
use Rattle.acc_stamp.specs.Actor.{actor_of}
use Rattle.acc_topology.specs.Sets.{is_among}
use Rattle.acc_ports.specs.declared.disk.Disk.{Ghosts}
use Rattle.acc_message.specs.declared.item.Item.{Item}
use Rattle.acc_message.specs.Run.{is_down}
use Rattle.acc_durable_node.specs.declared.node.DurableNode.{DurableNode}
use Rattle.acc_durable_store.specs.declared.store.DurableStore.{DurableStore}
use Rattle.acc_durable_store.specs.Store as durable_store
use Rattle.acc_schedule.specs.Actors.{actors}
use Rattle.acc_schedule.specs.Content.{Content}
use Rattle.acc_schedule_runs.specs.Situations.{opened}
use Rattle.acc_schedule_runs.specs.Disks.{fresh_disks}
use Rattle.acc_actors.specs.declared.slot.Slot.{Slot}
use Rattle.acc_actors.specs.declared.slot.Slot.TheVariants.{Empty}
use Rattle.acc_actors.specs.Slots.{SlotStands, IsStrictSlot, IsTaken}
use Rattle.acc_actors.specs.Opened.{HasDone, HasTaken, IsUnarmed}
use Rattle.acc_cluster.specs.Stands.{slot_at, AreActors}
use Rattle.acc_cluster.specs.Safe.{most_opened, IsSafe, HasLowPast, TookLow}
use Rattle.acc_cluster.specs.Opened.{AreActorsOf, IsEarlier, AreFilled, AreFilledStrictly}

-- ---- lists

module _ {X : Type 0} (P : X → Type 0) where
  pub all_push : (xs : List X) (x : X) → AllByRecursion P xs → P x → AllByRecursion P (xs ++ x ∷ [])
  all_push [] x h one = (one, tt)
  all_push (first ∷ xs) x h one = (h.0, all_push xs x h.1 one)

  pub all_before : (xs : List X) (x : X) → AllByRecursion P (xs ++ x ∷ []) → AllByRecursion P xs × P x
  all_before [] x h = (tt, h.0)
  all_before (first ∷ xs) x h = let rest = all_before xs x h.1 in ((h.0, rest.0), rest.1)

  pub all_seam : (before : List X) (x : X) (after : List X) → AllByRecursion P (before ++ x ∷ after) → P x
  all_seam [] x after h = h.0
  all_seam (first ∷ before) x after h = all_seam before x after h.1

pub all_turn : {X : Type 0} (P Q : X → Type 0) → ((x : X) → P x → Q x) → (xs : List X) → AllByRecursion P xs → AllByRecursion Q xs
all_turn P Q turn [] h = tt
all_turn P Q turn (x ∷ xs) h = (turn x h.0, all_turn P Q turn xs h.1)

-- ---- results

pub on_ok : {A E P Q : Type 0} (r : Result A E) → (P → Q) → OnOk r P → OnOk r Q
on_ok (Ok x) turn h = turn h
on_ok (Err e) turn h = tt

-- ---- one slot more

-- the slots behind a put of one at the number of an actor
module _ {D : Type 0} (before after : List (Slot D)) (own : Actor) (slot : Slot D)
    (put : (k : ℕ) → slice_index_or after k Empty ≡ cond (k == own.0) slot (slice_index_or before k Empty)) where
  -- what holds of that slot and of the others
  pub at_each : (P : Actor → Slot D → Type 0) → (IsTaken slot → P own slot) → ((a : Actor) → IsTaken (slot_at before a) → P a (slot_at before a))
      → (a : Actor) → IsTaken (slot_at after a) → P a (slot_at after a)
  at_each P here there a = subst (λ x. IsTaken x → P a x) (sym (put a.0)) (by (a.0 == own.0) refl)
    where
      by : (b : Bool) → (a.0 == own.0) ≡ b → IsTaken (cond b slot (slot_at before a)) → P a (cond b slot (slot_at before a))
      by true is taken =
          let same : own ≡ a = ap (λ (n : ℕ). number_to n) (sym (eqb-true a.0 own.0 is)) in
          subst (λ (x : Actor). P x slot) same (here taken)
        where
          number_to : ℕ → Actor
          number_to n = record { 0 = n }
      by false is taken = there a taken

  pub still_taken : IsTaken slot → (a : Actor) → IsTaken (slot_at before a) → IsTaken (slot_at after a)
  still_taken new a taken = subst IsTaken (sym (put a.0)) (by (a.0 == own.0))
    where
      by : (b : Bool) → IsTaken (cond b slot (slot_at before a))
      by true = new
      by false = taken

  pub now_taken : IsTaken slot → IsTaken (slot_at after own)
  now_taken new = subst IsTaken (sym (put own.0)) (subst (λ b. IsTaken (cond b slot (slot_at before own))) (sym (eq-eqb own.0 own.0 refl)) new)

-- ---- a node or a store more

module _ {D : Type 0} (port : Ghosts D) (plan : Content) where
  module _ (before after : List (Slot D)) (nodes : List (DurableNode D)) (stores : List (DurableStore D)) (slot : Slot D) (new : IsTaken slot) where
    pub filled_node : (number : ℕ) (n : DurableNode D) → n.name.number ≡ number
        → ((k : ℕ) → slice_index_or after k Empty ≡ cond (k == (actor_of number 0).0) slot (slice_index_or before k Empty))
        → Contains (actors plan.topology) (actor_of number 0)
        → ((earlier : List Item) → ((b : Actor) → is_down b earlier ≡ false) → HasDone plan earlier n → SlotStands port plan (opened earlier) (actor_of number 0) slot)
        → (HasLowPast plan n → IsSafe port plan most_opened (actor_of number 0) slot)
        → AreFilled port plan nodes stores before → AreFilled port plan (nodes ++ n ∷ []) stores after
    filled_node number n numbered put member opens low filled =
        record {
          only = at_each before after own slot put (λ a x. Contains (actors plan.topology) a) (λ taken. member) filled.only;
          nodes_there =
              all_push (λ (m : DurableNode D). IsTaken (slot_at after (actor_of m.name.number 0))) nodes n
              (all_turn (λ (m : DurableNode D). IsTaken (slot_at before (actor_of m.name.number 0))) (λ (m : DurableNode D). IsTaken (slot_at after (actor_of m.name.number 0)))
              (λ m. still_taken before after own slot put new (actor_of m.name.number 0)) nodes filled.nodes_there)
              (subst (λ (k : ℕ). IsTaken (slot_at after (actor_of k 0))) (sym numbered) (now_taken before after own slot put new));
          stores_there =
              all_turn (λ (t : DurableStore D). IsTaken (slot_at before (durable_store.actor_in t))) (λ (t : DurableStore D). IsTaken (slot_at after (durable_store.actor_in t)))
              (λ t. still_taken before after own slot put new (durable_store.actor_in t)) stores filled.stores_there;
          stand = λ earlier up did took.
              let parts = all_before (HasDone plan earlier) nodes n did in
              at_each before after own slot put (SlotStands port plan (opened earlier)) (λ taken. opens earlier up parts.1) (filled.stand earlier up parts.0 took);
          safe = λ did took.
              let parts = all_before (HasLowPast plan) nodes n did in
              at_each before after own slot put (IsSafe port plan most_opened) (λ taken. low parts.1) (filled.safe parts.0 took);
        }
      where
        own : Actor
        own = actor_of number 0

    pub filled_store : (t : DurableStore D)
        → ((k : ℕ) → slice_index_or after k Empty ≡ cond (k == (durable_store.actor_in t).0) slot (slice_index_or before k Empty))
        → Contains (actors plan.topology) (durable_store.actor_in t)
        → ((earlier : List Item) → ((b : Actor) → is_down b earlier ≡ false) → HasTaken plan earlier t → SlotStands port plan (opened earlier) (durable_store.actor_in t) slot)
        → (TookLow plan t → IsSafe port plan most_opened (durable_store.actor_in t) slot)
        → AreFilled port plan nodes stores before → AreFilled port plan nodes (stores ++ t ∷ []) after
    filled_store t put member opens low filled =
        record {
          only = at_each before after own slot put (λ a x. Contains (actors plan.topology) a) (λ taken. member) filled.only;
          nodes_there =
              all_turn (λ (m : DurableNode D). IsTaken (slot_at before (actor_of m.name.number 0))) (λ (m : DurableNode D). IsTaken (slot_at after (actor_of m.name.number 0)))
              (λ m. still_taken before after own slot put new (actor_of m.name.number 0)) nodes filled.nodes_there;
          stores_there =
              all_push (λ (u : DurableStore D). IsTaken (slot_at after (durable_store.actor_in u))) stores t
              (all_turn (λ (u : DurableStore D). IsTaken (slot_at before (durable_store.actor_in u))) (λ (u : DurableStore D). IsTaken (slot_at after (durable_store.actor_in u)))
              (λ u. still_taken before after own slot put new (durable_store.actor_in u)) stores filled.stores_there)
              (now_taken before after own slot put new);
          stand = λ earlier up did took.
              let parts = all_before (HasTaken plan earlier) stores t took in
              at_each before after own slot put (SlotStands port plan (opened earlier)) (λ taken. opens earlier up parts.1) (filled.stand earlier up did parts.0);
          safe = λ did took.
              let parts = all_before (TookLow plan) stores t took in
              at_each before after own slot put (IsSafe port plan most_opened) (λ taken. low parts.1) (filled.safe did parts.0);
        }
      where
        own : Actor
        own = durable_store.actor_in t

  -- over strict disks
  module _
      (before after : List (Slot D)) (nodes : List (DurableNode D)) (stores : List (DurableStore D)) (own : Actor) (slot : Slot D)
      (put : (k : ℕ) → slice_index_or after k Empty ≡ cond (k == own.0) slot (slice_index_or before k Empty)) where
    pub filled_node_strictly : (n : DurableNode D)
        → (IsUnarmed port n.journal.disk → (earlier : List Item) → IsStrictSlot port plan (opened earlier) fresh_disks own slot)
        → AreFilledStrictly port plan nodes stores before → AreFilledStrictly port plan (nodes ++ n ∷ []) stores after
    filled_node_strictly n opens filled unarmed earlier =
        let parts = all_before (λ (m : DurableNode D). IsUnarmed port m.journal.disk) nodes n unarmed.nodes_are in
        at_each before after own slot put (IsStrictSlot port plan (opened earlier) fresh_disks) (λ taken. opens parts.1 earlier)
        (filled (record { nodes_are = parts.0; stores_are = unarmed.stores_are }) earlier)

    pub filled_store_strictly : (t : DurableStore D)
        → (IsUnarmed port t.journal.disk → (earlier : List Item) → IsStrictSlot port plan (opened earlier) fresh_disks own slot)
        → AreFilledStrictly port plan nodes stores before → AreFilledStrictly port plan nodes (stores ++ t ∷ []) after
    filled_store_strictly t opens filled unarmed earlier =
        let parts = all_before (λ (u : DurableStore D). IsUnarmed port u.journal.disk) stores t unarmed.stores_are in
        at_each before after own slot put (IsStrictSlot port plan (opened earlier) fresh_disks) (λ taken. opens parts.1 earlier)
        (filled (record { nodes_are = unarmed.nodes_are; stores_are = parts.0 }) earlier)

  -- ---- all of them

  in_map : {X : Type 0} (f : X → Actor) (P : Actor → Type 0) (xs : List X) (a : Actor) (k : ℕ) → k < length (map f xs) → slice_index_or (map f xs) k a ≡ a
      → AllByRecursion (λ x. P (f x)) xs → P a
  in_map f P [] a k low is h = absurd (omega (arith, low))
  in_map f P (x ∷ xs) a zero low is h = subst P is h.0
  in_map f P (x ∷ xs) a (suc k) low is h = in_map f P xs a k (omega (arith, low)) is h.1

  pub taken_everywhere : (nodes : List (DurableNode D)) (stores : List (DurableStore D)) (slots : List (Slot D)) → AreActorsOf plan nodes stores → AreFilled port plan nodes stores slots
      → (a : Actor) → Contains (actors plan.topology) a → IsTaken (slot_at slots a)
  taken_everywhere nodes stores slots are filled a member =
      ⊎_elim (λ here. in_map (λ (n : DurableNode D). actor_of n.name.number 0) (λ b. IsTaken (slot_at slots b)) nodes a here.0 here.1 here.2 filled.nodes_there)
      (λ there. in_map durable_store.actor_in (λ b. IsTaken (slot_at slots b)) stores a there.0 there.1 there.2 filled.stores_there)
      (Contains-append_cases (map (λ (n : DurableNode D). actor_of n.name.number 0) nodes) (map durable_store.actor_in stores) a (are.each a member))

  pub filled_actors : (nodes : List (DurableNode D)) (stores : List (DurableStore D)) (slots : List (Slot D)) → AreActorsOf plan nodes stores → AreFilled port plan nodes stores slots
      → (earlier : List Item) → IsEarlier plan nodes stores earlier → AreActors port plan slots (opened earlier)
  filled_actors nodes stores slots are filled earlier is =
      record {
        each = λ a member. filled.stand earlier is.up is.nodes_did is.stores_did a (taken_everywhere nodes stores slots are filled a member);
        only = filled.only;
      }

-- ---- the numbers of nodes

pub number_at : {D : Type 0} (before : List (DurableNode D)) (n : DurableNode D) (after : List (DurableNode D)) (numbers : List ℕ) (d : ℕ)
    → map (λ (m : DurableNode D). m.name.number) (before ++ n ∷ after) ≡ numbers → n.name.number ≡ slice_index_or numbers (length before) d
number_at {D} before n after numbers d is = by before after ∙ ap (λ (xs : List ℕ). slice_index_or xs (length before) d) is
  where
    by : (before after : List (DurableNode D)) → n.name.number ≡ slice_index_or (map (λ (m : DurableNode D). m.name.number) (before ++ n ∷ after)) (length before) d
    by [] after = refl
    by (first ∷ before) after = by before after

pub is_member : (numbers : List ℕ) (k d : ℕ) → k < length numbers → IsTrue (is_among numbers (slice_index_or numbers k d))
is_member [] k d low = absurd (omega (arith, low))
is_member (number ∷ numbers) zero d low = by (list_any (λ m. m == number) numbers) (eq-eqb number number refl)
  where
    by : (rest : Bool) → (number == number) ≡ true → ((number == number) || rest) ≡ true
    by rest same = ap (λ b. b || rest) same
is_member (number ∷ numbers) (suc k) d low = by (number == slice_index_or numbers k d) (is_member numbers k d (omega (arith, low)))
  where
    by : (here : Bool) {rest : Bool} → rest ≡ true → (here || rest) ≡ true
    by true h = refl
    by false h = h
