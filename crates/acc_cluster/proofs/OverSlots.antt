-- A cluster over actors that stand already: its history of the items, and the actors in their slots.
use Rattle.std.proofs.Common.{◌≡◌, ℕ, ◌<◌, ◌^◌, ◌==◌, cond, List, [], ◌∷◌, ◌++◌, reverse, map, length, Contains, Option, None, Some, refl, sym, ◌∙◌, ap, subst, arith}
use Rattle.std.specs.List.{AllByRecursion, slice_index_or}
use Rattle.std.specs.Option.{option_map}
use Rattle.std.proofs.lemmas.List.{append_assoc, length-append, reverse-append}
use Rattle.std.proofs.lemmas.List.Elements.{Contains-append_left, Contains-append_right}
use Rattle.std.proofs.lemmas.Option.{slice_get_within}
use Rattle.acc_stamp.specs.declared.actors.Actor.{Actor}
use Rattle.acc_ports.specs.declared.disk.Disk.{Ghosts}
use Rattle.acc_message.specs.declared.message.Message.{Message}
use Rattle.acc_message.specs.declared.entry.Event.{Event}
use Rattle.acc_message.specs.declared.entry.Event.TheVariants.{Begin, Recover, Slow, Message as MessageEvent, Restart}
use Rattle.acc_message.specs.declared.item.Item.{Item}
use Rattle.acc_message.specs.declared.item.Item.TheVariants.{Step, Skipped, Down}
use Rattle.acc_message.specs.Items.{sent_in, sent_of, message_at}
use Rattle.acc_message.specs.NodeRules.{Act, Takes}
use Rattle.acc_message_code.specs.Weight.{weight_of}
use Rattle.acc_message.specs.Run.{Cluster as RunCluster, act_of, Stands, EachStands}
use Rattle.acc_actor_laws.proofs.Standing.{not_none}
use Rattle.acc_run_laws.specs.Sends.{AreFew, HasFewBodies, AreSendable}
use Rattle.acc_run_laws.proofs.Sendable.{each_sendable}
use Rattle.acc_safety.specs.Places.{First}
use Rattle.acc_safety.specs.Valid.{IsStanding}
use Rattle.acc_safety.proofs.PlaceOrder.{Contains-IsIn, IsIn-map, each_at}
use Rattle.acc_safety.proofs.SentFacts.{EachStands-after}
use Rattle.acc_schedule.specs.Actors.{actors}
use Rattle.acc_schedule.specs.Content.{Content}
use Rattle.acc_pasts.proofs.Situations.{joined_alone}
use Rattle.acc_schedule_runs.specs.Situations.{Stopped, Situation, whole}
use Rattle.acc_schedule_runs.specs.Schedules.{cluster_of}
use Rattle.acc_schedule_runs.specs.Disks.{Disks}
use Rattle.acc_schedule_runs.specs.Limits.{IsWithin}
use Rattle.acc_history.specs.Stands as history
use Rattle.acc_actors.specs.declared.slot.Slot.{Slot}
use Rattle.acc_actors.specs.declared.slot.Slot.TheVariants.{Empty, Node, Store}
use Rattle.acc_actors.specs.Slots.{SlotStands, IsStrictSlot, IsTaken}
use Rattle.acc_cluster.specs.declared.cluster.Cluster.{Cluster}
use Rattle.acc_cluster.specs.Stands.{slot_at, AreActors, AreStrict, StandsFor}
use Rattle.acc_cluster.specs.Over.{behind_items, actor_in, AreSlotsOf, IsOver, AreStrictSlots, ArePlaced, IsHistoryOver}
use Rattle.acc_cluster.proofs.Filled.{all_push, all_before, all_turn, at_each, still_taken, now_taken}

-- ---- the slots

pub none_placed : {D : Type 0} → ArePlaced {D = D} [] []
none_placed = record { there = λ all. tt; known = λ a taken. absurd taken }

module _ {D : Type 0} (before after : List (Slot D)) (own : Actor) (slot : Slot D)
    (put : (k : ℕ) → slice_index_or after k Empty ≡ cond (k == own.0) slot (slice_index_or before k Empty)) where
  pub one_placed : (slots : List (Actor × Slot D)) → ArePlaced slots before → ArePlaced (slots ++ (own, slot) ∷ []) after
  one_placed slots h = record {
    there = λ all.
        let parts = all_before (λ (one : Actor × Slot D). IsTaken one.1) slots (own, slot) all in
        all_push (λ (one : Actor × Slot D). IsTaken (slot_at after one.0)) slots (own, slot)
        (all_turn (λ (one : Actor × Slot D). IsTaken (slot_at before one.0)) (λ (one : Actor × Slot D). IsTaken (slot_at after one.0))
        (λ one. still_taken before after own slot put parts.1 one.0) slots (h.there parts.0))
        (now_taken before after own slot put parts.1);
    known = at_each before after own slot put (λ a x. Contains (slots ++ (own, slot) ∷ []) (a, x))
        (λ taken. Contains-append_right slots ((own, slot) ∷ []) (own, slot) (last (own, slot)))
        (λ a taken. Contains-append_left slots ((own, slot) ∷ []) (a, slot_at before a) (h.known a taken));
  }
    where
      last : (x : Actor × Slot D) → Contains (x ∷ []) x
      last x = (0, omega arith, refl)

-- ---- the actors

module _ {D : Type 0} (slots : List (Actor × Slot D)) (placed : List (Slot D)) (are : ArePlaced slots placed) where
  -- what holds of each pair holds of each actor that stands somewhere
  pub at_its_place : (P : Actor → Slot D → Type 0) → AllByRecursion (λ (one : Actor × Slot D). P one.0 one.1) slots → (a : Actor) → IsTaken (slot_at placed a) → P a (slot_at placed a)
  at_its_place P all a taken =
      each_at (λ (one : Actor × Slot D). P one.0 one.1) (a, slot_at placed a) slots all (Contains-IsIn (a, slot_at placed a) slots (are.known a taken))

  module _ (plan : Content) (of : AreSlotsOf plan slots) (all : AllByRecursion (λ (one : Actor × Slot D). IsTaken one.1) slots) where
    pub stands_there : (a : Actor) → Contains (actors plan.topology) a → IsTaken (slot_at placed a)
    stands_there a member =
        let from = IsIn-map actor_in a slots (Contains-IsIn a (map actor_in slots) (of.each a member)) in
        subst (λ (x : Actor). IsTaken (slot_at placed x)) (sym from.is)
        (each_at (λ (one : Actor × Slot D). IsTaken (slot_at placed one.0)) from.source slots (are.there all) from.there)

is_taken : {D : Type 0} (port : Ghosts D) (plan : Content) (s : Situation) (a : Actor) (slot : Slot D) → SlotStands port plan s a slot → IsTaken slot
is_taken port plan s a Empty stands = absurd stands
is_taken port plan s a (Node n) stands = tt
is_taken port plan s a (Store t) stands = tt

module _ {D : Type 0} (port : Ghosts D) (plan : Content) (slots : List (Actor × Slot D)) (placed : List (Slot D)) (are : ArePlaced slots placed) (of : AreSlotsOf plan slots)
    (items : List Item) (stopped : List Stopped) (over : IsOver port plan slots items stopped) where
  all_taken : AllByRecursion (λ (one : Actor × Slot D). IsTaken one.1) slots
  all_taken =
      all_turn (λ (one : Actor × Slot D). SlotStands port plan (behind_items items stopped) one.0 one.1) (λ (one : Actor × Slot D). IsTaken one.1)
      (λ one stands. is_taken port plan (behind_items items stopped) one.0 one.1 stands) slots over.stand

  pub actors_stand : AreActors port plan placed (behind_items items stopped)
  actors_stand = record {
    each = λ a member.
        at_its_place slots placed are (SlotStands port plan (behind_items items stopped)) over.stand a (stands_there slots placed are plan of all_taken a member);
    only = λ a taken. at_its_place slots placed are (λ b x. Contains (actors plan.topology) b) of.known a taken;
  }

  pub actors_strictly : (disks : Disks)
      → AreStrictSlots port plan (behind_items items stopped) disks slots → AreStrict port plan placed (behind_items items stopped) disks
  actors_strictly disks all = λ a member.
      at_its_place slots placed are (IsStrictSlot port plan (behind_items items stopped) disks) all a (stands_there slots placed are plan of all_taken a member)

  pub cluster_stands : (cluster : Cluster D) → cluster.slots.items ≡ placed → IsHistoryOver items stopped cluster.history → StandsFor port plan cluster (behind_items items stopped)
  cluster_stands cluster slots_are h = record {
    sound = over.sound;
    room = omega arith;
    past = record { stands = h.stands; weighed = h.weighed; within = over.within };
    actors = subst (λ (l : List (Slot D)). AreActors port plan l (behind_items items stopped)) (sym slots_are) actors_stand;
  }

-- ---- the history

pub items_standing : (plan : Content) (items : List Item) (stopped : List Stopped) → IsStanding (cluster_of plan) (whole (behind_items items stopped)) → IsStanding (cluster_of plan) (reverse items)
items_standing plan items stopped standing = subst (IsStanding (cluster_of plan)) (joined_alone (reverse items)) standing

pub few_items : (items : List Item) → IsWithin items → AreFew items
few_items items within = let few = within.few in omega (arith, few)

-- the message that an event takes was sent
event_sent : (cluster : RunCluster) (s : Situation) (event : Event) (act : Act) → act_of cluster s.own event ≡ Some act → history.EventTakesSent s event
event_sent cluster s (Begin txn) act is = tt
event_sent cluster s (Recover txn) act is = tt
event_sent cluster s (Slow txn) act is = tt
event_sent cluster s (Restart kept) act is = tt
event_sent cluster s (MessageEvent number) act is = sent (message_at s.own number) refl is
  where
    sent : (o : Option Message) → message_at s.own number ≡ o → option_map Takes o ≡ Some act → number < length (sent_of s.own)
    sent None e found = absurd (not_none act found)
    sent (Some m) e found = slice_get_within (sent_of s.own) number m e

takes_sent : (cluster : RunCluster) (s : Situation) (item : Item) → Stands cluster s.own item → history.TakesSent s item
takes_sent cluster s (Step e) stands = event_sent cluster s e.event stands.act stands.act_is
takes_sent cluster s (Skipped step cause) stands = tt
takes_sent cluster s (Down actor) stands = tt

-- an item among others, the oldest first
module _ (before : List Item) (item : Item) (after : List Item) where
  turned : reverse (before ++ item ∷ after) ≡ reverse after ++ item ∷ reverse before
  turned =
      reverse-append before (item ∷ after) ∙ ap (λ (l : List Item). l ++ reverse before) (reverse-append (item ∷ []) after)
      ∙ append_assoc (reverse after) (item ∷ []) (reverse before)

  pub seam_standing : (cluster : RunCluster) → IsStanding cluster (reverse (before ++ item ∷ after)) → IsStanding cluster (item ∷ reverse before)
  seam_standing cluster standing = record {
    valid = standing.valid;
    stands = EachStands-after cluster (reverse after) (item ∷ reverse before) (subst (EachStands cluster) turned standing.stands);
  }

  pub seam_few : AreFew (reverse (before ++ item ∷ after)) → AreFew (item ∷ reverse before)
  seam_few few =
      let all : length (reverse after ++ item ∷ reverse before) < 2 ^ 31 = subst (λ (l : List Item). length l < 2 ^ 31) turned few in
      let long = length-append (reverse after) (item ∷ reverse before) in
      omega (arith, all, long)

  -- what is asked of its messages
  pub seam_sendable : (cluster : RunCluster) → IsStanding cluster (reverse (before ++ item ∷ after)) → HasFewBodies cluster → AreFew (reverse (before ++ item ∷ after)) → AreSendable (sent_in item)
  seam_sendable cluster standing bodies few =
      each_sendable cluster item (item ∷ reverse before) (seam_standing cluster standing) bodies (seam_few few) (First item (reverse before))

  -- it can stand behind those before it
  pub seam_follows : (cluster : RunCluster) → IsStanding cluster (reverse (before ++ item ∷ after)) → HasFewBodies cluster → AreFew (reverse (before ++ item ∷ after)) → history.MayFollow before item
  seam_follows cluster standing bodies few =
      let sendable = seam_sendable cluster standing bodies few in
      let light : weight_of item < 2 ^ 63 = sendable.weight in
      record {
        takes = takes_sent cluster (behind_items before []) item (seam_standing cluster standing).stands.0;
        short = sendable.short;
        fits = omega (arith, light);
      }
