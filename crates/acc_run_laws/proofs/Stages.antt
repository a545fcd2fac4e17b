-- Each item leaves every message of the run bounded, and every stamp and clock low: by induction over the items.
use Rattle.std.proofs.Common.{◌≡◌, ℕ, ◌+◌, ◌≤◌, Bool, true, false, List, [], ◌∷◌, ◌++◌, refl, sym, ◌∙◌, ap, subst, arith, ⊎_elim}
use Rattle.std.specs.List.{AllByRecursion, flat_map}
use Rattle.acc_stamp.specs.declared.stamps.TxnId.{TxnId}
use Rattle.acc_stamp.specs.declared.actors.Actor.{Actor}
use Rattle.acc_stamp.specs.Actor.{node_of}
use Rattle.acc_stamp.proofs.Rising.{each_append, each_weaker}
use Rattle.acc_topology.specs.Layout.{Layout, IsLayout}
use Rattle.acc_message.specs.declared.message.Message.{Message}
use Rattle.acc_message.specs.declared.note.Note.{Note}
use Rattle.acc_message.specs.declared.entry.Emitted.{Emitted}
use Rattle.acc_message.specs.declared.entry.Entry.{Entry}
use Rattle.acc_message.specs.declared.item.Item.{Item}
use Rattle.acc_message.specs.declared.item.Item.TheVariants.{Step, Skipped, Down}
use Rattle.acc_message.specs.Items.{sent_in, noted_in, same_actor}
use Rattle.acc_message.specs.Taken.{Taken, taking}
use Rattle.acc_message.specs.VoteRule.{greatest_h}
use Rattle.acc_message.specs.NodeRules.{Act, Begins, Recovers, Slows, Takes, Restarts, Deed, clock_of, next_draw, next_id}
use Rattle.acc_message.specs.Run.{Cluster, clock_start, deed_with, deed_if, deeds_of, taken_from, taken_of, store_emits, emits_by, is_node, StandsOn, EachStands}
use Rattle.acc_safety.specs.Valid.{IsValidCluster}
use Rattle.acc_safety.specs.Places.{IsIn, First, Whole}
use Rattle.acc_safety.specs.Histories.{Sending}
use Rattle.acc_safety.specs.RunLaws.{drawn_in, drawn_of}
use Rattle.acc_safety.specs.NodeMoves.{NodeNotes, NotesBegin, NotesRecover, NotesDecision, NotesOutcome, NotesReply, NotesTold, NotesBlocked, NotesEnded}
use Rattle.acc_safety.proofs.PlaceOrder.{IsIn-append_left, IsIn-append_right, none_is_in, each_at, each_from}
use Rattle.acc_safety.proofs.Bridge.{Sending-past, node_step, store_step}
use Rattle.acc_safety.proofs.StoreSent.{store_sends}
use Rattle.acc_safety.proofs.NodeSent.{node_sends, node_notes}
use Rattle.acc_run_laws.specs.Heights.{most_h, IsLowClock, clock_at}
use Rattle.acc_run_laws.proofs.Bounded.{IsLow, low_more, IsActor, IsAddressed, IsBounded, more_id, more_bounded, bounded_top}
use Rattle.acc_run_laws.proofs.Cells.{TookBounded}
use Rattle.acc_run_laws.proofs.StoreBounds.{SentBounded, greatest_h_low, store_bounded}
use Rattle.acc_run_laws.proofs.Addresses.{node_is_actor, IsKnownAct, node_addressed}
use Rattle.acc_run_laws.proofs.Clocks.{low_start, low_clock_more, HasLowTop, low_after, next_low}
use Rattle.acc_run_laws.proofs.NodeBounds.{IsBoundedAct, DidBounded, IsDrawn, node_bounded}
use Rattle.acc_run_laws.proofs.Begun.{begun_in, begun_of, store_notes_none}
use Rattle.acc_run_laws.proofs.RunBounds.{each_standing, each_flat, sending_cases, earlier_is_past, low_number, Stage, valid_start, act_bounded, acting}

drawn_note : (most : ℕ) (layout : Layout) (node start : ℕ) (past : List Deed) (act : Act) (note : Note) → IsLow most (next_draw node start past)
    → NodeNotes layout node start past act note → AllByRecursion (IsLow most) (drawn_in note)
drawn_note most layout node start past act note low (NotesBegin txn body) = (low, tt)
drawn_note most layout node start past act note low (NotesRecover x body) = (low, tt)
drawn_note most layout node start past act note low (NotesDecision on x a path s reacts) = tt
drawn_note most layout node start past act note low (NotesOutcome on x a s outcome reacts) = tt
drawn_note most layout node start past act note low (NotesReply on x a s outcome reacts is_open) = tt
drawn_note most layout node start past act note low (NotesTold from to x b outcome is_open) = tt
drawn_note most layout node start past act note low (NotesBlocked on x a by reacts) = tt
drawn_note most layout node start past act note low (NotesEnded on x a by reacts) = tt

-- a restart emits nothing
restart_sends_none : (b : Bool) (cluster : Cluster) (a : Actor) (past : List Deed) → (emits_by b cluster a past Restarts).out ≡ []
restart_sends_none true cluster a past = refl
restart_sends_none false cluster a past = refl

restart_notes_none : (b : Bool) (cluster : Cluster) (a : Actor) (past : List Deed) → (emits_by b cluster a past Restarts).notes ≡ []
restart_notes_none true cluster a past = refl
restart_notes_none false cluster a past = refl

pub known_act : (most : ℕ) (begun : List TxnId) (layout : Layout) (valid : IsLayout layout) (act : Act) → IsBoundedAct most begun act → IsKnownAct most begun layout valid act
known_act most begun layout valid (Begins txn body) h = tt
known_act most begun layout valid (Recovers x body) h = tt
known_act most begun layout valid (Slows x) h = h.low
known_act most begun layout valid (Takes m) h = h.id.low
known_act most begun layout valid Restarts h = tt

low_top : (most : ℕ) (begun : List TxnId) (act : Act) → IsBoundedAct most begun act → HasLowTop most act
low_top most begun (Begins txn body) h = tt
low_top most begun (Recovers x body) h = tt
low_top most begun (Slows x) h = tt
low_top most begun (Takes m) h = bounded_top most begun m h
low_top most begun Restarts h = tt

module _ (most more : ℕ) (begun also : List TxnId) (le : most ≤ more) (within : (x : TxnId) → IsIn x begun → IsIn x also) where
  more_act : (act : Act) → IsBoundedAct most begun act → IsBoundedAct more also act
  more_act (Begins txn body) h = h
  more_act (Recovers x body) h = (more_id most more begun also le within x h.0, h.1)
  more_act (Slows x) h = more_id most more begun also le within x h
  more_act (Takes m) h = more_bounded most more begun also le within m h
  more_act Restarts h = tt

-- ---- what actors did and took

module _ (cluster : Cluster) (valid : IsValidCluster cluster) (earlier : List Item) (each : EachStands cluster earlier) (stage : Stage cluster earlier) where
  pub did_bounded : (a : Actor) → DidBounded (most_h earlier) (begun_of earlier) (deeds_of cluster a earlier)
  did_bounded a =
      each_standing (λ (deed : Deed). IsBoundedAct (most_h earlier) (begun_of earlier) deed.act) (deeds_of cluster a earlier)
      (λ deed past at.
      let n = node_step cluster a earlier each deed past at in
      act_bounded cluster valid earlier stage n.earlier (earlier_is_past (Step n.entry) n.earlier earlier n.at) n.entry.event deed.act n.act_is)

  pub took_bounded : (a : Actor) → TookBounded (most_h earlier) (begun_of earlier) (taken_of cluster a earlier)
  took_bounded a =
      each_standing (λ (step : Taken). IsBounded (most_h earlier) (begun_of earlier) step.message) (taken_of cluster a earlier)
      (λ step past at.
      let s = store_step cluster a earlier each step past at in
      stage.messages step.message (Sending-past s.earlier earlier step.message (earlier_is_past (Step s.entry) s.earlier earlier s.at) s.sending))

  pub sent_bounded : (a : Actor) → SentBounded (most_h earlier) (begun_of earlier) (taken_of cluster a earlier)
  sent_bounded a =
      each_standing (λ (step : Taken). AllByRecursion (IsBounded (most_h earlier) (begun_of earlier)) step.sent) (taken_of cluster a earlier)
      (λ step past at.
      let s = store_step cluster a earlier each step past at in
      each_from (IsBounded (most_h earlier) (begun_of earlier)) step.sent
      (λ m there. stage.messages m (record { entry = s.entry; earlier = s.earlier; at = s.at; sent = subst (IsIn m) (sym s.out_is) there })))

  -- ---- an entry

  module _ (e : Entry) (s : StandsOn cluster earlier e) where
    abbrev past : List Deed
    past = deeds_of cluster e.actor earlier

    abbrev node : ℕ
    node = node_of e.actor

    abbrev start : ℕ
    start = clock_start cluster.starts (node_of e.actor)

    abbrev more : ℕ
    more = most_h earlier + 1

    abbrev also : List TxnId
    also = begun_of (Step e ∷ earlier)

    le : most_h earlier ≤ more
    le = omega arith

    within : (x : TxnId) → IsIn x (begun_of earlier) → IsIn x also
    within x there = IsIn-append_right x (flat_map begun_in e.emitted.notes) (begun_of earlier) there

    older : (m : Message) → IsBounded (most_h earlier) (begun_of earlier) m → IsBounded more also m
    older m h = more_bounded (most_h earlier) more (begun_of earlier) also le within m h

    act_here : IsBoundedAct (most_h earlier) (begun_of earlier) s.act
    act_here = act_bounded cluster valid earlier stage earlier (Whole earlier) e.event s.act s.act_is

    emitted_is : (b : Bool) → is_node e.actor ≡ b → e.emitted ≡ emits_by b cluster e.actor past s.act
    emitted_is b is = s.emitted ∙ ap (λ k. emits_by k cluster e.actor past s.act) is

    did : DidBounded more also past
    did = each_weaker (λ (deed : Deed). IsBoundedAct (most_h earlier) (begun_of earlier) deed.act) (λ (deed : Deed). IsBoundedAct more also deed.act) past
        (λ deed h. more_act (most_h earlier) more (begun_of earlier) also le within deed.act h) (did_bounded e.actor)

    took : TookBounded more also (taken_from past)
    took = each_weaker (λ (step : Taken). IsBounded (most_h earlier) (begun_of earlier) step.message) (λ (step : Taken). IsBounded more also step.message) (taken_from past)
        (λ step h. older step.message h) (took_bounded e.actor)

    sent : SentBounded more also (taken_from past)
    sent = each_weaker (λ (step : Taken). AllByRecursion (IsBounded (most_h earlier) (begun_of earlier)) step.sent) (λ (step : Taken). AllByRecursion (IsBounded more also) step.sent) (taken_from past)
        (λ step h. each_weaker (IsBounded (most_h earlier) (begun_of earlier)) (IsBounded more also) step.sent older h) (sent_bounded e.actor)

    clock : IsLowClock more (clock_of node start past)
    clock = low_clock_more (most_h earlier) more (clock_of node start past) le (stage.clocks e.actor)

    next : IsActor e.actor → IsLow more (next_draw node start past)
    next actor = next_low node start (most_h earlier) past (low_number e.actor actor) (stage.clocks e.actor)

    great : (m : Message) → IsBounded (most_h earlier) (begun_of earlier) m → 1 + greatest_h e.actor (taking m (taken_from past)) ≤ more
    great m h =
        let most = greatest_h_low (most_h earlier) (begun_of earlier) e.actor (taking m (taken_from past)) (h, took_bounded e.actor) (tt, sent_bounded e.actor) in
        omega (arith, most)

    by_store : (m : Message) → is_node e.actor ≡ false → IsActor e.actor → (act : Act) → IsBoundedAct (most_h earlier) (begun_of earlier) act
        → IsIn m (store_emits cluster.layout e.actor (taken_from past) act).out → IsBounded more also m
    by_store m store actor (Takes taken) h there =
        store_bounded more also cluster.layout e.actor actor store (taken_from past) took sent taken m (older taken h) (great taken h)
        (store_sends cluster.layout e.actor (taken_from past) taken m there)
    by_store m store actor (Begins txn body) h there = absurd (none_is_in m there)
    by_store m store actor (Recovers x body) h there = absurd (none_is_in m there)
    by_store m store actor (Slows x) h there = absurd (none_is_in m there)
    by_store m store actor Restarts h there = absurd (none_is_in m there)

    drawn_here : (few : node_of e.actor ≤ 15) → is_node e.actor ≡ true → IsActor e.actor → (act : Act) → s.act ≡ act
        → IsDrawn more also cluster.layout node start few past did clock act
    drawn_here few is actor (Begins txn body) same = record {
      there =
          IsIn-append_left (next_id node start past) (flat_map begun_in e.emitted.notes) (begun_of earlier)
          (subst (λ (m : Emitted). IsIn (next_id node start past) (flat_map begun_in m.notes))
          (sym (emitted_is true is ∙ ap (emits_by true cluster e.actor past) same)) (First (next_id node start past) []));
      low = next actor;
    }
    drawn_here few is actor (Recovers x body) same = next actor
    drawn_here few is actor (Slows x) same = tt
    drawn_here few is actor (Takes m) same = tt
    drawn_here few is actor Restarts same = tt

    by_node : (m : Message) → is_node e.actor ≡ true → IsActor e.actor → IsIn m (emits_by true cluster e.actor past s.act).out → IsBounded more also m
    by_node m is actor there =
        let few = low_number e.actor actor in
        let act = more_act (most_h earlier) more (begun_of earlier) also le within s.act act_here in
        node_bounded more also cluster.layout node start few past did clock s.act m act (drawn_here few is actor s.act refl) (node_is_actor node few)
        (each_at (IsAddressed more also) m (emits_by true cluster e.actor past s.act).out
        (node_addressed more also cluster.layout valid.layout node start past s.act (known_act more also cluster.layout valid.layout s.act act)).each there)
        e.emitted (node_sends cluster.layout node start past s.act m there)

    by_kind : (m : Message) (b : Bool) → is_node e.actor ≡ b → IsActor e.actor → IsIn m (emits_by b cluster e.actor past s.act).out → IsBounded more also m
    by_kind m true is actor there = by_node m is actor there
    by_kind m false is actor there = by_store m is actor s.act act_here there

    pub new_message : (m : Message) → IsIn m e.emitted.out → IsBounded more also m
    new_message m there =
        ⊎_elim (λ actor. by_kind m (is_node e.actor) refl actor (subst (λ (k : Emitted). IsIn m k.out) s.emitted there))
        (λ restarts.
        absurd (none_is_in m (subst (IsIn m) (restart_sends_none (is_node e.actor) cluster e.actor past)
        (subst (λ act. IsIn m (emits_by (is_node e.actor) cluster e.actor past act).out) restarts (subst (λ (k : Emitted). IsIn m k.out) s.emitted there)))))
        (acting cluster valid earlier stage e.event e.actor s.act s.act_is s.place)

    -- ---- draws and clocks

    drawn_by : (b : Bool) → is_node e.actor ≡ b → IsActor e.actor → AllByRecursion (IsLow more) (flat_map drawn_in (emits_by b cluster e.actor past s.act).notes)
    drawn_by true is actor =
        each_flat (IsLow more) drawn_in (emits_by true cluster e.actor past s.act).notes
        (λ note there. drawn_note more cluster.layout node start past s.act note (next actor) (node_notes cluster.layout node start past s.act note there))
    drawn_by false is actor = subst (λ notes. AllByRecursion (IsLow more) (flat_map drawn_in notes)) (sym (store_notes_none cluster.layout e.actor (taken_from past) s.act)) tt

    new_drawn : AllByRecursion (IsLow more) (flat_map drawn_in e.emitted.notes)
    new_drawn =
        subst (λ (k : Emitted). AllByRecursion (IsLow more) (flat_map drawn_in k.notes)) (sym s.emitted)
        (⊎_elim (λ actor. drawn_by (is_node e.actor) refl actor)
        (λ restarts.
        subst (λ act. AllByRecursion (IsLow more) (flat_map drawn_in (emits_by (is_node e.actor) cluster e.actor past act).notes)) (sym restarts)
        (subst (λ notes. AllByRecursion (IsLow more) (flat_map drawn_in notes)) (sym (restart_notes_none (is_node e.actor) cluster e.actor past)) tt))
        (acting cluster valid earlier stage e.event e.actor s.act s.act_is s.place))

    clock_by : (a : Actor) (b : Bool) → IsLowClock more (clock_of (node_of a) (clock_start cluster.starts (node_of a)) (deed_if b cluster earlier e ++ deeds_of cluster a earlier))
    clock_by a true =
        subst (λ o. IsLowClock more (clock_of (node_of a) (clock_start cluster.starts (node_of a)) (deed_with o e.emitted ++ deeds_of cluster a earlier))) (sym s.act_is)
        (low_after (node_of a) (clock_start cluster.starts (node_of a)) (most_h earlier) s.act e.emitted (deeds_of cluster a earlier)
        (low_top (most_h earlier) (begun_of earlier) s.act act_here) (stage.clocks a))
    clock_by a false = low_clock_more (most_h earlier) more (clock_at cluster a earlier) le (stage.clocks a)

    one_more : more ≤ most_h (Step e ∷ earlier)
    one_more = omega arith

    keep : (x : TxnId) → IsIn x also → IsIn x also
    keep x there = there

    pub step_stage : Stage cluster (Step e ∷ earlier)
    step_stage = record {
      messages = λ m sending.
          more_bounded more (most_h (Step e ∷ earlier)) also also one_more keep m
          (⊎_elim (new_message m) (λ before. older m (stage.messages m before)) (sending_cases (Step e) earlier m sending));
      drawn =
          each_weaker (IsLow more) (IsLow (most_h (Step e ∷ earlier))) (drawn_of (Step e ∷ earlier)) (low_more more (most_h (Step e ∷ earlier)) one_more)
          (each_append (IsLow more) (flat_map drawn_in e.emitted.notes) (drawn_of earlier) new_drawn
          (each_weaker (IsLow (most_h earlier)) (IsLow more) (drawn_of earlier) (low_more (most_h earlier) more le) stage.drawn));
      clocks = λ a. low_clock_more more (most_h (Step e ∷ earlier)) (clock_at cluster a (Step e ∷ earlier)) one_more (clock_by a (same_actor e.actor a));
    }

-- an item that no actor steps in
module _ (cluster : Cluster) (earlier : List Item) (stage : Stage cluster earlier) (item : Item) (silent : sent_in item ≡ []) (noteless : noted_in item ≡ [])
    (idle : (a : Actor) → deeds_of cluster a (item ∷ earlier) ≡ deeds_of cluster a earlier) where
  longer : most_h earlier ≤ most_h (item ∷ earlier)
  longer = omega arith

  same_begun : (x : TxnId) → IsIn x (begun_of earlier) → IsIn x (begun_of (item ∷ earlier))
  same_begun x there = IsIn-append_right x (flat_map begun_in (noted_in item)) (begun_of earlier) there

  idle_stage : Stage cluster (item ∷ earlier)
  idle_stage = record {
    messages = λ m sending.
        ⊎_elim (λ here. absurd (none_is_in m (subst (IsIn m) silent here)))
        (λ before. more_bounded (most_h earlier) (most_h (item ∷ earlier)) (begun_of earlier) (begun_of (item ∷ earlier)) longer same_begun m (stage.messages m before))
        (sending_cases item earlier m sending);
    drawn =
        each_append (IsLow (most_h (item ∷ earlier))) (flat_map drawn_in (noted_in item)) (drawn_of earlier)
        (subst (λ notes. AllByRecursion (IsLow (most_h (item ∷ earlier))) (flat_map drawn_in notes)) (sym noteless) tt)
        (each_weaker (IsLow (most_h earlier)) (IsLow (most_h (item ∷ earlier))) (drawn_of earlier) (low_more (most_h earlier) (most_h (item ∷ earlier)) longer) stage.drawn);
    clocks = λ a.
        subst (λ deeds. IsLowClock (most_h (item ∷ earlier)) (clock_of (node_of a) (clock_start cluster.starts (node_of a)) deeds)) (sym (idle a))
        (low_clock_more (most_h earlier) (most_h (item ∷ earlier)) (clock_at cluster a earlier) longer (stage.clocks a));
  }

no_sending : (m : Message) → Sending [] m → ⊥
no_sending m s = elim s.at [ ]

pub stage_of : (cluster : Cluster) → IsValidCluster cluster → (items : List Item) → EachStands cluster items → Stage cluster items
stage_of cluster valid [] h = record {
  messages = λ m sending. absurd (no_sending m sending);
  drawn = tt;
  clocks = λ a. low_start (node_of a) (clock_start cluster.starts (node_of a)) (most_h []) (valid_start cluster (node_of a) valid);
}
stage_of cluster valid (Step e ∷ earlier) h = step_stage cluster valid earlier h.1 (stage_of cluster valid earlier h.1) e h.0
stage_of cluster valid (Skipped step cause ∷ earlier) h = idle_stage cluster earlier (stage_of cluster valid earlier h.1) (Skipped step cause) refl refl (λ a. refl)
stage_of cluster valid (Down actor ∷ earlier) h = idle_stage cluster earlier (stage_of cluster valid earlier h.1) (Down actor) refl refl (λ a. refl)
