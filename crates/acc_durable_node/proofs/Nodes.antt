-- A node with its disk: what its calls leave.
use Rattle.std.proofs.Common.{◌≡◌, ℕ, ◌-◌, ◌^◌, ◌<◌, min, true, false, List, [], ◌∷◌, ◌++◌, length, Option, None, Some, Result, Ok, Err, refl, sym, ap, subst, ◌∙◌}
use Rattle.std.specs.Prelude.{IfOk}
use Rattle.std.specs.Ordering.{nat_cmp}
use Rattle.std.specs.BTreeMap.{get}
use Rattle.acc_stamp.specs.declared.stamps.TxnId.{TxnId}
use Rattle.acc_stamp.specs.Clock.{ClockState}
use Rattle.acc_topology.specs.Layout.{Layout}
use Rattle.acc_txn.specs.declared.parts.BodyParts.{BodyParts}
use Rattle.acc_ports.specs.declared.disk.Disk.{Ghosts}
use Rattle.acc_message.specs.declared.entry.Emitted.{Emitted}
use Rattle.acc_message.specs.declared.message.Message.{Message}
use Rattle.acc_message.specs.NodeRules.{Act, Begins, Recovers, Slows, Takes as TakesMessage, Restarts, clock_of}
use Rattle.acc_node.specs.declared.error.NodeError.{NodeError}
use Rattle.acc_node.specs.Stands.{is_first_voting, has_majority}
use Rattle.acc_journal.specs.Journal.{JournalState}
use Rattle.acc_payloads.specs.declared.draw.Purpose.{Purpose}
use Rattle.acc_payloads.specs.declared.draw.Purpose.TheVariants.{Begin, Recover}
use Rattle.acc_payloads.specs.declared.node.NodePayload.{NodePayload}
use Rattle.acc_payloads.specs.Spelling.{draw_bytes}
use Rattle.acc_payloads.specs.Acts.{next_draw_of, MayDraw}
use Rattle.acc_payloads.specs.Node.{draws_in}
use Rattle.acc_payloads.specs.Items.{AreMarked, without_marks}
use Rattle.acc_durable_node.specs.declared.name.NodeName.{NodeName}
use Rattle.acc_durable_node.specs.Names.{deeds_by, emits_by, id_begun, attempt_by, IsSlowAnswer}
use Rattle.acc_durable_node.specs.declared.node.DurableNode.{DurableNode}
use Rattle.acc_durable_node.specs.Node as durable
use Rattle.acc_durable_node.proofs.Standing.{begin_in_doubt, recover_in_doubt}
use Rattle.acc_durable_node.proofs.Journals.{stands_tells}
use Rattle.acc_durable_node.specs.declared.state.NodeState.{NodeState}
use Rattle.acc_durable_node.specs.declared.state.NodeState.TheVariants.{Open}
use Rattle.acc_durable_node.specs.declared.actor.NodeActor.{NodeActor}
use Rattle.acc_payloads.specs.Stops.{Past, count_of, with_act, IsLeft}
use Rattle.acc_durable_node.specs.Actor.{disk_in, disk_of, is_down, OfEachPast, emits_next, draw_payload, IsJournal, IsUp, IsUpIn, StandsFor, Takes, HasSlowed, MayBegin, MayRecover}
use Rattle.acc_payloads.proofs.Marks.{draw_no_mark, held_with, count_is}
use Rattle.acc_payloads.proofs.Marked.{node_marked}
use Rattle.acc_payloads.proofs.Left.{left_on, none_items, none_unsent, not_both}

-- ---- the journal

pub marked_acts : (layout : Layout) (name : NodeName) (payloads : List (List ℕ)) (acts : List Act) → IsJournal layout name payloads acts → AreMarked name.version payloads
marked_acts layout name payloads acts j = node_marked name.version name.start payloads j.items j.journal

module _ {D : Type 0} (layout : Layout) (name : NodeName) (past : Past Act) (n : DurableNode D) (up : IsUp layout name past n) where
  pub journal_up : IsJournal layout name n.journal.payloads past.acts
  journal_up = subst (λ (m : NodeName). IsJournal layout m n.journal.payloads past.acts) up.name_is (stands_tells layout n past.acts up.stands)

  -- how many draws it has
  pub kept_up : n.kept ≡ count_of past
  kept_up =
      let items : List NodePayload = up.stands.held.items in
      let many : length (draws_in items) ≡ length past.held = sym (count_is items) ∙ ap (λ (l : List (List ℕ)). length (without_marks l)) (sym up.stands.held.journal.spelled) ∙ ap length up.held_are in
      up.stands.held.kept ∙ ap (λ (l : ℕ). min l (2 ^ 64 - 1)) (ap length (sym up.stands.held.draws_are) ∙ many)

  pub clock_up : n.node.clock ≡ clock_of name.number name.start (deeds_by layout name past.acts)
  clock_up = subst (λ (m : NodeName). n.node.clock ≡ clock_of m.number m.start (deeds_by layout m past.acts)) up.name_is up.stands.stands.clock_is

  pub begun_up : (txn : ℕ) → get nat_cmp n.node.begun txn ≡ id_begun layout name txn past.acts
  begun_up txn = subst (λ (m : NodeName). get nat_cmp n.node.begun txn ≡ id_begun layout m txn past.acts) up.name_is (up.stands.stands.begun txn)

  payload_is : (purpose : Purpose) (txn : ℕ) → draw_bytes (next_draw_of n.node.clock purpose txn) ≡ draw_payload layout name past purpose txn
  payload_is purpose txn = ap (λ (c : ClockState). draw_bytes (next_draw_of c purpose txn)) clock_up

  -- with the payloads of a draw
  pub held_up : (purpose : Purpose) (txn : ℕ) → without_marks (n.journal.payloads ++ durable.draw_group n purpose txn) ≡ past.held ++ draw_payload layout name past purpose txn ∷ []
  held_up purpose txn =
      held_with n.journal.payloads n.name.version n.marked (draw_bytes (next_draw_of n.node.clock purpose txn)) (draw_no_mark (next_draw_of n.node.clock purpose txn))
      ∙ ap (λ (l : List (List ℕ)). l ++ draw_bytes (next_draw_of n.node.clock purpose txn) ∷ []) up.held_are ∙ ap (λ (p : List ℕ). past.held ++ p ∷ []) (payload_is purpose txn)

pub up_in : {D : Type 0} (layout : Layout) (name : NodeName) (past : Past Act) (state : NodeState D) (n : DurableNode D) → state ≡ Open n → IsUpIn layout name past state → IsUp layout name past n
up_in layout name past state n e up = subst (IsUpIn layout name past) e up

-- ---- a step that isn't journalled

-- what draws nothing
abbrev pub DrawsNothing : Act → Type 0
DrawsNothing (Begins txn body) = ⊥
DrawsNothing (Recovers x body) = ⊥
DrawsNothing (Slows x) = Unit {0}
DrawsNothing (TakesMessage m) = Unit {0}
DrawsNothing Restarts = Unit {0}

undrawn : (layout : Layout) (name : NodeName) (act : Act) (acts : List Act) (payloads : List (List ℕ)) → DrawsNothing act → IsJournal layout name payloads acts → IsJournal layout name payloads (act ∷ acts)
undrawn layout name (Begins txn body) acts payloads nothing j = absurd nothing
undrawn layout name (Recovers x body) acts payloads nothing j = absurd nothing
undrawn layout name (Slows x) acts payloads nothing j = record { items = j.items; journal = j.journal; drawn = j.drawn }
undrawn layout name (TakesMessage m) acts payloads nothing j = record { items = j.items; journal = j.journal; drawn = j.drawn }
undrawn layout name Restarts acts payloads nothing j = record { items = j.items; journal = j.journal; drawn = j.drawn }

module _ {D : Type 0} (port : Ghosts D) (layout : Layout) (old : NodeActor D) (n after : DurableNode D) (is : old.state ≡ Open n) (sound : is_down old ≡ false) (name : NodeName) (past : Past Act)
    (stands : StandsFor port layout name past old) (same : after ≡ record n { node = after.node }) where
  up_now : IsUp layout name past n
  up_now = up_in layout name past old.state n is (stands.up sound)

  journal_is : after.journal ≡ n.journal
  journal_is = ap (λ (m : DurableNode D). m.journal) same

  disk_is : after.journal.disk ≡ disk_of old
  disk_is = ap (λ (j : JournalState D). j.disk) journal_is ∙ ap disk_in (sym is)

  abbrev later : NodeActor D
  later = record old { state = Open after }

  module _ (p : Past Act) (none : p.stopped ≡ []) (held : p.held ≡ past.held) (left : (image : List ℕ) → port.is_image (disk_of old) image → IsLeft (IsJournal layout name) p image)
      (d : durable.StandsFor layout after p.acts) where
    pub later_stands : StandsFor port layout name p later
    later_stands = record {
      name_is = stands.name_is;
      left = λ image i. left image (subst (λ (disk : D). port.is_image disk image) disk_is i);
      unsent = none_unsent (emits_next layout name) p p.stopped old.stopped.items none
          (none_items (emits_next layout name) past past.stopped old.stopped.items up_now.none_stopped stands.unsent);
      up = λ _. record {
        stands = d;
        name_is = ap (λ (m : DurableNode D). m.name) same ∙ up_now.name_is;
        held_are = ap (λ (j : JournalState D). without_marks j.payloads) journal_is ∙ up_now.held_are ∙ sym held;
        none_stopped = none;
      };
      kept_is = λ broken. absurd (not_both after.journal.broken broken d.sound);
    }

  -- it took an act
  pub takes_on : (act : Act) (emitted : Emitted) → DrawsNothing act → durable.Takes layout n after past.acts act emitted → Takes port layout name past act later emitted
  takes_on act emitted nothing takes = record {
    emits = subst (λ (m : NodeName). emitted ≡ emits_by layout m past.acts act) up_now.name_is takes.emits;
    stands = later_stands (with_act act past) up_now.none_stopped refl
        (λ image i. left_on (IsJournal layout name) past act image up_now.none_stopped (λ payloads j. undrawn layout name act past.acts payloads nothing j) (stands.left image i)) takes.stands;
  }

  -- it is as before
  pub as_before : durable.StandsFor layout after past.acts → StandsFor port layout name past later
  as_before d = later_stands past up_now.none_stopped refl stands.left d

-- ---- what a call needs

low_now : {D : Type 0} (layout : Layout) (name : NodeName) (past : Past Act) (n : DurableNode D) → IsUp layout name past n → MayDraw name.number name.start (deeds_by layout name past.acts) → durable.IsLow n.node.clock
low_now layout name past n up low = subst durable.IsLow (sym (clock_up layout name past n up)) (record { drawn = low.drawn; seen = low.seen })

-- it may draw, and hasn't begun the transaction
pub record CanBegin {D : Type 0} (n : DurableNode D) (txn : ℕ) : Type 0 where
  pub low : durable.IsLow n.node.clock
  pub fresh : get nat_cmp n.node.begun txn ≡ None

module _ {D : Type 0} (port : Ghosts D) (layout : Layout) (old : NodeActor D) (n : DurableNode D) (is : old.state ≡ Open n) (sound : is_down old ≡ false) where
  pub can_begin : (txn : ℕ) → MayBegin port layout old txn → CanBegin n txn
  can_begin txn may =
      let up : IsUp layout may.name may.past n = up_in layout may.name may.past old.state n is (may.stands.up sound) in
      record { low = low_now layout may.name may.past n up may.low; fresh = begun_up layout may.name may.past n up txn ∙ may.fresh }

  -- the id of what it began
  pub tells_id : (txn : ℕ) (r : Option TxnId) → durable.OfActs layout n (λ acts. r ≡ id_begun layout n.name txn acts)
      → OfEachPast port layout old (λ name past. r ≡ id_begun layout name txn past.acts)
  tells_id txn r is_id name past stands =
      let up : IsUp layout name past n = up_in layout name past old.state n is (stands.up sound) in
      subst (λ (m : NodeName). r ≡ id_begun layout m txn past.acts) up.name_is (is_id past.acts up.stands)

  pub can_recover : MayRecover port layout old → durable.IsLow n.node.clock
  can_recover may = low_now layout may.name may.past n (up_in layout may.name may.past old.state n is (may.stands.up sound)) may.low

  module _ (txn : ℕ) (small : txn < 2 ^ 32) (name : NodeName) (past : Past Act) (stands : StandsFor port layout name past old) where
    up_here : IsUp layout name past n
    up_here = up_in layout name past old.state n is (stands.up sound)

    pub begin_longer : (body : BodyParts) → CanBegin n txn → IsJournal layout name (n.journal.payloads ++ durable.draw_group n Begin txn) (Begins txn body ∷ past.acts)
    begin_longer body can =
        subst (λ (m : NodeName). IsJournal layout m (n.journal.payloads ++ durable.draw_group n Begin txn) (Begins txn body ∷ past.acts)) up_here.name_is
        (begin_in_doubt layout n past.acts txn small can.low up_here.stands body (sym (up_here.stands.stands.begun txn) ∙ can.fresh))

    pub recover_longer : (x : TxnId) (body : BodyParts) → durable.IsLow n.node.clock → IsJournal layout name (n.journal.payloads ++ durable.draw_group n Recover txn) (Recovers x body ∷ past.acts)
    recover_longer x body low =
        subst (λ (m : NodeName). IsJournal layout m (n.journal.payloads ++ durable.draw_group n Recover txn) (Recovers x body ∷ past.acts)) up_here.name_is
        (recover_in_doubt layout n past.acts txn small low up_here.stands x body)

    pub held_longer : (purpose : Purpose) → without_marks (n.journal.payloads ++ durable.draw_group n purpose txn) ≡ past.held ++ draw_payload layout name past purpose txn ∷ []
    held_longer purpose = held_up layout name past n up_here purpose txn

-- ---- steps that aren't journalled, for every past

module _ {D E : Type 0} (port : Ghosts D) (layout : Layout) (old : NodeActor D) (n after : DurableNode D) (is : old.state ≡ Open n) (sound : is_down old ≡ false) (same : after ≡ record n { node = after.node }) where
  pub take_all : (m : Message) (r : Result Emitted E) → IfOk r (durable.TakesOn layout n after (TakesMessage m))
      → IfOk r (λ emitted. OfEachPast port layout old (λ name past. Takes port layout name past (TakesMessage m) (record old { state = Open after }) emitted))
  take_all m (Ok emitted) ok = λ name past stands.
      takes_on port layout old n after is sound name past stands same (TakesMessage m) emitted tt (ok past.acts (up_in layout name past old.state n is (stands.up sound)).stands)
  take_all m (Err e) ok = tt

  pub slow_all : (txn : ℕ) (r : Result Emitted E) → IfOk r (λ emitted. durable.OfActs layout n (λ acts. durable.HasSlowed layout n after acts txn emitted))
      → IfOk r (λ emitted. OfEachPast port layout old (λ name past. HasSlowed port layout name past txn (record old { state = Open after }) emitted))
  slow_all txn (Ok emitted) ok = λ name past stands.
      let up : IsUp layout name past n = up_in layout name past old.state n is (stands.up sound) in
      let slowed : durable.HasSlowed layout n after past.acts txn emitted = ok past.acts up.stands in
      record {
        id = slowed.id;
        begun = subst (λ (m : NodeName). id_begun layout m txn past.acts ≡ Some slowed.id) up.name_is slowed.begun;
        waits = subst (λ (m : NodeName). is_first_voting (attempt_by layout m slowed.id past.acts) ≡ true) up.name_is slowed.waits;
        majority = subst (λ (m : NodeName). has_majority layout slowed.id (attempt_by layout m slowed.id past.acts) ≡ true) up.name_is slowed.majority;
        takes = takes_on port layout old n after is sound name past stands same (Slows slowed.id) emitted tt slowed.takes;
      }
  slow_all txn (Err e) ok = tt

-- why it isn't slowed down
pub refused_all : {D : Type 0} (port : Ghosts D) (layout : Layout) (old : NodeActor D) (n : DurableNode D) → old.state ≡ Open n → is_down old ≡ false → (txn : ℕ) (r : Result Emitted NodeError)
    → durable.OfActs layout n (λ acts. IsSlowAnswer layout n.name acts txn r) → OfEachPast port layout old (λ name past. IsSlowAnswer layout name past.acts txn r)
refused_all port layout old n is sound txn r told name past stands =
    let up : IsUp layout name past n = up_in layout name past old.state n is (stands.up sound) in
    subst (λ (m : NodeName). IsSlowAnswer layout m past.acts txn r) up.name_is (told past.acts up.stands)
