-- A node that a journal gives back stands for some past of low heights, whatever run left the journal, or none did.
-- Such a past is made from the draws: before each one the node took a message that names the height below it.
use Rattle.std.proofs.Common.{◌≡◌, ℕ, ◌+◌, ◌-◌, ◌^◌, ◌<◌, ◌≤◌, max, List, [], ◌∷◌, ◌++◌, append_assoc, refl, sym, ◌∙◌, ap, subst, arith}
use Rattle.std.proofs.lemmas.Bool.{and_parts, leb-true, ltb-true}
use Rattle.std.proofs.lemmas.List.{append-nil}
use Rattle.std.specs.Prelude.{nat_le, slice_get}
use Rattle.acc_stamp.specs.declared.stamps.TxnId.{TxnId}
use Rattle.acc_stamp.specs.declared.stamps.Ballot.{Ballot}
use Rattle.acc_stamp.specs.Actor.{actor_of}
use Rattle.acc_stamp.specs.Clock.{ClockState}
use Rattle.acc_topology.specs.Layout.{Layout}
use Rattle.acc_txn.specs.declared.parts.BodyParts.{BodyParts}
use Rattle.acc_txn.specs.declared.parts.Select.TheVariants.{Nothing}
use Rattle.acc_message.specs.declared.message.Message.{Message}
use Rattle.acc_message.specs.declared.message.Message.TheVariants.{CommitOk}
use Rattle.acc_message.specs.Fields.{top_of}
use Rattle.acc_message.specs.NodeRules.{Act, Begins, Recovers, Takes, Restarts, clock_of}
use Rattle.acc_message.specs.Run.{clock_start}
use Rattle.acc_payloads.specs.declared.draw.Purpose.{Purpose}
use Rattle.acc_payloads.specs.declared.draw.Purpose.TheVariants.{Begin, Recover}
use Rattle.acc_payloads.specs.declared.draw.Draw.{Draw}
use Rattle.acc_payloads.specs.declared.node.NodePayload.{NodePayload}
use Rattle.acc_payloads.specs.declared.node.NodePayload.TheVariants.{Mark, Draws}
use Rattle.acc_payloads.specs.Acts.{AreDrawsOf}
use Rattle.acc_payloads.specs.Journals.{EachMay, IsJournalOf}
use Rattle.acc_payloads.specs.Node.{draws_in, greatest_drawn, node_bytes}
use Rattle.acc_payloads.proofs.Nodes.{draws_marked, draws_more, greatest_more}
use Rattle.acc_run_laws.specs.Heights.{IsLowClock}
use Rattle.acc_schedule.specs.Content.{Content}
use Rattle.acc_durable_node.specs.declared.name.NodeName.{NodeName}
use Rattle.acc_durable_node.specs.Names.{deeds_by}
use Rattle.acc_left.specs.Rules.{greatest_height, may_be_drawn, NodeMayLeave}

-- ---- what may have been taken

-- a message that names this height
abbrev message_at : ℕ → Message
message_at h =
    let id : TxnId = record { 0 = record { h = h; origin = 0 } } in
    let ballot : Ballot = record { 0 = record { h = 0; origin = 0 } } in CommitOk (actor_of 0 0) (actor_of 0 0) id ballot

top_at : (h : ℕ) → top_of (message_at h) ≡ h
top_at h = omega arith

any_body : BodyParts
any_body = record { lets = []; select = Nothing; guards = []; updates = [] }

any_id : TxnId
any_id = record { 0 = record { h = 0; origin = 0 } }

abbrev act_by : Purpose → ℕ → Act
act_by Begin txn = Begins txn any_body
act_by Recover txn = Recovers any_id any_body

module _ (layout : Layout) (name : NodeName) where
  abbrev clock : List Act → ClockState
  clock acts = clock_of name.number name.start (deeds_by layout name acts)

  abbrev HaveDrawn : List Act → List Draw → Type 0
  HaveDrawn acts draws = AreDrawsOf name.number name.start (deeds_by layout name acts) draws

  -- some acts have drawn these, and met nothing above them
  record Drew (draws : List Draw) : Type 0 where
    acts : List Act
    drawn : HaveDrawn acts draws
    start : (clock acts).start ≡ name.start
    greatest : (clock acts).drawn ≡ greatest_drawn name.start draws
    seen : (clock acts).seen ≤ (clock acts).drawn

  none : Drew []
  none = record { acts = []; drawn = refl; start = refl; greatest = refl; seen = same name.start }
    where
      same : (n : ℕ) → n ≤ n
      same n = omega arith

  next_is : (drawn seen h : ℕ) → drawn < h → seen ≤ drawn → 1 + max drawn (max seen (top_of (message_at (h - 1)))) ≡ h
  next_is drawn seen h above low =
      let top : top_of (message_at (h - 1)) ≡ h - 1 = top_at (h - 1) in omega (arith, above, low, top)

  seen_is : (drawn seen h : ℕ) → drawn < h → seen ≤ drawn → max seen (top_of (message_at (h - 1))) ≤ 1 + max drawn (max seen (top_of (message_at (h - 1))))
  seen_is drawn seen h above low = omega arith

  -- by the purpose of the next draw, which is that of its act
  by_purpose : (draws : List Draw) (purpose : Purpose) (txn h : ℕ) → greatest_drawn name.start draws < h → (drew : Drew draws)
      → HaveDrawn (act_by purpose txn ∷ Takes (message_at (h - 1)) ∷ drew.acts) (draws ++ record { purpose = purpose; txn = txn; h = h } ∷ [])
  by_purpose draws Begin txn h above drew =
      let c = clock drew.acts in (
        draws,
        drew.drawn,
        ap (λ (k : ℕ). draws ++ record { purpose = Begin; txn = txn; h = k } ∷ [])
            (sym (next_is c.drawn c.seen h (omega (arith, above, drew.greatest)) drew.seen)),
      )
  by_purpose draws Recover txn h above drew =
      let c = clock drew.acts in (
        draws,
        txn,
        drew.drawn,
        ap (λ (k : ℕ). draws ++ record { purpose = Recover; txn = txn; h = k } ∷ [])
            (sym (next_is c.drawn c.seen h (omega (arith, above, drew.greatest)) drew.seen)),
      )

  clock_by : (purpose : Purpose) (txn : ℕ) (m : Message) (acts : List Act) → clock (act_by purpose txn ∷ Takes m ∷ acts)
      ≡ record (clock acts) { drawn = 1 + max (clock acts).drawn (max (clock acts).seen (top_of m)); seen = max (clock acts).seen (top_of m) }
  clock_by Begin txn m acts = refl
  clock_by Recover txn m acts = refl

  one_draw : (draws : List Draw) (d : Draw) → greatest_drawn name.start draws < d.h → Drew draws → Drew (draws ++ d ∷ [])
  one_draw draws d above drew =
      let c = clock drew.acts in
      let m = message_at (d.h - 1) in
      let lower : c.drawn < d.h = omega (arith, above, drew.greatest) in
      let now = clock_by d.purpose d.txn m drew.acts in
      let more = greatest_more name.start draws d in
      let next = next_is c.drawn c.seen d.h lower drew.seen in
      record {
        acts = act_by d.purpose d.txn ∷ Takes m ∷ drew.acts;
        drawn = by_purpose draws d.purpose d.txn d.h above drew;
        start = ap (λ (x : ClockState). x.start) now ∙ drew.start;
        greatest = ap (λ (x : ClockState). x.drawn) now ∙ next ∙ sym (more ∙ greater (greatest_drawn name.start draws) d.h above);
        seen = subst (λ (x : ClockState). x.seen ≤ x.drawn) (sym now) (seen_is c.drawn c.seen d.h lower drew.seen);
      }
    where
      greater : (a b : ℕ) → a < b → max a b ≡ b
      greater a b lt = omega (arith, lt)

  -- ---- the journal of a node

  module _ (plan : Content) (node : ℕ) (starts : name.start ≡ clock_start plan.starts node) where
    -- what a draw that may stand there is above, and what it is below
    above_all : (before : List NodePayload) (d : Draw) → NodeMayLeave plan node before (Draws d) → greatest_drawn name.start (draws_in before) < d.h
    above_all before d may =
        subst (λ (s : ℕ). greatest_drawn s (draws_in before) < d.h) (sym starts)
        (ltb-true (greatest_drawn (clock_start plan.starts node) (draws_in before)) d.h (and_parts _ _ (and_parts _ _ may.0.1).0).0)

    below_top : (before : List NodePayload) (d : Draw) → NodeMayLeave plan node before (Draws d) → d.h ≤ greatest_height
    below_top before d may = leb-true d.h greatest_height (and_parts (may_be_drawn node d.purpose (slice_get plan.homes d.txn)) (nat_le d.h greatest_height) may.1).1

    one_payload : (before : List NodePayload) (p : NodePayload) → NodeMayLeave plan node before p → Drew (draws_in before) → Drew (draws_in (before ++ p ∷ []))
    one_payload before Mark may drew = subst Drew (sym (draws_marked before)) drew
    one_payload before (Draws d) may drew = subst Drew (sym (draws_more before d)) (one_draw (draws_in before) d (above_all before d may) drew)

    all_payloads : (before items : List NodePayload) → EachMay (NodeMayLeave plan node) before items → Drew (draws_in before) → Drew (draws_in (before ++ items))
    all_payloads before [] each drew = subst (λ (l : List NodePayload). Drew (draws_in l)) (sym (append-nil before)) drew
    all_payloads before (p ∷ items) each drew =
        subst (λ (l : List NodePayload). Drew (draws_in l)) (append_assoc before (p ∷ []) items)
        (all_payloads (before ++ p ∷ []) items each.1 (one_payload before p each.0 drew))

    low_payload : (before : List NodePayload) (p : NodePayload) → NodeMayLeave plan node before p → greatest_drawn name.start (draws_in before) ≤ greatest_height
        → greatest_drawn name.start (draws_in (before ++ p ∷ [])) ≤ greatest_height
    low_payload before Mark may low = subst (λ (l : List Draw). greatest_drawn name.start l ≤ greatest_height) (sym (draws_marked before)) low
    low_payload before (Draws d) may low =
        let more : greatest_drawn name.start (draws_in before ++ d ∷ []) ≡ max (greatest_drawn name.start (draws_in before)) d.h = greatest_more name.start (draws_in before) d in
        let top : d.h ≤ greatest_height = below_top before d may in
        subst (λ (l : List Draw). greatest_drawn name.start l ≤ greatest_height) (sym (draws_more before d)) (at_most (draws_in before) d more low top)
      where
        at_most : (draws : List Draw) (d : Draw) → greatest_drawn name.start (draws ++ d ∷ []) ≡ max (greatest_drawn name.start draws) d.h
            → greatest_drawn name.start draws ≤ greatest_height → d.h ≤ greatest_height → greatest_drawn name.start (draws ++ d ∷ []) ≤ greatest_height
        at_most draws d more low top = omega (arith, more, low, top)

    all_low : (before items : List NodePayload) → EachMay (NodeMayLeave plan node) before items → greatest_drawn name.start (draws_in before) ≤ greatest_height
        → greatest_drawn name.start (draws_in (before ++ items)) ≤ greatest_height
    all_low before [] each low = subst (λ (l : List NodePayload). greatest_drawn name.start (draws_in l) ≤ greatest_height) (sym (append-nil before)) low
    all_low before (p ∷ items) each low =
        subst (λ (l : List NodePayload). greatest_drawn name.start (draws_in l) ≤ greatest_height) (append_assoc before (p ∷ []) items)
        (all_low (before ++ p ∷ []) items each.1 (low_payload before p each.0 low))

    -- acts that have drawn what the journal keeps, all of it low, up to the restart behind them
    pub record LowPast (items : List NodePayload) : Type 0 where
      pub acts : List Act
      pub drawn : HaveDrawn acts (draws_in items)
      pub low : IsLowClock (2 ^ 61) (clock (Restarts ∷ acts))

    low_clock : (draws : List Draw) (drew : Drew draws) → name.start ≤ greatest_height → greatest_drawn name.start draws ≤ greatest_height
        → IsLowClock (2 ^ 61) (clock (Restarts ∷ drew.acts))
    low_clock draws drew low top =
        let below : (clock drew.acts).drawn ≤ 2 ^ 61 = omega (arith, drew.greatest, top) in
        record { start = omega (arith, drew.start, low); drawn = below; seen = below }

    pub low_past : (payloads : List (List ℕ)) (items : List NodePayload) → name.start ≤ greatest_height → IsJournalOf node_bytes (NodeMayLeave plan node) payloads items
        → LowPast items
    low_past payloads items low journal =
        let drew : Drew (draws_in items) = all_payloads [] items journal.each none in
        record { acts = drew.acts; drawn = drew.drawn; low = low_clock (draws_in items) drew low (all_low [] items journal.each low) }
