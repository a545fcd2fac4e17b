-- The report of healed items finishes what it begins.
use Rattle.std.proofs.Common.{◌≡◌, ◌⊎◌, ℕ, true, List, [], ◌∷◌, ◌++◌, map, inl, inr, refl, sym, ◌∙◌, ap, subst}
use Rattle.acc_stamp.specs.declared.stamps.Stamp.{Stamp}
use Rattle.acc_stamp.specs.declared.stamps.TxnId.{TxnId}
use Rattle.acc_stamp.specs.declared.actors.Actor.{Actor}
use Rattle.acc_stamp.specs.Stamp.{id_eq}
use Rattle.acc_stamp.proofs.Order.{id_order, eq_itself}
use Rattle.acc_deps.specs.Deps.{all_ids}
use Rattle.acc_txn.specs.declared.outcome.Reply.{Reply as ReplyValue}
use Rattle.acc_message.specs.declared.note.Path.{Path}
use Rattle.acc_message.specs.declared.note.Note.{Note}
use Rattle.acc_message.specs.declared.note.Note.TheVariants.{Begin as BeginNote, Recover as RecoverNote, Blocked as BlockedNote, Ended as EndedNote, Decide as DecideNote, Outcome as OutcomeNote, Reply as ReplyNote}
use Rattle.acc_message.specs.declared.entry.Event.{Event}
use Rattle.acc_message.specs.declared.entry.Event.TheVariants.{Begin as Begins, Recover as Recovers, Slow as GoesSlow, Message as Takes, Restart as Restarts}
use Rattle.acc_message.specs.declared.item.Skip.{Skip}
use Rattle.acc_message.specs.declared.item.Skip.TheVariants.{NoMessage, Down as IsDown, Begun, Unknown, NoQuorum}
use Rattle.acc_message.specs.declared.item.Item.{Item}
use Rattle.acc_message.specs.declared.item.Item.TheVariants.{Step, Skipped, Down as WentDown}
use Rattle.acc_message.specs.Items.{begins, noted_in, notes_of}
use Rattle.acc_message.specs.Run.{Cluster}
use Rattle.acc_safety.specs.Places.{IsIn}
use Rattle.acc_safety.specs.Decisions.{Answered, Decision, decisions_in, decisions_of, outcomes_in, outcomes_of}
use Rattle.acc_safety.proofs.PlaceOrder.{any_from, IsIn-append_cases, IsIn-append_left, IsIn-append_right, IsIn-flat_map, IsIn-map, map-IsIn, none_is_in, only, passing}
use Rattle.acc_heal_laws.specs.Healed.{IsHealed}
use Rattle.acc_report_line.specs.declared.line.Line.TheVariants.{Begin, Decide, Outcome, Down, Restart}
use Rattle.acc_report.specs.Report.{event_lines, last_line, lines_from, lines_in, lines_of, lines_report, name_at, name_of, note_line, skip_line}
use Rattle.acc_command_alone.specs.Finished.{FinishesBegins, IsFinished}

same_ids : (a b : TxnId) → id_eq a b ≡ true → a ≡ b
same_ids a b is = (id_order.decides a b).0 is

module _ (name : TxnId → List ℕ) (called : ℕ → List ℕ) where
  -- ---- from lines to notes

  begin_note : (note : Note) (nm : List ℕ) (id : Stamp) → Begin nm id ≡ note_line name note → (x : TxnId) × (note ≡ BeginNote x) × (nm ≡ name x)
  begin_note (BeginNote x) nm id is = (x, refl, cc)
  begin_note (RecoverNote x ballot) nm id is = absurd cc
  begin_note (BlockedNote x ballot by) nm id is = absurd cc
  begin_note (EndedNote x ballot by) nm id is = absurd cc
  begin_note (DecideNote x t path deps) nm id is = absurd cc
  begin_note (OutcomeNote x reply) nm id is = absurd cc
  begin_note (ReplyNote x reply) nm id is = absurd cc

  not_skip : (step : ℕ) (cause : Skip) (nm : List ℕ) (id : Stamp) → Begin nm id ≡ skip_line called step cause → ⊥
  not_skip step (NoMessage number sent) nm id is = cc
  not_skip step (IsDown actor) nm id is = cc
  not_skip step (Begun txn) nm id is = cc
  not_skip step (Unknown txn) nm id is = cc
  not_skip step (NoQuorum txn) nm id is = cc

  not_event : (actor : Actor) (event : Event) (nm : List ℕ) (id : Stamp) → IsIn (Begin nm id) (event_lines actor event) → ⊥
  not_event actor (Begins txn) nm id there = none_is_in _ there
  not_event actor (Recovers txn) nm id there = none_is_in _ there
  not_event actor (GoesSlow txn) nm id there = none_is_in _ there
  not_event actor (Takes number) nm id there = none_is_in _ there
  not_event actor (Restarts kept) nm id there = let is : Begin nm id ≡ Restart actor kept = only _ _ there in cc

  pub record BegunIn (nm : List ℕ) (notes : List Note) : Type 0 where
    pub x : TxnId
    pub there : IsIn (BeginNote x) notes
    pub named : nm ≡ name x

  in_notes : (notes : List Note) (nm : List ℕ) (id : Stamp) → IsIn (Begin nm id) (map (note_line name) notes) → BegunIn nm notes
  in_notes notes nm id there =
      let from = IsIn-map (note_line name) (Begin nm id) notes there in
      let begun = begin_note from.source nm id from.is in
      record { x = begun.0; there = subst (λ (n : Note). IsIn n notes) begun.1 from.there; named = begun.2 }

  in_item : (item : Item) (nm : List ℕ) (id : Stamp) → IsIn (Begin nm id) (lines_in name called item) → BegunIn nm (noted_in item)
  in_item (Step e) nm id there = by (IsIn-append_cases (Begin nm id) (event_lines e.actor e.event) (map (note_line name) e.emitted.notes) there)
    where
      by : IsIn (Begin nm id) (event_lines e.actor e.event) ⊎ IsIn (Begin nm id) (map (note_line name) e.emitted.notes) → BegunIn nm e.emitted.notes
      by (inl event) = absurd (not_event e.actor e.event nm id event)
      by (inr note) = in_notes e.emitted.notes nm id note
  in_item (Skipped step cause) nm id there = absurd (not_skip step cause nm id (only _ _ there))
  in_item (WentDown actor) nm id there = let is : Begin nm id ≡ Down actor = only _ _ there in absurd cc

  begun_in : (items : List Item) (nm : List ℕ) (id : Stamp) → IsIn (Begin nm id) (lines_from name called items) → BegunIn nm (notes_of items)
  begun_in [] nm id there = absurd (none_is_in _ there)
  begun_in (item ∷ earlier) nm id there =
      by (λ before. begun_in earlier nm id before) (IsIn-append_cases (Begin nm id) (lines_from name called earlier) (lines_in name called item) there)
    where
      by : (IsIn (Begin nm id) (lines_from name called earlier) → BegunIn nm (notes_of earlier))
          → IsIn (Begin nm id) (lines_from name called earlier) ⊎ IsIn (Begin nm id) (lines_in name called item) → BegunIn nm (notes_of earlier ++ noted_in item)
      by rest (inl before) =
          let b = rest before in
          record { x = b.x; there = IsIn-append_left (BeginNote b.x) (notes_of earlier) (noted_in item) b.there; named = b.named }
      by rest (inr own) =
          let b = in_item item nm id own in
          record { x = b.x; there = IsIn-append_right (BeginNote b.x) (notes_of earlier) (noted_in item) b.there; named = b.named }

  -- ---- from notes to lines

  item_line : (item : Item) (note : Note) → IsIn note (noted_in item) → IsIn (note_line name note) (lines_in name called item)
  item_line (Step e) note there =
      IsIn-append_right (note_line name note) (event_lines e.actor e.event) (map (note_line name) e.emitted.notes) (map-IsIn (note_line name) note e.emitted.notes there)
  item_line (Skipped step cause) note there = absurd (none_is_in _ there)
  item_line (WentDown actor) note there = absurd (none_is_in _ there)

  has_line : (items : List Item) (note : Note) → IsIn note (notes_of items) → IsIn (note_line name note) (lines_from name called items)
  has_line [] note there = absurd (none_is_in _ there)
  has_line (item ∷ earlier) note there = by (λ before. has_line earlier note before) (IsIn-append_cases note (notes_of earlier) (noted_in item) there)
    where
      by : (IsIn note (notes_of earlier) → IsIn (note_line name note) (lines_from name called earlier)) → IsIn note (notes_of earlier) ⊎ IsIn note (noted_in item)
          → IsIn (note_line name note) (lines_from name called earlier ++ lines_in name called item)
      by rest (inl before) = IsIn-append_left (note_line name note) (lines_from name called earlier) (lines_in name called item) (rest before)
      by rest (inr own) = IsIn-append_right (note_line name note) (lines_from name called earlier) (lines_in name called item) (item_line item note own)

  -- ---- decisions and outcomes

  pub record HasDecide (nm : List ℕ) (items : List Item) : Type 0 where
    pub t : Stamp
    pub path : Path
    pub deps : List (List ℕ)
    pub there : IsIn (Decide nm t path deps) (lines_from name called items)

  pub record HasOutcome (nm : List ℕ) (items : List Item) : Type 0 where
    pub reply : ReplyValue
    pub there : IsIn (Outcome nm reply) (lines_from name called items)

  decide_of : (items : List Item) (note : Note) (d : Decision) (x : TxnId) → IsIn note (notes_of items) → IsIn d (decisions_in note) → d.id ≡ x → HasDecide (name x) items
  decide_of items (DecideNote id t path deps) d x there within is =
      let same : id ≡ x = ap (λ (own : Decision). own.id) (sym (only _ _ within)) ∙ is in
      record {
        t = t;
        path = path;
        deps = map name (all_ids deps);
        there = subst (λ (y : TxnId). IsIn (Decide (name y) t path (map name (all_ids deps))) (lines_from name called items)) same (has_line items (DecideNote id t path deps) there);
      }
  decide_of items (BeginNote id) d x there within is = absurd (none_is_in _ within)
  decide_of items (RecoverNote id ballot) d x there within is = absurd (none_is_in _ within)
  decide_of items (BlockedNote id ballot by) d x there within is = absurd (none_is_in _ within)
  decide_of items (EndedNote id ballot by) d x there within is = absurd (none_is_in _ within)
  decide_of items (OutcomeNote id reply) d x there within is = absurd (none_is_in _ within)
  decide_of items (ReplyNote id reply) d x there within is = absurd (none_is_in _ within)

  outcome_of : (items : List Item) (note : Note) (a : Answered) (x : TxnId) → IsIn note (notes_of items) → IsIn a (outcomes_in note) → a.id ≡ x → HasOutcome (name x) items
  outcome_of items (OutcomeNote id reply) a x there within is =
      let same : id ≡ x = ap (λ (own : Answered). own.id) (sym (only _ _ within)) ∙ is in
      record {
        reply = reply;
        there = subst (λ (y : TxnId). IsIn (Outcome (name y) reply) (lines_from name called items)) same (has_line items (OutcomeNote id reply) there);
      }
  outcome_of items (BeginNote id) a x there within is = absurd (none_is_in _ within)
  outcome_of items (RecoverNote id ballot) a x there within is = absurd (none_is_in _ within)
  outcome_of items (BlockedNote id ballot by) a x there within is = absurd (none_is_in _ within)
  outcome_of items (EndedNote id ballot by) a x there within is = absurd (none_is_in _ within)
  outcome_of items (DecideNote id t path deps) a x there within is = absurd (none_is_in _ within)
  outcome_of items (ReplyNote id reply) a x there within is = absurd (none_is_in _ within)

-- ---- the report

pub finishes : (cluster : Cluster) (names : List (List ℕ)) (items : List Item) → IsHealed cluster items → FinishesBegins (lines_report names [] items)
finishes cluster names items healed = λ nm id there.
    by nm id (IsIn-append_cases (Begin nm id) (lines_of names [] items) (last_line (notes_of items) ∷ []) there)
  where
    by : (nm : List ℕ) (id : Stamp) → IsIn (Begin nm id) (lines_of names [] items) ⊎ IsIn (Begin nm id) (last_line (notes_of items) ∷ [])
        → IsFinished (lines_report names [] items) nm
    by nm id (inr last) = let is : Begin nm id ≡ last_line (notes_of items) = only _ _ last in absurd cc
    by nm id (inl own) =
        let begun = begun_in (name_of names [] items) (name_at names) items nm id own in
        let done = healed begun.x (any_from (begins begun.x) (BeginNote begun.x) (notes_of items) begun.there (eq_itself id_order begun.x)) in
        let decision = passing (λ (d : Decision). id_eq d.id begun.x) (decisions_of (notes_of items)) done.decided in
        let decided = IsIn-flat_map decisions_in decision.element (notes_of items) decision.there in
        let line =
        decide_of (name_of names [] items) (name_at names) items decided.source decision.element begun.x decided.there decided.within
        (same_ids decision.element.id begun.x decision.passes) in
        let answer = passing (λ (a : Answered). id_eq a.id begun.x) (outcomes_of (notes_of items)) done.outcome in
        let answered = IsIn-flat_map outcomes_in answer.element (notes_of items) answer.there in
        let outcome =
        outcome_of (name_of names [] items) (name_at names) items answered.source answer.element begun.x answered.there answered.within
        (same_ids answer.element.id begun.x answer.passes) in
        record {
          t = line.t;
          path = line.path;
          deps = line.deps;
          decided = IsIn-append_left (Decide nm line.t line.path line.deps) (lines_of names [] items) (last_line (notes_of items) ∷ [])
              (subst (λ (n : List ℕ). IsIn (Decide n line.t line.path line.deps) (lines_of names [] items)) (sym begun.named) line.there);
          reply = outcome.reply;
          outcome = IsIn-append_left (Outcome nm outcome.reply) (lines_of names [] items) (last_line (notes_of items) ∷ [])
              (subst (λ (n : List ℕ). IsIn (Outcome n outcome.reply) (lines_of names [] items)) (sym begun.named) outcome.there);
        }
