-- A report of a run begins no transaction twice.
use Rattle.std.proofs.Common.{◌≡◌, ◌+◌, ◌≤◌, List, [], ◌∷◌, ◌++◌, map, reverse, count_by, Bool, true, false, ◌||◌, refl, sym, ap, subst, ◌∙◌, arith}
use Rattle.std.specs.List.{list_any, flat_map}
use Rattle.std.proofs.lemmas.Bool.{false_from_ne_true, true≢false}
use Rattle.std.proofs.lemmas.List.Sums.{sum_by-append}
use Rattle.std.proofs.lemmas.Slice.Eq.{bytes_eq-Decides}
use Rattle.acc_stamp.specs.declared.stamps.Stamp.{Stamp}
use Rattle.acc_stamp.specs.declared.stamps.TxnId.{TxnId}
use Rattle.acc_stamp.specs.Rising.{is_among}
use Rattle.acc_stamp.specs.Stamp.{stamp_eq}
use Rattle.acc_stamp.proofs.Order.{eq_itself, id_order, stamp_order}
use Rattle.acc_topology.proofs.Bits.{count_by-cons, one_if}
use Rattle.acc_message.specs.declared.note.Note.{Note}
use Rattle.acc_message.specs.declared.note.Note.TheVariants.{Begin, Recover, Blocked, Ended, Decide, Outcome, Reply}
use Rattle.acc_message.specs.declared.item.Item.{Item}
use Rattle.acc_message.specs.Items.{begins, noted_in, notes_of}
use Rattle.acc_message.specs.Run.{Cluster, EachStands}
use Rattle.acc_safety.specs.Places.{IsIn, First, Later}
use Rattle.acc_safety.specs.RunLaws.{AreDistinct, drawn_in, drawn_of}
use Rattle.acc_safety.proofs.BodiesBegun.{distinct_draws}
use Rattle.acc_safety.proofs.PlaceOrder.{passing}
use Rattle.acc_schedule.specs.Content.{Content}
use Rattle.acc_schedule_runs.specs.Schedules.{cluster_of}
use Rattle.acc_report.specs.Report.{name_at, note_line}
use Rattle.acc_audit.specs.Said.{begins as line_begins}
use Rattle.acc_audit.specs.Rules.{begins_again}
use Rattle.acc_audit_laws.proofs.Fronts.{told_before}
use Rattle.acc_audit_laws.proofs.Given.{before_noted, Given, here_noted, line_of, name, note_known, notes_in, one_name, Stands, whole_notes}
use Rattle.acc_audit_laws.proofs.Pieces.{IsSilent, Noted, Piece}

-- ---- a begin draws a stamp, and each stamp is drawn once

abbrev is_drawn : Stamp → Stamp → Bool
is_drawn s t = stamp_eq t s

pub count_append : {T : Type 0} (test : T → Bool) (xs ys : List T) → count_by test (xs ++ ys) ≡ count_by test xs + count_by test ys
count_append test xs ys = sum_by-append (λ x. one_if (test x)) xs ys

none_counted : (s : Stamp) (stamps : List Stamp) → is_among stamp_eq s stamps ≡ false → count_by (is_drawn s) stamps ≡ 0
none_counted s [] h = refl
none_counted s (t ∷ stamps) h = by (stamp_eq t s) refl (none_counted s stamps)
  where
    by : (b : Bool) → stamp_eq t s ≡ b → (is_among stamp_eq s stamps ≡ false → count_by (is_drawn s) stamps ≡ 0) → count_by (is_drawn s) (t ∷ stamps) ≡ 0
    by true is rest = absurd (true≢false (sym (ap (λ b. b || is_among stamp_eq s stamps) is) ∙ h))
    by false is rest =
        let none : one_if (is_drawn s t) ≡ 0 = ap one_if is in
        omega (arith, count_by-cons (is_drawn s) t stamps, none, rest (sym (ap (λ b. b || is_among stamp_eq s stamps) is) ∙ h))

one_counted : (s : Stamp) (stamps : List Stamp) → AreDistinct stamps → count_by (is_drawn s) stamps ≤ 1
one_counted s [] d = omega arith
one_counted s (t ∷ stamps) d = by (stamp_eq t s) refl (one_counted s stamps d.1)
  where
    by : (b : Bool) → stamp_eq t s ≡ b → count_by (is_drawn s) stamps ≤ 1 → count_by (is_drawn s) (t ∷ stamps) ≤ 1
    by true is rest =
        let one : one_if (is_drawn s t) ≡ 1 = ap one_if is in
        let none = none_counted s stamps (subst (λ z. is_among stamp_eq z stamps ≡ false) ((stamp_order.decides t s).0 is) d.0) in
        omega (arith, count_by-cons (is_drawn s) t stamps, one, none)
    by false is rest =
        let none : one_if (is_drawn s t) ≡ 0 = ap one_if is in
        omega (arith, count_by-cons (is_drawn s) t stamps, none, rest)

note_counted : (x : TxnId) (note : Note) → one_if (begins x note) ≤ count_by (is_drawn x.0) (drawn_in note)
note_counted x (Begin id) = by (begins x (Begin id)) refl
  where
    by : (b : Bool) → begins x (Begin id) ≡ b → one_if (begins x (Begin id)) ≤ count_by (is_drawn x.0) (id.0 ∷ [])
    by false is = let none : one_if (begins x (Begin id)) ≡ 0 = ap one_if is in omega (arith, none)
    by true is =
        let same : id ≡ x = (id_order.decides id x).0 is in
        let drawn : one_if (is_drawn x.0 id.0) ≡ 1 = ap one_if (ap (λ (y : TxnId). stamp_eq y.0 x.0) same ∙ eq_itself stamp_order x.0) in
        let one : one_if (begins x (Begin id)) ≡ 1 = ap one_if is in
        omega (arith, one, drawn, count_by-cons (is_drawn x.0) id.0 [])
note_counted x (Recover id ballot) = omega arith
note_counted x (Blocked id ballot by) = omega arith
note_counted x (Ended id ballot by) = omega arith
note_counted x (Decide id t path deps) = omega arith
note_counted x (Outcome id reply) = omega arith
note_counted x (Reply id reply) = omega arith

notes_counted : (x : TxnId) (notes : List Note) → count_by (begins x) notes ≤ count_by (is_drawn x.0) (flat_map drawn_in notes)
notes_counted x [] = omega arith
notes_counted x (note ∷ notes) =
    omega (arith, count_by-cons (begins x) note notes, count_append (is_drawn x.0) (drawn_in note) (flat_map drawn_in notes), note_counted x note, notes_counted x notes)

begins_counted : (x : TxnId) (items : List Item) → count_by (begins x) (notes_of items) ≤ count_by (is_drawn x.0) (drawn_of items)
begins_counted x [] = omega arith
begins_counted x (item ∷ earlier) =
    omega (
      arith,
      count_append (begins x) (notes_of earlier) (noted_in item),
      count_append (is_drawn x.0) (flat_map drawn_in (noted_in item)) (drawn_of earlier),
      notes_counted x (noted_in item),
      begins_counted x earlier,
    )

there_counted : (x : TxnId) (notes : List Note) → IsIn (Begin x) notes → 1 ≤ count_by (begins x) notes
there_counted x notes (First _ rest) =
    let one : one_if (begins x (Begin x)) ≡ 1 = ap one_if (eq_itself id_order x) in omega (arith, count_by-cons (begins x) (Begin x) rest, one)
there_counted x notes (Later _ other rest there) = omega (arith, count_by-cons (begins x) other rest, there_counted x rest there)

begun_once : (cluster : Cluster) (items : List Item) (front rest : List Note) (x : TxnId) → EachStands cluster items
    → notes_of items ≡ front ++ Begin x ∷ rest → IsIn (Begin x) front → ⊥
begun_once cluster items front rest x stands are there =
    let one : one_if (begins x (Begin x)) ≡ 1 = ap one_if (eq_itself id_order x) in
    let most : count_by (begins x) (notes_of items) ≤ 1 =
    omega (arith, begins_counted x items, one_counted x.0 (drawn_of items) (distinct_draws cluster items stands)) in
    let parts : count_by (begins x) (notes_of items) ≡ count_by (begins x) front + count_by (begins x) (Begin x ∷ rest) =
    ap (count_by (begins x)) are ∙ count_append (begins x) front (Begin x ∷ rest) in
    omega (arith, most, parts, one, count_by-cons (begins x) (Begin x) rest, there_counted x front there)

-- ---- the lines

module _ (plan : Content) (items : List Item) (given : Given plan items) where
  begun_note : (front rest : List Piece) (x : TxnId) → Stands plan items front (Noted (Begin x)) rest → (note : Note) → IsIn note (notes_in front)
      → line_begins (name plan items x) (note_line (name plan items) note) ≡ true → ⊥
  begun_note front rest x at (Begin y) there same =
      let known = note_known plan items given (Begin x) (here_noted plan items given front rest (Begin x) at) in
      let other = note_known plan items given (Begin y) (before_noted plan items given front rest (Begin x) (Begin y) at there) in
      let one : y ≡ x = one_name plan items given y x other known (sym ((bytes_eq-Decides (name plan items x) (name plan items y)).0 same)) in
      begun_once (cluster_of plan) items (notes_in front) (notes_in rest) x given.stands (whole_notes plan items given front rest (Begin x) at)
      (subst (λ z. IsIn (Begin z) (notes_in front)) one there)
  begun_note front rest x at (Recover id ballot) there same = true≢false (sym same)
  begun_note front rest x at (Blocked id ballot by) there same = true≢false (sym same)
  begun_note front rest x at (Ended id ballot by) there same = true≢false (sym same)
  begun_note front rest x at (Decide id t path deps) there same = true≢false (sym same)
  begun_note front rest x at (Outcome id reply) there same = true≢false (sym same)
  begun_note front rest x at (Reply id reply) there same = true≢false (sym same)

  pub begins_none_again : (front rest : List Piece) (note : Note) → Stands plan items front (Noted note) rest
      → begins_again (reverse (map (line_of plan items) front)) (note_line (name plan items) note) ≡ false
  begins_none_again front rest (Begin x) at =
      told_before (name plan items) (name_at plan.names) (line_begins (name plan items x)) (λ line (silent : IsSilent line). silent.begins (name plan items x)) front
      ∙ false_from_ne_true (list_any (λ note. line_begins (name plan items x) (note_line (name plan items) note)) (notes_in front)) (λ found.
      let p = passing (λ note. line_begins (name plan items x) (note_line (name plan items) note)) (notes_in front) found in
      begun_note front rest x at p.element p.there p.passes)
  begins_none_again front rest (Recover id ballot) at = refl
  begins_none_again front rest (Blocked id ballot by) at = refl
  begins_none_again front rest (Ended id ballot by) at = refl
  begins_none_again front rest (Decide id t path deps) at = refl
  begins_none_again front rest (Outcome id reply) at = refl
  begins_none_again front rest (Reply id reply) at = refl
