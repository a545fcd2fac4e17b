-- Each decision that a report of a run tells names every conflicting transaction that some line decides below it.
use Rattle.std.proofs.Common.{◌≡◌, ℕ, ◌==◌, List, [], ◌∷◌, ◌++◌, map, cond, Bool, true, false, not, ◌&&◌, ◌||◌, Option, None, refl, sym, ap, ap₂, subst, ◌∙◌}
use Rattle.std.specs.List.{list_any, flat_map}
use Rattle.std.specs.Str.{bytes_eq}
use Rattle.std.proofs.lemmas.Bool.{and_parts, false_from_ne_true, or_from, or_left, or_right, true≢false}
use Rattle.std.proofs.lemmas.List.Folds.{list_any-append}
use Rattle.std.proofs.lemmas.Slice.Eq.{bytes_eq-Decides}
use Rattle.acc_stamp.specs.declared.stamps.Stamp.{Stamp}
use Rattle.acc_stamp.specs.declared.stamps.TxnId.{TxnId}
use Rattle.acc_stamp.specs.Rising.{id_among}
use Rattle.acc_stamp.specs.Stamp.{id_eq, stamp_lt}
use Rattle.acc_stamp.proofs.Order.{id_order}
use Rattle.acc_deps.specs.declared.shards.ShardDeps.{ShardDeps}
use Rattle.acc_deps.specs.Deps.{all_ids, deps_has, of_shard}
use Rattle.acc_deps.proofs.ByShard.{all_ids-has}
use Rattle.acc_value.specs.Footprint.{clashes}
use Rattle.acc_txn.specs.Uses.{footprint_of}
use Rattle.acc_message.specs.declared.note.Path.{Path}
use Rattle.acc_message.specs.declared.note.Note.{Note}
use Rattle.acc_message.specs.declared.note.Note.TheVariants.{Begin, Recover, Blocked, Ended, Decide, Outcome, Reply}
use Rattle.acc_message.specs.declared.item.Item.{Item}
use Rattle.acc_message.specs.Items.{notes_of}
use Rattle.acc_safety.specs.Coverage.{Conflict}
use Rattle.acc_safety.specs.Places.{IsIn}
use Rattle.acc_safety.proofs.Meetings.{conflict-symm}
use Rattle.acc_safety.proofs.PlaceOrder.{any_from, map-IsIn, passing}
use Rattle.acc_schedule.specs.Content.{Content}
use Rattle.acc_schedule_runs.specs.Schedules.{cluster_of}
use Rattle.acc_report.specs.Report.{name_at, note_line}
use Rattle.acc_report_line.specs.declared.line.Line.{Line}
use Rattle.acc_audit.specs.Fronts.{conflict}
use Rattle.acc_audit.specs.Said.{decision_in}
use Rattle.acc_audit.specs.Rules.{is_missed, is_unnamed, misses}
use Rattle.acc_audit_laws.proofs.AgreedLines.{decision_noted, not_true}
use Rattle.acc_audit_laws.proofs.Called.{has_body}
use Rattle.acc_audit_laws.proofs.Conflicts.{some_clash}
use Rattle.acc_audit_laws.proofs.Fronts.{told_any}
use Rattle.acc_audit_laws.proofs.Given.{Given, here_noted, line_of, name, note_known, pieces_of, Stands}
use Rattle.acc_audit_laws.proofs.Pieces.{IsSilent, Noted, notes_are, notes_at, Piece}

-- what is among those of a shard is among those of all
in_some_shard : (deps : List ShardDeps) (shard : ℕ) (x : TxnId) → id_among x (of_shard deps shard) ≡ true → list_any (λ (d : ShardDeps). id_among x d.ids) deps ≡ true
in_some_shard [] shard x h = h
in_some_shard (d ∷ deps) shard x h = by (d.shard == shard) h (in_some_shard deps shard x)
  where
    by : (b : Bool) → id_among x (cond b d.ids (of_shard deps shard)) ≡ true → (id_among x (of_shard deps shard) ≡ true → list_any (λ (e : ShardDeps). id_among x e.ids) deps ≡ true)
        → (id_among x d.ids || list_any (λ (e : ShardDeps). id_among x e.ids) deps) ≡ true
    by true here rest = or_left (id_among x d.ids) (list_any (λ (e : ShardDeps). id_among x e.ids) deps) here
    by false here rest = or_right (id_among x d.ids) (list_any (λ (e : ShardDeps). id_among x e.ids) deps) (rest here)

-- and its name is among theirs
pub name_among : (named : TxnId → List ℕ) (deps : List ShardDeps) (shard : ℕ) (x : TxnId) → deps_has deps shard x ≡ true → list_any (bytes_eq (named x)) (map named (all_ids deps)) ≡ true
name_among named deps shard x h =
    let p = passing (λ y. id_eq y x) (all_ids deps) (all_ids-has deps x ∙ in_some_shard deps shard x h) in
    let there : IsIn x (all_ids deps) = subst (λ y. IsIn y (all_ids deps)) ((id_order.decides p.element x).0 p.passes) p.there in
    any_from (bytes_eq (named x)) (named x) (map named (all_ids deps)) (map-IsIn named x (all_ids deps) there) ((bytes_eq-Decides (named x) (named x)).1 refl)

module _ (plan : Content) (items : List Item) (given : Given plan items) where
  abbrev named : TxnId → List ℕ
  named = name plan items

  -- of two decisions that conflict the greater one names the other
  names_lower : (x y : TxnId) (t u : Stamp) (p q : Path) (deps more : List ShardDeps) → IsIn (Decide x t p deps) (notes_of items) → IsIn (Decide y u q more) (notes_of items)
      → stamp_lt u t ≡ true → bytes_eq (named y) (named x) ≡ false → conflict plan.names plan.bodies (named x) (named y) ≡ true
      → list_any (bytes_eq (named y)) (map named (all_ids deps)) ≡ true
  names_lower x y t u p q deps more here there below differ clash =
      let mine = has_body plan items given.is_plan given.valid given.stands x (note_known plan items given (Decide x t p deps) here) in
      let other = has_body plan items given.is_plan given.valid given.stands y (note_known plan items given (Decide y u q more) there) in
      let shard = some_clash plan.topology (footprint_of mine.body) (footprint_of other.body)
      (sym (ap₂ (λ a b. clashes (footprint_of a) (footprint_of b)) mine.same other.same) ∙ clash) in
      let conflicts : Conflict (cluster_of plan) items shard.0 y x = record {
        first = other.body;
        second = mine.body;
        first_is = other.is;
        second_is = mine.is;
        different = λ (one : y ≡ x). true≢false (sym ((bytes_eq-Decides (named y) (named x)).1 (ap named one)) ∙ differ);
        conflict = conflict-symm plan.topology shard.0 other.body mine.body ∙ shard.1;
      } in
      name_among named deps shard.0 y
      (given.coverage shard.0 (record { id = y; t = u; deps = more }) (record { id = x; t = t; deps = deps })
      (decision_noted (notes_of items) y u q more there) (decision_noted (notes_of items) x t p deps here) conflicts below)

  module _ (front rest : List Piece) (x : TxnId) (t : Stamp) (path : Path) (deps : List ShardDeps) (at : Stands plan items front (Noted (Decide x t path deps)) rest) where
    abbrev unnamed : Option (List ℕ × Stamp) → Bool
    unnamed = is_unnamed plan.names plan.bodies (named x) t (map named (all_ids deps))

    never_unnamed : (note : Note) → IsIn note (notes_of items) → unnamed (decision_in (note_line named note)) ≡ true → ⊥
    never_unnamed (Decide y u q more) there h =
        let last = and_parts (stamp_lt u t && not (bytes_eq (named y) (named x)) && conflict plan.names plan.bodies (named x) (named y))
        (not (list_any (bytes_eq (named y)) (map named (all_ids deps)))) h in
        let second = and_parts (stamp_lt u t && not (bytes_eq (named y) (named x))) (conflict plan.names plan.bodies (named x) (named y)) last.0 in
        let first = and_parts (stamp_lt u t) (not (bytes_eq (named y) (named x))) second.0 in
        not_true (list_any (bytes_eq (named y)) (map named (all_ids deps))) last.1
        (names_lower x y t u path q deps more (here_noted plan items given front rest (Decide x t path deps) at) there first.0
        (false_from_ne_true (bytes_eq (named y) (named x)) (not_true (bytes_eq (named y) (named x)) first.1)) second.1)
    never_unnamed (Begin id) there h = true≢false (sym h)
    never_unnamed (Recover id ballot) there h = true≢false (sym h)
    never_unnamed (Blocked id ballot by) there h = true≢false (sym h)
    never_unnamed (Ended id ballot by) there h = true≢false (sym h)
    never_unnamed (Outcome id reply) there h = true≢false (sym h)
    never_unnamed (Reply id reply) there h = true≢false (sym h)

    decision_covers : (last : Line) → decision_in last ≡ None
        → misses plan.names plan.bodies (map (line_of plan items) (pieces_of plan items) ++ last ∷ []) (note_line named (Decide x t path deps)) ≡ false
    decision_covers last quiet =
        let test : Line → Bool = is_missed plan.names plan.bodies (named x) t (map named (all_ids deps)) in
        list_any-append test (map (line_of plan items) (pieces_of plan items)) (last ∷ [])
        ∙ or_from (list_any test (map (line_of plan items) (pieces_of plan items))) (test last || false)
        (told_any named (name_at plan.names) test (λ line (silent : IsSilent line). ap unnamed silent.decision) (pieces_of plan items)
        ∙ false_from_ne_true (list_any (λ note. test (note_line named note)) (flat_map notes_at (pieces_of plan items))) (λ found.
        let p = passing (λ note. test (note_line named note)) (flat_map notes_at (pieces_of plan items)) found in
        never_unnamed p.element (subst (IsIn p.element) (notes_are named (name_at plan.names) items) p.there) p.passes))
        (or_from (test last) false (ap unnamed quiet) refl)

  pub decisions_cover : (front rest : List Piece) (note : Note) (last : Line) → decision_in last ≡ None → Stands plan items front (Noted note) rest
      → misses plan.names plan.bodies (map (line_of plan items) (pieces_of plan items) ++ last ∷ []) (note_line (name plan items) note) ≡ false
  decisions_cover front rest (Decide x t path deps) last quiet at = decision_covers front rest x t path deps at last quiet
  decisions_cover front rest (Begin id) last quiet at = refl
  decisions_cover front rest (Recover id ballot) last quiet at = refl
  decisions_cover front rest (Blocked id ballot by) last quiet at = refl
  decisions_cover front rest (Ended id ballot by) last quiet at = refl
  decisions_cover front rest (Outcome id reply) last quiet at = refl
  decisions_cover front rest (Reply id reply) last quiet at = refl
