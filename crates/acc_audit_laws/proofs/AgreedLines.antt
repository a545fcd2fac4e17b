-- The decisions that a report of a run tells agree.
use Rattle.std.proofs.Common.{◌≡◌, ℕ, List, [], map, reverse, Contains, Bool, true, false, not, Option, None, refl, sym, ap, ◌∙◌}
use Rattle.std.specs.List.{list_any}
use Rattle.std.specs.Str.{bytes_eq}
use Rattle.std.proofs.lemmas.Bool.{and_parts, false_from_ne_true, or_from, true≢false}
use Rattle.std.proofs.lemmas.Slice.Eq.{bytes_eq-Decides}
use Rattle.acc_stamp.specs.declared.stamps.Stamp.{Stamp}
use Rattle.acc_stamp.specs.declared.stamps.TxnId.{TxnId}
use Rattle.acc_stamp.specs.Stamp.{stamp_eq}
use Rattle.acc_stamp.proofs.Order.{stamp_order}
use Rattle.acc_deps.specs.declared.shards.ShardDeps.{ShardDeps}
use Rattle.acc_message.specs.declared.note.Path.{Path}
use Rattle.acc_message.specs.declared.note.Note.{Note}
use Rattle.acc_message.specs.declared.note.Note.TheVariants.{Begin, Recover, Blocked, Ended, Decide, Outcome, Reply}
use Rattle.acc_message.specs.declared.item.Item.{Item}
use Rattle.acc_message.specs.Items.{notes_of}
use Rattle.acc_safety.specs.Agreement.{Agrees}
use Rattle.acc_safety.specs.Decisions.{Decision, decisions_in, decisions_of}
use Rattle.acc_safety.specs.Places.{IsIn, First}
use Rattle.acc_safety.proofs.PlaceOrder.{flat_map-IsIn, IsIn-Contains, passing}
use Rattle.acc_schedule.specs.Content.{Content}
use Rattle.acc_report.specs.Report.{name_at, note_line}
use Rattle.acc_audit.specs.Said.{decides_another, decides_otherwise, decision_in, is_of_another, is_otherwise}
use Rattle.acc_audit.specs.Rules.{disagrees}
use Rattle.acc_audit_laws.proofs.Fronts.{told_before}
use Rattle.acc_audit_laws.proofs.Given.{before_noted, Given, here_noted, line_of, name, note_known, notes_in, one_name, Stands}
use Rattle.acc_audit_laws.proofs.Pieces.{IsSilent, Noted, Piece}

pub decision_noted : (notes : List Note) (x : TxnId) (t : Stamp) (path : Path) (deps : List ShardDeps) → IsIn (Decide x t path deps) notes
    → Contains (decisions_of notes) (record { id = x; t = t; deps = deps })
decision_noted notes x t path deps there =
    let d : Decision = record { id = x; t = t; deps = deps } in
    IsIn-Contains d (decisions_of notes) (flat_map-IsIn decisions_in d (Decide x t path deps) notes there (First d []))

pub not_true : (b : Bool) → not b ≡ true → b ≡ true → ⊥
not_true true h k = true≢false (sym h)
not_true false h k = true≢false (sym k)

module _ (plan : Content) (items : List Item) (given : Given plan items) where
  abbrev named : TxnId → List ℕ
  named = name plan items

  same_name : (a b : List ℕ) → a ≡ b → bytes_eq a b ≡ true
  same_name a b = (bytes_eq-Decides a b).1

  -- two decisions of the notes
  agreed : (x y : TxnId) (t u : Stamp) (p q : Path) (deps more : List ShardDeps) → IsIn (Decide x t p deps) (notes_of items) → IsIn (Decide y u q more) (notes_of items)
      → (bytes_eq (named x) (named y) ≡ true → stamp_eq t u ≡ true) × (stamp_eq t u ≡ true → bytes_eq (named x) (named y) ≡ true)
  agreed x y t u p q deps more here there =
      let agrees : Agrees (record { id = x; t = t; deps = deps }) (record { id = y; t = u; deps = more }) =
      given.agreement (record { id = x; t = t; deps = deps }) (record { id = y; t = u; deps = more })
      (decision_noted (notes_of items) x t p deps here) (decision_noted (notes_of items) y u q more there) in (
        λ same. (stamp_order.decides t u).1 (agrees.same
            (one_name plan items given x y (note_known plan items given (Decide x t p deps) here) (note_known plan items given (Decide y u q more) there)
            ((bytes_eq-Decides (named x) (named y)).0 same))),
        λ same. by (bytes_eq (named x) (named y)) refl same agrees,
      )
    where
      by : (b : Bool) → bytes_eq (named x) (named y) ≡ b → stamp_eq t u ≡ true → Agrees (record { id = x; t = t; deps = deps }) (record { id = y; t = u; deps = more }) → b ≡ true
      by true is same agrees = refl
      by false is same agrees =
          absurd (agrees.different (λ (one : x ≡ y). true≢false (sym (same_name (named x) (named y) (ap named one)) ∙ is)) ((stamp_order.decides t u).0 same))

  module _ (front rest : List Piece) (x : TxnId) (t : Stamp) (path : Path) (deps : List ShardDeps) (at : Stands plan items front (Noted (Decide x t path deps)) rest) where
    here : IsIn (Decide x t path deps) (notes_of items)
    here = here_noted plan items given front rest (Decide x t path deps) at

    never_otherwise : (note : Note) → IsIn note (notes_in front) → is_otherwise (named x) t (decision_in (note_line named note)) ≡ true → ⊥
    never_otherwise (Decide y u q more) there h =
        let parts = and_parts (bytes_eq (named x) (named y)) (not (stamp_eq t u)) h in
        not_true (stamp_eq t u) parts.1
        ((agreed x y t u path q deps more here (before_noted plan items given front rest (Decide x t path deps) (Decide y u q more) at there)).0 parts.0)
    never_otherwise (Begin id) there h = true≢false (sym h)
    never_otherwise (Recover id ballot) there h = true≢false (sym h)
    never_otherwise (Blocked id ballot by) there h = true≢false (sym h)
    never_otherwise (Ended id ballot by) there h = true≢false (sym h)
    never_otherwise (Outcome id reply) there h = true≢false (sym h)
    never_otherwise (Reply id reply) there h = true≢false (sym h)

    never_another : (note : Note) → IsIn note (notes_in front) → is_of_another (named x) t (decision_in (note_line named note)) ≡ true → ⊥
    never_another (Decide y u q more) there h =
        let parts = and_parts (not (bytes_eq (named x) (named y))) (stamp_eq t u) h in
        not_true (bytes_eq (named x) (named y)) parts.0
        ((agreed x y t u path q deps more here (before_noted plan items given front rest (Decide x t path deps) (Decide y u q more) at there)).1 parts.1)
    never_another (Begin id) there h = true≢false (sym h)
    never_another (Recover id ballot) there h = true≢false (sym h)
    never_another (Blocked id ballot by) there h = true≢false (sym h)
    never_another (Ended id ballot by) there h = true≢false (sym h)
    never_another (Outcome id reply) there h = true≢false (sym h)
    never_another (Reply id reply) there h = true≢false (sym h)

    -- a test of decisions that none of the notes before it passes
    none_passes : (test : Option (List ℕ × Stamp) → Bool) → test None ≡ false → ((note : Note) → IsIn note (notes_in front) → test (decision_in (note_line named note)) ≡ true → ⊥)
        → list_any (λ line. test (decision_in line)) (reverse (map (line_of plan items) front)) ≡ false
    none_passes test quiet none =
        told_before named (name_at plan.names) (λ line. test (decision_in line)) (λ line (silent : IsSilent line). ap test silent.decision ∙ quiet) front
        ∙ false_from_ne_true (list_any (λ note. test (decision_in (note_line named note))) (notes_in front)) (λ found.
        let p = passing (λ note. test (decision_in (note_line named note))) (notes_in front) found in
        none p.element p.there p.passes)

    decision_agrees : disagrees (reverse (map (line_of plan items) front)) (note_line named (Decide x t path deps)) ≡ false
    decision_agrees =
        or_from (list_any (decides_otherwise (named x) t) (reverse (map (line_of plan items) front))) (list_any (decides_another (named x) t) (reverse (map (line_of plan items) front)))
        (none_passes (is_otherwise (named x) t) refl never_otherwise) (none_passes (is_of_another (named x) t) refl never_another)

  pub decisions_agree : (front rest : List Piece) (note : Note) → Stands plan items front (Noted note) rest
      → disagrees (reverse (map (line_of plan items) front)) (note_line (name plan items) note) ≡ false
  decisions_agree front rest (Decide x t path deps) at = decision_agrees front rest x t path deps at
  decisions_agree front rest (Begin id) at = refl
  decisions_agree front rest (Recover id ballot) at = refl
  decisions_agree front rest (Blocked id ballot by) at = refl
  decisions_agree front rest (Ended id ballot by) at = refl
  decisions_agree front rest (Outcome id reply) at = refl
  decisions_agree front rest (Reply id reply) at = refl
