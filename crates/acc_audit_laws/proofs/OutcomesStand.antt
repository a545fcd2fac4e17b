-- In a report of a run each outcome stands after a begin, and each reply after an outcome.
use Rattle.std.proofs.Common.{◌≡◌, ℕ, List, [], ◌∷◌, ◌++◌, map, reverse, cond, Bool, true, false, not, ◌||◌, Option, Some, None, is_some, refl, sym, ap, subst, ◌∙◌}
use Rattle.std.specs.List.{list_any}
use Rattle.std.proofs.lemmas.Bool.{or_from, or_left, true≢false}
use Rattle.std.proofs.lemmas.List.{append_assoc}
use Rattle.std.proofs.lemmas.List.Folds.{list_any-append}
use Rattle.std.proofs.lemmas.Slice.Eq.{bytes_eq-Decides}
use Rattle.acc_base.specs.Faults.{or_else}
use Rattle.acc_stamp.specs.declared.stamps.TxnId.{TxnId}
use Rattle.acc_stamp.specs.Stamp.{id_eq}
use Rattle.acc_stamp.proofs.Order.{eq_itself, id_order}
use Rattle.acc_txn.specs.declared.outcome.Reply.{Reply as ReplyValue}
use Rattle.acc_message.specs.declared.note.Note.{Note}
use Rattle.acc_message.specs.declared.note.Note.TheVariants.{Begin, Recover, Blocked, Ended, Decide, Outcome, Reply}
use Rattle.acc_message.specs.declared.item.Item.{Item}
use Rattle.acc_message.specs.Items.{begins, notes_of, replies}
use Rattle.acc_safety.specs.Decisions.{Answered, first_outcomes, is_answered, outcomes_of, replies_in, replies_of}
use Rattle.acc_safety.specs.Places.{IsIn, First}
use Rattle.acc_safety.proofs.BodiesBegun.{begins_is}
use Rattle.acc_safety.proofs.PlaceOrder.{any_from, Contains-IsIn, flat_map-IsIn, IsIn-append_right, IsIn-Contains, passing}
use Rattle.acc_schedule.specs.Content.{Content}
use Rattle.acc_report.specs.Report.{name_at, note_line}
use Rattle.acc_report_line.specs.declared.line.Line.{Line}
use Rattle.acc_audit.specs.Said.{begins as line_begins, outcome_in}
use Rattle.acc_audit.specs.Fronts.{first_reply, has_outcome}
use Rattle.acc_audit.specs.Rules.{comes_early}
use Rattle.acc_audit_laws.proofs.FirstNotes.{answered_append, first_at, firsts_there}
use Rattle.acc_audit_laws.proofs.Fronts.{told_before}
use Rattle.acc_audit_laws.proofs.Given.{Given, here_noted, line_of, name, notes_in, Stands, whole_notes}
use Rattle.acc_audit_laws.proofs.Pieces.{IsSilent, Noted, Piece}

-- ---- lines that tell an outcome

pub has_outcome-any : (n : List ℕ) (earlier : List Line) → has_outcome n earlier ≡ list_any (λ line. is_some (outcome_in n line)) earlier
has_outcome-any n [] = refl
has_outcome-any n (line ∷ earlier) =
    either (first_reply n earlier) (outcome_in n line) ∙ ap (λ b. is_some (outcome_in n line) || b) (has_outcome-any n earlier)
  where
    either : (a b : Option ReplyValue) → is_some (or_else a b) ≡ (is_some b || is_some a)
    either None None = refl
    either None (Some r) = refl
    either (Some r) None = refl
    either (Some r) (Some s) = refl

pub answer_there : (a : Answered) (notes : List Note) → IsIn (Reply a.id a.reply) notes → IsIn a (replies_of notes)
answer_there a notes there = flat_map-IsIn replies_in a (Reply a.id a.reply) notes there (First a [])

pub among_answered : (a : Answered) (answers : List Answered) → IsIn a answers → is_answered a.id answers ≡ true
among_answered a answers there = any_from (λ (b : Answered). id_eq b.id a.id) a answers there (eq_itself id_order a.id)

module _ (plan : Content) (items : List Item) (given : Given plan items) where
  abbrev named : TxnId → List ℕ
  named = name plan items

  -- ---- begins

  begun_there : (front rest : List Piece) (x : TxnId) (reply : ReplyValue) → Stands plan items front (Noted (Outcome x reply)) rest → list_any (begins x) (notes_in front) ≡ true
  begun_there front rest x reply at = by (is_answered x (outcomes_of (notes_in front))) refl
    where
      whole : notes_of items ≡ notes_in front ++ Outcome x reply ∷ notes_in rest
      whole = whole_notes plan items given front rest (Outcome x reply) at

      by : (b : Bool) → is_answered x (outcomes_of (notes_in front)) ≡ b → list_any (begins x) (notes_in front) ≡ true
      by false new = (given.serial.in_place (notes_in front) (notes_in rest) x reply whole new).0
      by true old =
          let f = first_at x (notes_in front) old in
          let earlier : notes_of items ≡ f.before ++ Outcome x f.reply ∷ (f.after ++ Outcome x reply ∷ notes_in rest) =
          whole ∙ ap (λ (ns : List Note). ns ++ Outcome x reply ∷ notes_in rest) f.are ∙ append_assoc f.before (Outcome x f.reply ∷ f.after) (Outcome x reply ∷ notes_in rest) in
          ap (list_any (begins x)) f.are
          ∙ list_any-append (begins x) f.before (Outcome x f.reply ∷ f.after)
          ∙ or_left (list_any (begins x) f.before) (list_any (begins x) (Outcome x f.reply ∷ f.after))
          (given.serial.in_place f.before (f.after ++ Outcome x reply ∷ notes_in rest) x f.reply earlier f.new).0

  outcome_stands : (front rest : List Piece) (x : TxnId) (reply : ReplyValue) → Stands plan items front (Noted (Outcome x reply)) rest
      → list_any (line_begins (named x)) (reverse (map (line_of plan items) front)) ≡ true
  outcome_stands front rest x reply at =
      let p = passing (begins x) (notes_in front) (begun_there front rest x reply at) in
      let there : IsIn (Begin x) (notes_in front) = subst (λ note. IsIn note (notes_in front)) (begins_is x p.element p.passes) p.there in
      told_before named (name_at plan.names) (line_begins (named x)) (λ line (silent : IsSilent line). silent.begins (named x)) front
      ∙ any_from (λ note. line_begins (named x) (note_line named note)) (Begin x) (notes_in front) there ((bytes_eq-Decides (named x) (named x)).1 refl)

  -- ---- outcomes

  -- a transaction that is replied to has its outcome before
  answered_there : (front rest : List Piece) (x : TxnId) (reply : ReplyValue) → Stands plan items front (Noted (Reply x reply)) rest → is_answered x (outcomes_of (notes_in front)) ≡ true
  answered_there front rest x reply at = by (is_answered x (outcomes_of (notes_in front))) refl
    where
      whole : notes_of items ≡ notes_in front ++ Reply x reply ∷ notes_in rest
      whole = whole_notes plan items given front rest (Reply x reply) at

      answered : is_answered x (outcomes_of (notes_of items)) ≡ true
      answered =
          let b : Answered = record { id = x; reply = reply } in
          among_answered b (outcomes_of (notes_of items))
          (firsts_there [] (outcomes_of (notes_of items)) b
          (Contains-IsIn b (first_outcomes (notes_of items))
          (given.serial.replies_agree b
          (IsIn-Contains b (replies_of (notes_of items)) (answer_there b (notes_of items) (here_noted plan items given front rest (Reply x reply) at))))))

      by : (b : Bool) → is_answered x (outcomes_of (notes_in front)) ≡ b → b ≡ true
      by true old = refl
      by false new =
          let later : is_answered x (outcomes_of (notes_in rest)) ≡ true =
          ap (λ b. b || is_answered x (outcomes_of (notes_in rest))) (sym new) ∙ sym (answered_append x (notes_in front) (Reply x reply ∷ notes_in rest))
          ∙ ap (λ (ns : List Note). is_answered x (outcomes_of ns)) (sym whole) ∙ answered in
          let f = first_at x (notes_in rest) later in
          let split : notes_of items ≡ (notes_in front ++ Reply x reply ∷ f.before) ++ Outcome x f.reply ∷ f.after =
          whole ∙ ap (λ (ns : List Note). notes_in front ++ Reply x reply ∷ ns) f.are
          ∙ sym (append_assoc (notes_in front) (Reply x reply ∷ f.before) (Outcome x f.reply ∷ f.after)) in
          let none : is_answered x (outcomes_of (notes_in front ++ Reply x reply ∷ f.before)) ≡ false =
          answered_append x (notes_in front) (Reply x reply ∷ f.before)
          ∙ or_from (is_answered x (outcomes_of (notes_in front))) (is_answered x (outcomes_of f.before)) new f.new in
          absurd (true≢false
          (sym (any_from (replies x) (Reply x reply) (notes_in front ++ Reply x reply ∷ f.before)
          (IsIn-append_right (Reply x reply) (notes_in front) (Reply x reply ∷ f.before) (First (Reply x reply) f.before)) (eq_itself id_order x))
          ∙ (given.serial.in_place (notes_in front ++ Reply x reply ∷ f.before) f.after x f.reply split none).1))

  -- and so it has among the lines
  pub outcome_told : (front : List Piece) (x : TxnId) → is_answered x (outcomes_of (notes_in front)) ≡ true → has_outcome (named x) (reverse (map (line_of plan items) front)) ≡ true
  outcome_told front x old =
      let f = first_at x (notes_in front) old in
      let there : IsIn (Outcome x f.reply) (notes_in front) =
      subst (IsIn (Outcome x f.reply)) (sym f.are) (IsIn-append_right (Outcome x f.reply) f.before (Outcome x f.reply ∷ f.after) (First (Outcome x f.reply) f.after)) in
      has_outcome-any (named x) (reverse (map (line_of plan items) front))
      ∙ told_before named (name_at plan.names) (λ line. is_some (outcome_in (named x) line)) (λ line (silent : IsSilent line). ap is_some (silent.outcome (named x))) front
      ∙ any_from (λ note. is_some (outcome_in (named x) (note_line named note))) (Outcome x f.reply) (notes_in front) there
      (ap (λ b. is_some (cond b (Some f.reply) None)) ((bytes_eq-Decides (named x) (named x)).1 refl))

  pub none_early : (front rest : List Piece) (note : Note) → Stands plan items front (Noted note) rest
      → comes_early (reverse (map (line_of plan items) front)) (note_line (name plan items) note) ≡ false
  none_early front rest (Outcome x reply) at = ap not (outcome_stands front rest x reply at)
  none_early front rest (Reply x reply) at = ap not (outcome_told front x (answered_there front rest x reply at))
  none_early front rest (Begin id) at = refl
  none_early front rest (Recover id ballot) at = refl
  none_early front rest (Blocked id ballot by) at = refl
  none_early front rest (Ended id ballot by) at = refl
  none_early front rest (Decide id t path deps) at = refl
