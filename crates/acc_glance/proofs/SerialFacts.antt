-- The tables of serial cells, note by note.
use Rattle.std.proofs.Common.{◌≡◌, ℕ, ◌+◌, ◌<◌, Bool, true, false, ◌||◌, cond, List, [], ◌∷◌, ◌++◌, length, take, get_or, Option, None, Some, Result, Ok, Err, is_some, refl, sym, ◌∙◌, ap, subst, arith}
use Rattle.std.specs.Prelude.{OnOk}
use Rattle.std.specs.List.{list_any}
use Rattle.std.specs.BTreeMap.{is_at}
use Rattle.std.proofs.lemmas.Bool.{true≢false}
use Rattle.std.proofs.lemmas.Bool.Decides.{nat_tests}
use Rattle.std.proofs.lemmas.List.{append-nil, append_assoc, take_more}
use Rattle.std.proofs.lemmas.List.Concat.{flat_map-append}
use Rattle.std.proofs.lemmas.List.Folds.{list_any-append}
use Rattle.acc_base.specs.Faults.{or_else}
use Rattle.acc_stamp.specs.declared.stamps.TxnId.{TxnId}
use Rattle.acc_stamp.specs.Stamp.{id_cmp, id_eq}
use Rattle.acc_stamp.proofs.Order.{id_order}
use Rattle.acc_value.specs.declared.key.Key.{Key}
use Rattle.acc_value.specs.declared.value.Value.{Value}
use Rattle.acc_value.specs.Cells.{cells_of}
use Rattle.acc_txn.specs.declared.parts.BodyParts.{BodyParts}
use Rattle.acc_txn.specs.declared.outcome.Reply.{Reply as ReplyValue}
use Rattle.acc_txn.specs.Serial.{map_after}
use Rattle.acc_message.specs.declared.note.Note.{Note}
use Rattle.acc_message.specs.declared.note.Note.TheVariants.{Begin, Recover, Blocked, Ended, Decide, Outcome, Reply}
use Rattle.acc_message.specs.declared.item.Item.{Item}
use Rattle.acc_message.specs.Items.{notes_of, noted_in, txn_in, txn_of}
use Rattle.acc_message.specs.Run.{Cluster}
use Rattle.acc_report.specs.Known.{number_at}
use Rattle.acc_safety.specs.Decisions.{Answered, body_at, body_of, firsts_after, first_outcomes, is_answered, outcomes_in, outcomes_of}
use Rattle.acc_glance_laws.specs.SerialCells.{cells_after, cells_then}
use Rattle.acc_glance.specs.declared.serial.Serial.{Serial}
use Rattle.acc_glance.specs.Serial.{cells_by, has_id, outcome_id, HaveBodies, Tells, TellsNotes}

-- ---- first outcomes of a list with one more

none_before : (x : TxnId) (b : Bool) → (b || false) ≡ b
none_before x true = refl
none_before x false = refl

-- the first ones after those that were seen, with one more at the end
firsts_push : (seen answers : List Answered) (a : Answered)
    → firsts_after seen (answers ++ a ∷ []) ≡ firsts_after seen answers ++ cond (is_answered a.id answers || is_answered a.id seen) [] (a ∷ [])
firsts_push seen [] a = refl
firsts_push seen (b ∷ answers) a = by (is_answered b.id seen) (firsts_push (b ∷ seen) answers a ∙ ap (λ o. firsts_after (b ∷ seen) answers ++ cond o [] (a ∷ [])) turned)
  where
    swap : (p q r : Bool) → (p || (q || r)) ≡ ((q || p) || r)
    swap true true r = refl
    swap true false r = refl
    swap false true r = refl
    swap false false r = refl

    turned : (is_answered a.id answers || is_answered a.id (b ∷ seen)) ≡ (is_answered a.id (b ∷ answers) || is_answered a.id seen)
    turned = swap (is_answered a.id answers) (id_eq b.id a.id) (is_answered a.id seen)

    by : (o : Bool) → firsts_after (b ∷ seen) (answers ++ a ∷ []) ≡ firsts_after (b ∷ seen) answers ++ cond (is_answered a.id (b ∷ answers) || is_answered a.id seen) [] (a ∷ [])
        → cond o (firsts_after (b ∷ seen) (answers ++ a ∷ [])) (b ∷ firsts_after (b ∷ seen) (answers ++ a ∷ []))
        ≡ cond o (firsts_after (b ∷ seen) answers) (b ∷ firsts_after (b ∷ seen) answers) ++ cond (is_answered a.id (b ∷ answers) || is_answered a.id seen) [] (a ∷ [])
    by true rest = rest
    by false rest = ap (λ l. b ∷ l) rest

-- ---- notes with one more

outcomes_push : (notes : List Note) (note : Note) → outcomes_of (notes ++ note ∷ []) ≡ outcomes_of notes ++ outcomes_in note
outcomes_push notes note = flat_map-append outcomes_in notes (note ∷ []) ∙ ap (λ l. outcomes_of notes ++ l) (append-nil (outcomes_in note))

quiet_note : (note : Note) → outcome_id note ≡ None → outcomes_in note ≡ []
quiet_note (Begin id) h = refl
quiet_note (Recover id ballot) h = refl
quiet_note (Blocked id ballot by) h = refl
quiet_note (Ended id ballot by) h = refl
quiet_note (Decide id t path deps) h = refl
quiet_note (Outcome id reply) h = absurd cc
quiet_note (Reply id reply) h = refl

outcome_note : (note : Note) (id : TxnId) → outcome_id note ≡ Some id → (reply : ReplyValue) × (outcomes_in note ≡ record { id = id; reply = reply } ∷ [])
outcome_note (Outcome x reply) id h = (reply, ap (λ (y : TxnId). record { id = y; reply = reply } ∷ []) (let e : x ≡ id = cc in e))
outcome_note (Begin x) id h = absurd cc
outcome_note (Recover x ballot) id h = absurd cc
outcome_note (Blocked x ballot by) id h = absurd cc
outcome_note (Ended x ballot by) id h = absurd cc
outcome_note (Decide x t path deps) id h = absurd cc
outcome_note (Reply x reply) id h = absurd cc

module _ (cluster : Cluster) (items : List Item) where
  abbrev tells_by : Serial → List Answered → Type 0
  tells_by serial answers =
      ((x : TxnId) → has_id serial.answered.keys x ≡ is_answered x answers) × HaveBodies cluster items (firsts_after [] answers)
      × ((key : Key) → cells_of serial.cells key ≡ cells_after cluster items (λ _. None) (firsts_after [] answers) key)

  -- a note without an outcome
  pub quiet : (serial : Serial) (notes : List Note) (note : Note) → outcome_id note ≡ None → TellsNotes serial cluster items notes → TellsNotes serial cluster items (notes ++ note ∷ [])
  quiet serial notes note none t =
      let same : outcomes_of notes ≡ outcomes_of (notes ++ note ∷ []) =
      sym (outcomes_push notes note ∙ ap (λ l. outcomes_of notes ++ l) (quiet_note note none) ∙ append-nil (outcomes_of notes)) in
      let moved = subst (tells_by serial) same (t.answered, t.bodies, t.cells) in
      record { begun = t.begun; answered = moved.0; bodies = moved.1; cells = moved.2 }

  answered_push : (answers : List Answered) (a : Answered) (x : TxnId) → is_answered x (answers ++ a ∷ []) ≡ (is_answered x answers || id_eq a.id x)
  answered_push answers a x =
      list_any-append (λ (b : Answered). id_eq b.id x) answers (a ∷ []) ∙ ap (λ b. is_answered x answers || b) (none_before x (id_eq a.id x))

  -- an outcome of a transaction that has one
  old_tells : (serial : Serial) (answers : List Answered) (a : Answered) → has_id serial.answered.keys a.id ≡ true → tells_by serial answers → tells_by serial (answers ++ a ∷ [])
  old_tells serial answers a has t =
      let was : is_answered a.id answers ≡ true = sym (t.0 a.id) ∙ has in
      let firsts : firsts_after [] answers ≡ firsts_after [] (answers ++ a ∷ []) =
      sym (firsts_push [] answers a ∙ ap (λ o. firsts_after [] answers ++ cond o [] (a ∷ [])) (none_before a.id (is_answered a.id answers) ∙ was) ∙ append-nil (firsts_after [] answers)) in (
        λ x. t.0 x ∙ same x (id_eq a.id x) refl ∙ sym (answered_push answers a x),
        subst (HaveBodies cluster items) firsts t.1,
        λ key. t.2 key ∙ ap (λ f. cells_after cluster items (λ _. None) f key) firsts,
      )
    where
      same : (x : TxnId) (b : Bool) → id_eq a.id x ≡ b → is_answered x answers ≡ (is_answered x answers || b)
      same x false is = sym (none_before x (is_answered x answers))
      same x true is =
          let there : is_answered x answers ≡ true = sym (t.0 x) ∙ ap (has_id serial.answered.keys) (sym ((id_order.decides a.id x).0 is)) ∙ has in
          there ∙ sym (ap (λ b. b || true) there)

  pub old_outcome : (serial : Serial) (notes : List Note) (note : Note) (id : TxnId) → outcome_id note ≡ Some id → has_id serial.answered.keys id ≡ true
      → TellsNotes serial cluster items notes → TellsNotes serial cluster items (notes ++ note ∷ [])
  old_outcome serial notes note id is has t =
      let told = outcome_note note id is in
      let a : Answered = record { id = id; reply = told.0 } in
      let same : outcomes_of notes ++ a ∷ [] ≡ outcomes_of (notes ++ note ∷ []) = sym (outcomes_push notes note ∙ ap (λ l. outcomes_of notes ++ l) told.1) in
      let moved = subst (tells_by serial) same (old_tells serial (outcomes_of notes) a has (t.answered, t.bodies, t.cells)) in
      record { begun = t.begun; answered = moved.0; bodies = moved.1; cells = moved.2 }

  -- ---- a first outcome

  fold_push : (cells : Key → Option Value) (answers : List Answered) (a : Answered)
      → cells_after cluster items cells (answers ++ a ∷ []) ≡ cells_then (cells_after cluster items cells answers) (body_of cluster items a.id)
  fold_push cells [] a = refl
  fold_push cells (b ∷ answers) a = fold_push (cells_then cells (body_of cluster items b.id)) answers a

  bodies_push : (answers : List Answered) (a : Answered) (body : BodyParts) → HaveBodies cluster items answers → body_of cluster items a.id ≡ Some body → HaveBodies cluster items (answers ++ a ∷ [])
  bodies_push [] a body all is = ((body, is), tt)
  bodies_push (b ∷ answers) a body all is = (all.0, bodies_push answers a body all.1 is)

  new_tells : (old new : Serial) (answers : List Answered) (a : Answered) (body : BodyParts) → has_id old.answered.keys a.id ≡ false → body_of cluster items a.id ≡ Some body
      → ((x : TxnId) → has_id new.answered.keys x ≡ (has_id old.answered.keys x || id_eq a.id x))
      → ((key : Key) → cells_of new.cells key ≡ map_after (cells_of old.cells) body key) → tells_by old answers → tells_by new (answers ++ a ∷ [])
  new_tells old new answers a body has is answered cells t =
      let was : is_answered a.id answers ≡ false = sym (t.0 a.id) ∙ has in
      let firsts : firsts_after [] answers ++ a ∷ [] ≡ firsts_after [] (answers ++ a ∷ []) =
      sym (firsts_push [] answers a ∙ ap (λ o. firsts_after [] answers ++ cond o [] (a ∷ [])) (none_before a.id (is_answered a.id answers) ∙ was)) in
      let before : cells_of old.cells ≡ cells_after cluster items (λ _. None) (firsts_after [] answers) = λ i. λ key. t.2 key i in (
        λ x. answered x ∙ ap (λ b. b || id_eq a.id x) (t.0 x) ∙ sym (answered_push answers a x),
        subst (HaveBodies cluster items) firsts (bodies_push (firsts_after [] answers) a body t.1 is),
        λ key.
            cells key ∙ ap (λ m. map_after m body key) before
            ∙ ap (λ o. cells_then (cells_after cluster items (λ _. None) (firsts_after [] answers)) o key) (sym is)
            ∙ ap (λ m. m key) (sym (fold_push (λ _. None) (firsts_after [] answers) a))
            ∙ ap (λ f. cells_after cluster items (λ _. None) f key) firsts,
      )

  pub new_outcome : (old new : Serial) (notes : List Note) (note : Note) (id : TxnId) (body : BodyParts) → outcome_id note ≡ Some id → has_id old.answered.keys id ≡ false
      → body_at cluster (number_at old.begun.entries id) ≡ Some body → ((x : TxnId) → number_at new.begun.entries x ≡ number_at old.begun.entries x)
      → ((x : TxnId) → has_id new.answered.keys x ≡ (has_id old.answered.keys x || id_eq id x))
      → ((key : Key) → cells_of new.cells key ≡ map_after (cells_of old.cells) body key)
      → TellsNotes old cluster items notes → TellsNotes new cluster items (notes ++ note ∷ [])
  new_outcome old new notes note id body is has at begun answered cells t =
      let told = outcome_note note id is in
      let a : Answered = record { id = id; reply = told.0 } in
      let same : outcomes_of notes ++ a ∷ [] ≡ outcomes_of (notes ++ note ∷ []) = sym (outcomes_push notes note ∙ ap (λ l. outcomes_of notes ++ l) told.1) in
      let moved = subst (tells_by new) same
      (new_tells old new (outcomes_of notes) a body has (ap (body_at cluster) (sym (t.begun id)) ∙ at) answered cells (t.answered, t.bodies, t.cells)) in
      record { begun = λ x. begun x ∙ t.begun x; answered = moved.0; bodies = moved.1; cells = moved.2 }

-- ---- an item more

number_kept : (earlier : List Item) (item : Item) (x : TxnId) (n : ℕ) → txn_of earlier x ≡ Some n → txn_of (item ∷ earlier) x ≡ Some n
number_kept earlier item x n is = ap (λ o. or_else o (txn_in x item)) is

body_kept : (cluster : Cluster) (earlier : List Item) (item : Item) (x : TxnId) (body : BodyParts) → body_of cluster earlier x ≡ Some body → body_of cluster (item ∷ earlier) x ≡ Some body
body_kept cluster earlier item x body is = by (txn_of earlier x) refl is
  where
    by : (o : Option ℕ) → txn_of earlier x ≡ o → body_at cluster o ≡ Some body → body_of cluster (item ∷ earlier) x ≡ Some body
    by None none h = absurd cc
    by (Some n) has h = ap (body_at cluster) (number_kept earlier item x n has) ∙ h

pub bodies_kept : (cluster : Cluster) (earlier : List Item) (item : Item) (answers : List Answered) → HaveBodies cluster earlier answers → HaveBodies cluster (item ∷ earlier) answers
bodies_kept cluster earlier item [] all = tt
bodies_kept cluster earlier item (a ∷ answers) all = ((all.0.0, body_kept cluster earlier item a.id all.0.0 all.0.1), bodies_kept cluster earlier item answers all.1)

pub cells_kept : (cluster : Cluster) (earlier : List Item) (item : Item) (cells : Key → Option Value) (answers : List Answered) → HaveBodies cluster earlier answers
    → cells_after cluster (item ∷ earlier) cells answers ≡ cells_after cluster earlier cells answers
cells_kept cluster earlier item cells [] all = refl
cells_kept cluster earlier item cells (a ∷ answers) all =
    ap (λ o. cells_after cluster (item ∷ earlier) (cells_then cells o) answers) (body_kept cluster earlier item a.id all.0.0 all.0.1 ∙ sym all.0.1)
    ∙ cells_kept cluster earlier item (cells_then cells (body_of cluster earlier a.id)) answers all.1

-- what the item begins is entered, and its notes are not gone over yet
pub entered : (old new : Serial) (cluster : Cluster) (earlier : List Item) (item : Item) → ((x : TxnId) → number_at new.begun.entries x ≡ or_else (number_at old.begun.entries x) (txn_in x item))
    → ((x : TxnId) → has_id new.answered.keys x ≡ has_id old.answered.keys x) → ((key : Key) → cells_of new.cells key ≡ cells_of old.cells key)
    → Tells old cluster earlier → TellsNotes new cluster (item ∷ earlier) (notes_of earlier)
entered old new cluster earlier item begun answered cells t =
    record {
      begun = λ x. begun x ∙ ap (λ o. or_else o (txn_in x item)) (t.begun x);
      answered = λ x. answered x ∙ t.answered x;
      bodies = bodies_kept cluster earlier item (first_outcomes (notes_of earlier)) t.bodies;
      cells = λ key. cells key ∙ t.cells key ∙ ap (λ m. m key) (sym (cells_kept cluster earlier item (λ _. None) (first_outcomes (notes_of earlier)) t.bodies));
    }

-- a transaction more among those with an outcome
pub id_at : (x y : TxnId) → is_at (id_cmp x) y ≡ id_eq x y
id_at x y = grind (arith, nat_tests)

pub one_key : (here before : Bool) → cond here true before ≡ (before || here)
one_key true true = refl
one_key true false = refl
one_key false true = refl
one_key false false = refl

-- ---- items without an outcome

none_noted : (notes : List Note) → list_any (λ note. is_some (outcome_id note)) notes ≡ false → outcomes_of notes ≡ []
none_noted [] h = refl
none_noted (note ∷ notes) h = by (outcome_id note) refl h (none_noted notes)
  where
    by : (o : Option TxnId) → outcome_id note ≡ o → (is_some o || list_any (λ n. is_some (outcome_id n)) notes) ≡ false
        → (list_any (λ n. is_some (outcome_id n)) notes ≡ false → outcomes_of notes ≡ []) → outcomes_of (note ∷ notes) ≡ []
    by None none h rest = ap (λ l. l ++ outcomes_of notes) (quiet_note note none) ∙ rest h
    by (Some id) has h rest = absurd (true≢false h)

pub quiet_cells : (serial : Serial) (cluster : Cluster) (earlier : List Item) (item : Item) (key : Key) → Tells serial cluster earlier
    → list_any (λ note. is_some (outcome_id note)) (noted_in item) ≡ false
    → cells_by cluster (item ∷ earlier) (notes_of (item ∷ earlier)) key ≡ cells_by cluster earlier (notes_of earlier) key
quiet_cells serial cluster earlier item key t none =
    ap (λ os. cells_after cluster (item ∷ earlier) (λ _. None) (firsts_after [] os) key)
    (flat_map-append outcomes_in (notes_of earlier) (noted_in item) ∙ ap (λ l. outcomes_of (notes_of earlier) ++ l) (none_noted (noted_in item) none)
    ∙ append-nil (outcomes_of (notes_of earlier)))
    ∙ ap (λ m. m key) (cells_kept cluster earlier item (λ _. None) (first_outcomes (notes_of earlier)) t.bodies)

-- a result that is returned as it comes
pub returned : {X E P Q : Type 0} (result : Result X E) → OnOk result P → (P → Q) → OnOk result Q
returned (Ok x) p f = f p
returned (Err e) p f = tt

pub notes_more : (front notes : List Note) (i : ℕ) (d : Note) → i < length notes → d ≡ get_or notes i d → (front ++ take i notes) ++ d ∷ [] ≡ front ++ take (i + 1) notes
notes_more front notes i d within is =
    append_assoc front (take i notes) (d ∷ []) ∙ ap (λ x. front ++ (take i notes ++ x ∷ [])) is ∙ ap (λ l. front ++ l) (sym (take_more notes i d within))
