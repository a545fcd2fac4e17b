-- In a report of a run the first outcomes are what the bodies answer in their turn, and no outcome and no reply differs from the first.
use Rattle.std.proofs.Common.{◌≡◌, ℕ, List, [], ◌∷◌, ◌++◌, map, reverse, cond, Bool, true, false, not, ◌||◌, Option, Some, None, is_some, unwrap_or, refl, sym, ap, ap₂, subst, ◌∙◌}
use Rattle.std.specs.List.{list_any, fold}
use Rattle.std.specs.Str.{bytes_eq}
use Rattle.std.proofs.lemmas.Bool.{false_from_ne_true, or_left, or_right, true≢false}
use Rattle.std.proofs.lemmas.List.{append_assoc, append-nil, reverse-append, reverse-reverse}
use Rattle.std.proofs.lemmas.Slice.Eq.{bytes_eq-Decides}
use Rattle.acc_base.specs.Faults.{or_else}
use Rattle.acc_stamp.specs.declared.stamps.TxnId.{TxnId}
use Rattle.acc_stamp.specs.Stamp.{id_eq}
use Rattle.acc_stamp.proofs.Order.{id_order}
use Rattle.acc_value.specs.declared.key.Key.{Key}
use Rattle.acc_value.specs.declared.value.Value.{Value}
use Rattle.acc_txn.specs.declared.parts.BodyParts.{BodyParts}
use Rattle.acc_txn.specs.declared.outcome.Reply.{Reply as ReplyValue}
use Rattle.acc_txn.specs.Meaning.{outcome_of}
use Rattle.acc_txn.specs.Serial.{map_after, replies_from}
use Rattle.acc_message.specs.declared.note.Note.{Note}
use Rattle.acc_message.specs.declared.note.Note.TheVariants.{Begin, Recover, Blocked, Ended, Decide, Outcome, Reply}
use Rattle.acc_message.specs.declared.item.Item.{Item}
use Rattle.acc_message.specs.Items.{id_of_note, notes_of}
use Rattle.acc_actor_laws.proofs.Standing.{not_none}
use Rattle.acc_safety.specs.Decisions.{Answered, body_of, firsts_after, first_outcomes, is_answered, outcomes_in, outcomes_of, replies_of}
use Rattle.acc_safety.specs.Places.{IsIn, First, Later}
use Rattle.acc_safety.proofs.PlaceOrder.{Contains-IsIn, flat_map-IsIn, IsIn-Contains, IsIn-flat_map, none_is_in, only, passing}
use Rattle.acc_schedule.specs.Content.{Content}
use Rattle.acc_schedule_runs.specs.Schedules.{cluster_of}
use Rattle.acc_report.specs.Report.{name_at, note_line}
use Rattle.acc_report_line.specs.declared.line.Line.{Line}
use Rattle.acc_audit.specs.Said.{outcome_in, same_reply}
use Rattle.acc_audit.specs.Fronts.{answer_of, body_of as body_named, cells_after, cells_of_all, first_reply, has_outcome, newly_in, with_outcomes}
use Rattle.acc_audit.specs.Rules.{answers_wrongly, differs_from}
use Rattle.acc_audit_laws.proofs.Called.{same_body}
use Rattle.acc_audit_laws.proofs.FirstNotes.{firsts_there, next_first, one_first}
use Rattle.acc_audit_laws.proofs.Fronts.{told_before}
use Rattle.acc_audit_laws.proofs.Given.{before_noted, Given, here_noted, Known, line_of, name, note_known, notes_in, one_name, Stands, whole_notes}
use Rattle.acc_audit_laws.proofs.OutcomesStand.{answer_there, outcome_told}
use Rattle.acc_audit_laws.proofs.Pieces.{IsSilent, Noted, Piece, Silent}
use Rattle.acc_audit_laws.proofs.SameReply.{same_reply-itself, same_reply-sound}
use Rattle.acc_audit_laws.proofs.SerialLines.{cells_in_turn, map-reverse}

-- ---- lines that tell an outcome

abbrev says : ReplyValue → Option ReplyValue → Bool
says reply None = false
says reply (Some other) = same_reply reply other

first_told : (n : List ℕ) (earlier : List Line) (reply : ReplyValue) → first_reply n earlier ≡ Some reply → list_any (λ line. says reply (outcome_in n line)) earlier ≡ true
first_told n [] reply is = absurd (not_none reply is)
first_told n (line ∷ earlier) reply is = by (first_told n earlier reply) (first_reply n earlier) refl is
  where
    by : (first_reply n earlier ≡ Some reply → list_any (λ l. says reply (outcome_in n l)) earlier ≡ true) → (o : Option ReplyValue) → first_reply n earlier ≡ o
        → or_else o (outcome_in n line) ≡ Some reply → (says reply (outcome_in n line) || list_any (λ l. says reply (outcome_in n l)) earlier) ≡ true
    by rest None none is =
        or_left (says reply (outcome_in n line)) (list_any (λ l. says reply (outcome_in n l)) earlier) (ap (says reply) is ∙ same_reply-itself reply)
    by rest (Some first) found is =
        or_right (says reply (outcome_in n line)) (list_any (λ l. says reply (outcome_in n l)) earlier) (rest (found ∙ is))

-- ---- bodies in turn

cons_parts : {X : Type 0} (x y : X) (xs ys : List X) → x ∷ xs ≡ y ∷ ys → (x ≡ y) × (xs ≡ ys)
cons_parts x y xs ys e = (cc, cc)

none_is_cons : {X : Type 0} (y : X) (ys : List X) → y ∷ ys ≡ [] → ⊥
none_is_cons y ys e = cc

module _ (plan : Content) (items : List Item) (given : Given plan items) where
  abbrev named : TxnId → List ℕ
  named = name plan items

  abbrev body : List ℕ → BodyParts
  body = body_named plan.names plan.bodies

  abbrev name_in : Answered → List ℕ
  name_in a = named a.id

  -- the reply of a first outcome is what its body answers on the cells that those before it left
  in_turn : (cells : Key → Option Value) (firsts more : List Answered) (a : Answered) (bodies : List BodyParts)
      → ((b : Answered) → IsIn b (firsts ++ a ∷ more) → Known plan items b.id)
      → map (λ (b : Answered). body_of (cluster_of plan) items b.id) (firsts ++ a ∷ more) ≡ map (λ b. Some b) bodies
      → map (λ (b : Answered). b.reply) (firsts ++ a ∷ more) ≡ replies_from cells bodies
      → (outcome_of (body (name_in a)) (fold map_after cells (map body (map name_in firsts)))).reply ≡ a.reply
  in_turn cells [] more a [] known are replies = absurd (none_is_cons (body_of (cluster_of plan) items a.id) (map (λ (b : Answered). body_of (cluster_of plan) items b.id) more) are)
  in_turn cells [] more a (b ∷ bodies) known are replies =
      let is = cons_parts (body_of (cluster_of plan) items a.id) (Some b) (map (λ (c : Answered). body_of (cluster_of plan) items c.id) more) (map (λ c. Some c) bodies) are in
      let answers = cons_parts a.reply (outcome_of b cells).reply (map (λ (c : Answered). c.reply) more) (replies_from (map_after cells b) bodies) replies in
      ap (λ c. (outcome_of c cells).reply) (same_body plan items given.is_plan given.valid given.stands a.id b (known a (First a more)) is.0) ∙ sym answers.0
  in_turn cells (f ∷ firsts) more a [] known are replies =
      absurd (none_is_cons (body_of (cluster_of plan) items f.id) (map (λ (b : Answered). body_of (cluster_of plan) items b.id) (firsts ++ a ∷ more)) are)
  in_turn cells (f ∷ firsts) more a (b ∷ bodies) known are replies =
      let is = cons_parts (body_of (cluster_of plan) items f.id) (Some b) (map (λ (c : Answered). body_of (cluster_of plan) items c.id) (firsts ++ a ∷ more)) (map (λ c. Some c) bodies) are in
      let answers = cons_parts f.reply (outcome_of b cells).reply (map (λ (c : Answered). c.reply) (firsts ++ a ∷ more)) (replies_from (map_after cells b) bodies) replies in
      ap (λ c. (outcome_of (body (name_in a)) (fold map_after (map_after cells c) (map body (map name_in firsts)))).reply)
      (same_body plan items given.is_plan given.valid given.stands f.id b (known f (First f (firsts ++ a ∷ more))) is.0)
      ∙ in_turn (map_after cells b) firsts more a bodies (λ c there. known c (Later c f (firsts ++ a ∷ more) there)) is.1 answers.1

  -- ---- the first outcomes of the lines are those of the notes

  -- the lines before, the newest first, tell the outcomes that were seen
  abbrev Tells : List Line → List Answered → Type 0
  Tells earlier seen = (x : TxnId) → Known plan items x → has_outcome (named x) earlier ≡ is_answered x seen

  same_test : (x y : TxnId) → Known plan items x → Known plan items y → bytes_eq (named x) (named y) ≡ id_eq y x
  same_test x y here there = by (id_eq y x) refl
    where
      by : (b : Bool) → id_eq y x ≡ b → bytes_eq (named x) (named y) ≡ b
      by true is = (bytes_eq-Decides (named x) (named y)).1 (ap named (sym ((id_order.decides y x).0 is)))
      by false is =
          false_from_ne_true (bytes_eq (named x) (named y)) (λ same.
          true≢false (sym ((id_order.decides y x).1 (sym (one_name plan items given x y here there ((bytes_eq-Decides (named x) (named y)).0 same)))) ∙ is))

  tells_more : (earlier : List Line) (seen : List Answered) (y : TxnId) (reply : ReplyValue) → Known plan items y → Tells earlier seen
      → Tells (note_line named (Outcome y reply) ∷ earlier) (record { id = y; reply = reply } ∷ seen)
  tells_more earlier seen y reply there tells x here =
      either (first_reply (named x) earlier) (bytes_eq (named x) (named y)) ∙ ap₂ ◌||◌ (same_test x y here there) (tells x here)
    where
      either : (o : Option ReplyValue) (b : Bool) → is_some (or_else o (cond b (Some reply) None)) ≡ (b || is_some o)
      either None true = refl
      either None false = refl
      either (Some r) true = refl
      either (Some r) false = refl

  tells_still : (earlier : List Line) (seen : List Answered) (line : Line) → ((n : List ℕ) → outcome_in n line ≡ None) → Tells earlier seen → Tells (line ∷ earlier) seen
  tells_still earlier seen line none tells x here = ap (λ o. is_some (or_else (first_reply (named x) earlier) o)) (none (named x)) ∙ nothing (first_reply (named x) earlier) ∙ tells x here
    where
      nothing : (o : Option ReplyValue) → is_some (or_else o None) ≡ is_some o
      nothing None = refl
      nothing (Some r) = refl

  abbrev AreKnown : List Note → Type 0
  AreKnown notes = (note : Note) → IsIn note notes → Known plan items (id_of_note note)

  -- what the lines of these pieces add to the first outcomes of earlier lines
  abbrev ToldBy : List Piece → Type 0
  ToldBy front =
      (earlier : List Line) (seen : List Answered) → Tells earlier seen → AreKnown (notes_in front)
      → with_outcomes (reverse (map (line_of plan items) front) ++ earlier) ≡ reverse (map name_in (firsts_after seen (outcomes_of (notes_in front)))) ++ with_outcomes earlier

  firsts_told : (earlier : List Line) (seen : List Answered) (front : List Piece) → Tells earlier seen → AreKnown (notes_in front)
      → with_outcomes (reverse (map (line_of plan items) front) ++ earlier) ≡ reverse (map name_in (firsts_after seen (outcomes_of (notes_in front)))) ++ with_outcomes earlier
  firsts_told earlier seen [] tells known = refl
  firsts_told earlier seen (piece ∷ front) tells known =
      turned ∙ by_piece piece (λ lines more. firsts_told lines more front) known
    where
      turned : with_outcomes (reverse (map (line_of plan items) (piece ∷ front)) ++ earlier) ≡ with_outcomes (reverse (map (line_of plan items) front) ++ line_of plan items piece ∷ earlier)
      turned =
          ap with_outcomes
          (ap (λ (ls : List Line). ls ++ earlier) (reverse-append (line_of plan items piece ∷ []) (map (line_of plan items) front))
          ∙ append_assoc (reverse (map (line_of plan items) front)) (line_of plan items piece ∷ []) earlier)

      no_more : (line : Line) → ((n : List ℕ) → outcome_in n line ≡ None) → newly_in earlier line ≡ [] → ToldBy front → AreKnown (notes_in front)
          → with_outcomes (reverse (map (line_of plan items) front) ++ line ∷ earlier) ≡ reverse (map name_in (firsts_after seen (outcomes_of (notes_in front)))) ++ with_outcomes earlier
      no_more line none new rest known =
          rest (line ∷ earlier) seen (tells_still earlier seen line none tells) known
          ∙ ap (λ (ns : List (List ℕ)). reverse (map name_in (firsts_after seen (outcomes_of (notes_in front)))) ++ (ns ++ with_outcomes earlier)) new

      by_test : (y : TxnId) (firsts : List Answered) (a : Answered) (b : Bool) → a.id ≡ y
          → reverse (map name_in firsts) ++ (cond b [] (named y ∷ []) ++ with_outcomes earlier) ≡ reverse (map name_in (cond b firsts (a ∷ firsts))) ++ with_outcomes earlier
      by_test y firsts a true same = refl
      by_test y firsts a false same =
          ap (λ (z : TxnId). reverse (map name_in firsts) ++ named z ∷ with_outcomes earlier) (sym same)
          ∙ sym (ap (λ (ns : List (List ℕ)). ns ++ with_outcomes earlier) (reverse-append (named a.id ∷ []) (map name_in firsts))
          ∙ append_assoc (reverse (map name_in firsts)) (named a.id ∷ []) (with_outcomes earlier))

      one_more : (y : TxnId) (reply : ReplyValue) → ToldBy front → AreKnown (Outcome y reply ∷ notes_in front)
          → with_outcomes (reverse (map (line_of plan items) front) ++ note_line named (Outcome y reply) ∷ earlier)
          ≡ reverse (map name_in (firsts_after seen (record { id = y; reply = reply } ∷ outcomes_of (notes_in front)))) ++ with_outcomes earlier
      one_more y reply rest known =
          let a : Answered = record { id = y; reply = reply } in
          let mine : Known plan items y = known (Outcome y reply) (First (Outcome y reply) (notes_in front)) in
          let firsts : List Answered = firsts_after (a ∷ seen) (outcomes_of (notes_in front)) in
          rest (note_line named (Outcome y reply) ∷ earlier) (a ∷ seen) (tells_more earlier seen y reply mine tells)
          (λ note there. known note (Later note (Outcome y reply) (notes_in front) there))
          ∙ ap (λ b. reverse (map name_in firsts) ++ (cond b [] (named y ∷ []) ++ with_outcomes earlier)) (tells y mine)
          ∙ by_test y firsts a (is_answered y seen) refl

      by_piece : (piece : Piece) → ToldBy front → AreKnown (notes_in (piece ∷ front))
          → with_outcomes (reverse (map (line_of plan items) front) ++ line_of plan items piece ∷ earlier)
          ≡ reverse (map name_in (firsts_after seen (outcomes_of (notes_in (piece ∷ front))))) ++ with_outcomes earlier
      by_piece (Silent line silent) rest known = no_more line silent.outcome (silent.newly earlier) rest known
      by_piece (Noted (Outcome y reply)) rest known = one_more y reply rest known
      by_piece (Noted (Begin id)) rest known =
          no_more (note_line named (Begin id)) (λ n. refl) refl rest (λ note there. known note (Later note (Begin id) (notes_in front) there))
      by_piece (Noted (Recover id ballot)) rest known =
          no_more (note_line named (Recover id ballot)) (λ n. refl) refl rest (λ note there. known note (Later note (Recover id ballot) (notes_in front) there))
      by_piece (Noted (Blocked id ballot by)) rest known =
          no_more (note_line named (Blocked id ballot by)) (λ n. refl) refl rest (λ note there. known note (Later note (Blocked id ballot by) (notes_in front) there))
      by_piece (Noted (Ended id ballot by)) rest known =
          no_more (note_line named (Ended id ballot by)) (λ n. refl) refl rest (λ note there. known note (Later note (Ended id ballot by) (notes_in front) there))
      by_piece (Noted (Decide id t path deps)) rest known =
          no_more (note_line named (Decide id t path deps)) (λ n. refl) refl rest (λ note there. known note (Later note (Decide id t path deps) (notes_in front) there))
      by_piece (Noted (Reply id reply)) rest known =
          no_more (note_line named (Reply id reply)) (λ n. refl) refl rest (λ note there. known note (Later note (Reply id reply) (notes_in front) there))

  module _ (front rest : List Piece) (own : Note) (at : Stands plan items front (Noted own) rest) where
    known_before : AreKnown (notes_in front)
    known_before note there = note_known plan items given note (before_noted plan items given front rest own note at there)

    outcomes_before : with_outcomes (reverse (map (line_of plan items) front)) ≡ reverse (map name_in (first_outcomes (notes_in front)))
    outcomes_before =
        ap with_outcomes (sym (append-nil (reverse (map (line_of plan items) front)))) ∙ firsts_told [] [] front (λ x here. refl) known_before
        ∙ append-nil (reverse (map name_in (first_outcomes (notes_in front))))

    cells_before : cells_after plan.names plan.bodies (reverse (map (line_of plan items) front)) ≡ fold map_after (λ _. None) (map body (map name_in (first_outcomes (notes_in front))))
    cells_before =
        ap (λ ns. cells_of_all (map body ns)) outcomes_before
        ∙ cells_in_turn (map body (reverse (map name_in (first_outcomes (notes_in front)))))
        ∙ ap (λ bs. fold map_after (λ _. None) bs)
        (ap reverse (map-reverse body (map name_in (first_outcomes (notes_in front)))) ∙ reverse-reverse (map body (map name_in (first_outcomes (notes_in front)))))

    -- a reply that some line before tells of a transaction is its first outcome
    first_there : (x : TxnId) (reply : ReplyValue) → Known plan items x → first_reply (named x) (reverse (map (line_of plan items) front)) ≡ Some reply
        → IsIn (record { id = x; reply = reply }) (first_outcomes (notes_of items))
    first_there x reply known is =
        let a : Answered = record { id = x; reply = reply } in
        let told = sym (told_before named (name_at plan.names) (λ line. says reply (outcome_in (named x) line)) (λ line (silent : IsSilent line). ap (says reply) (silent.outcome (named x))) front)
        ∙ first_told (named x) (reverse (map (line_of plan items) front)) reply is in
        let p = passing (λ note. says reply (outcome_in (named x) (note_line named note))) (notes_in front) told in
        let there : IsIn (Outcome x reply) (notes_in front) = subst (λ note. IsIn note (notes_in front)) (the_note p.element p.there p.passes) p.there in
        Contains-IsIn a (first_outcomes (notes_of items))
        (given.serial.outcomes_agree a
        (IsIn-Contains a (outcomes_of (notes_of items))
        (flat_map-IsIn outcomes_in a (Outcome x reply) (notes_of items) (before_noted plan items given front rest own (Outcome x reply) at there) (First a []))))
      where
        the_note : (note : Note) → IsIn note (notes_in front) → says reply (outcome_in (named x) (note_line named note)) ≡ true → note ≡ Outcome x reply
        the_note (Outcome y other) there passes = by (bytes_eq (named x) (named y)) refl passes
          where
            by : (b : Bool) → bytes_eq (named x) (named y) ≡ b → says reply (cond b (Some other) None) ≡ true → Outcome y other ≡ Outcome x reply
            by true same passes =
                ap₂ (λ (z : TxnId) (r : ReplyValue). Outcome z r)
                (sym (one_name plan items given x y known (known_before (Outcome y other) there) ((bytes_eq-Decides (named x) (named y)).0 same)))
                (sym (same_reply-sound reply other passes))
            by false same passes = absurd (true≢false (sym passes))
        the_note (Begin id) there passes = absurd (true≢false (sym passes))
        the_note (Recover id ballot) there passes = absurd (true≢false (sym passes))
        the_note (Blocked id ballot by) there passes = absurd (true≢false (sym passes))
        the_note (Ended id ballot by) there passes = absurd (true≢false (sym passes))
        the_note (Decide id t path deps) there passes = absurd (true≢false (sym passes))
        the_note (Reply id other) there passes = absurd (true≢false (sym passes))

    -- what is told later is the same
    as_before : (x : TxnId) (first reply : ReplyValue) → Known plan items x → first_reply (named x) (reverse (map (line_of plan items) front)) ≡ Some first
        → IsIn (record { id = x; reply = reply }) (first_outcomes (notes_of items)) → not (same_reply first reply) ≡ false
    as_before x first reply known is there =
        let same : first ≡ reply =
        one_first [] (outcomes_of (notes_of items)) (record { id = x; reply = first }) (record { id = x; reply = reply }) (first_there x first known is) there refl in
        ap not (ap (same_reply first) (sym same) ∙ same_reply-itself first)

  -- ---- outcomes and replies

  -- each first outcome is one of a transaction that is known
  noted_known : (b : Answered) (note : Note) → IsIn note (notes_of items) → IsIn b (outcomes_in note) → Known plan items b.id
  noted_known b (Outcome y reply) noted within =
      subst (Known plan items) (sym (ap (λ (c : Answered). c.id) (only b (record { id = y; reply = reply }) within))) (note_known plan items given (Outcome y reply) noted)
  noted_known b (Begin id) noted within = absurd (none_is_in b within)
  noted_known b (Recover id ballot) noted within = absurd (none_is_in b within)
  noted_known b (Blocked id ballot by) noted within = absurd (none_is_in b within)
  noted_known b (Ended id ballot by) noted within = absurd (none_is_in b within)
  noted_known b (Decide id t path deps) noted within = absurd (none_is_in b within)
  noted_known b (Reply id reply) noted within = absurd (none_is_in b within)

  first_known : (b : Answered) → IsIn b (first_outcomes (notes_of items)) → Known plan items b.id
  first_known b there =
      let f = IsIn-flat_map outcomes_in b (notes_of items) (firsts_there [] (outcomes_of (notes_of items)) b there) in
      noted_known b f.source f.there f.within

  -- a first outcome is what the body answers in its turn
  answered_right : (front rest : List Piece) (x : TxnId) (reply : ReplyValue) → Stands plan items front (Noted (Outcome x reply)) rest → is_answered x (outcomes_of (notes_in front)) ≡ false
      → answer_of plan.names plan.bodies (reverse (map (line_of plan items) front)) (named x) ≡ reply
  answered_right front rest x reply at new =
      let a : Answered = record { id = x; reply = reply } in
      let more : List Answered = firsts_after (a ∷ reverse (outcomes_of (notes_in front)) ++ []) (outcomes_of (notes_in rest)) in
      let all : first_outcomes (notes_of items) ≡ first_outcomes (notes_in front) ++ a ∷ more =
      ap first_outcomes (whole_notes plan items given front rest (Outcome x reply) at) ∙ next_first (notes_in front) (notes_in rest) x reply new in
      ap (λ cells. (outcome_of (body (named x)) cells).reply) (cells_before front rest (Outcome x reply) at)
      ∙ in_turn (λ _. None) (first_outcomes (notes_in front)) more a given.serial.bodies (λ b there. first_known b (subst (IsIn b) (sym all) there))
      (ap (map (λ (b : Answered). body_of (cluster_of plan) items b.id)) (sym all) ∙ given.serial.bodies_are)
      (ap (map (λ (b : Answered). b.reply)) (sym all) ∙ given.serial.serial_run)

  outcome_right : (front rest : List Piece) (x : TxnId) (reply : ReplyValue) → Stands plan items front (Noted (Outcome x reply)) rest
      → answers_wrongly plan.names plan.bodies (reverse (map (line_of plan items) front)) (note_line named (Outcome x reply)) ≡ false
  outcome_right front rest x reply at = by (first_reply (named x) (reverse (map (line_of plan items) front))) refl
    where
      here : IsIn (Outcome x reply) (notes_of items)
      here = here_noted plan items given front rest (Outcome x reply) at

      first_is : IsIn (record { id = x; reply = reply }) (first_outcomes (notes_of items))
      first_is =
          let a : Answered = record { id = x; reply = reply } in
          Contains-IsIn a (first_outcomes (notes_of items))
          (given.serial.outcomes_agree a (IsIn-Contains a (outcomes_of (notes_of items)) (flat_map-IsIn outcomes_in a (Outcome x reply) (notes_of items) here (First a []))))

      by : (o : Option ReplyValue) → first_reply (named x) (reverse (map (line_of plan items) front)) ≡ o
          → not (same_reply (unwrap_or (first_reply (named x) (reverse (map (line_of plan items) front))) (answer_of plan.names plan.bodies (reverse (map (line_of plan items) front)) (named x))) reply) ≡ false
      by (Some first) is =
          ap (λ o. not (same_reply (unwrap_or o (answer_of plan.names plan.bodies (reverse (map (line_of plan items) front)) (named x))) reply)) is
          ∙ as_before front rest (Outcome x reply) at x first reply (note_known plan items given (Outcome x reply) here) is first_is
      by None none =
          let new : is_answered x (outcomes_of (notes_in front)) ≡ false =
          false_from_ne_true (is_answered x (outcomes_of (notes_in front))) (λ old. true≢false (sym (outcome_told plan items given front x old) ∙ ap is_some none)) in
          ap (λ o. not (same_reply (unwrap_or o (answer_of plan.names plan.bodies (reverse (map (line_of plan items) front)) (named x))) reply)) none
          ∙ ap (λ r. not (same_reply r reply)) (answered_right front rest x reply at new)
          ∙ ap not (same_reply-itself reply)

  reply_right : (front rest : List Piece) (x : TxnId) (reply : ReplyValue) → Stands plan items front (Noted (Reply x reply)) rest
      → answers_wrongly plan.names plan.bodies (reverse (map (line_of plan items) front)) (note_line named (Reply x reply)) ≡ false
  reply_right front rest x reply at = by (first_reply (named x) (reverse (map (line_of plan items) front))) refl
    where
      here : IsIn (Reply x reply) (notes_of items)
      here = here_noted plan items given front rest (Reply x reply) at

      first_is : IsIn (record { id = x; reply = reply }) (first_outcomes (notes_of items))
      first_is =
          let a : Answered = record { id = x; reply = reply } in
          Contains-IsIn a (first_outcomes (notes_of items)) (given.serial.replies_agree a (IsIn-Contains a (replies_of (notes_of items)) (answer_there a (notes_of items) here)))

      by : (o : Option ReplyValue) → first_reply (named x) (reverse (map (line_of plan items) front)) ≡ o
          → differs_from (first_reply (named x) (reverse (map (line_of plan items) front))) reply ≡ false
      by None none = ap (λ o. differs_from o reply) none
      by (Some first) is =
          ap (λ o. differs_from o reply) is ∙ as_before front rest (Reply x reply) at x first reply (note_known plan items given (Reply x reply) here) is first_is

  pub answers_right : (front rest : List Piece) (note : Note) → Stands plan items front (Noted note) rest
      → answers_wrongly plan.names plan.bodies (reverse (map (line_of plan items) front)) (note_line (name plan items) note) ≡ false
  answers_right front rest (Outcome x reply) at = outcome_right front rest x reply at
  answers_right front rest (Reply x reply) at = reply_right front rest x reply at
  answers_right front rest (Begin id) at = refl
  answers_right front rest (Recover id ballot) at = refl
  answers_right front rest (Blocked id ballot by) at = refl
  answers_right front rest (Ended id ballot by) at = refl
  answers_right front rest (Decide id t path deps) at = refl
