-- Serial outcomes are decided by a test.
use Rattle.std.proofs.Common.{◌≡◌, Bool, true, false, not, ◌&&◌, ◌||◌, List, [], ◌∷◌, ◌++◌, Option, None, Some, map, Contains, IsTrue, refl, sym, ◌∙◌, ap, subst, append_assoc}
use Rattle.acc_value.specs.declared.value.Value.{Value}
use Rattle.acc_value.specs.declared.value.Value.TheVariants.{Number, Text}
use Rattle.std.specs.Str.{bytes_eq}
use Rattle.std.specs.Prelude.{is_some}
use Rattle.std.specs.Bool.{Decides}
use Rattle.std.specs.List.{list_any, list_all}
use Rattle.std.specs.Option.{option_eq}
use Rattle.std.specs.Ordering.{int_eq}
use Rattle.std.specs.Cmp.Lexicographic.{pointwise}
use Rattle.std.proofs.lemmas.Bool.{true≢false, and_parts, and_from}
use Rattle.std.proofs.lemmas.Bool.Decides.{Decides-int_eq, Decides-and, Decides-like}
use Rattle.std.proofs.lemmas.Slice.Eq.{slice_eq-Decides, bytes_eq-Decides}
use Rattle.std.specs.Set.{is_member}
use Rattle.std.proofs.lemmas.Map.Made.{is_member-Decides}
use Rattle.std.proofs.lemmas.List.{append-nil}
use Rattle.acc_stamp.specs.declared.stamps.TxnId.{TxnId}
use Rattle.acc_stamp.specs.Stamp.{id_eq}
use Rattle.acc_stamp.proofs.Order.{id_order}
use Rattle.acc_txn.specs.declared.parts.BodyParts.{BodyParts}
use Rattle.acc_txn.specs.declared.outcome.Verdict.{Verdict}
use Rattle.acc_txn.specs.declared.outcome.Verdict.TheVariants.{Ok, Skipped, Overflow}
use Rattle.acc_txn.specs.declared.outcome.Reply.{Reply}
use Rattle.acc_txn.specs.Serial.{serial}
use Rattle.acc_message.specs.declared.note.Note.{Note}
use Rattle.acc_message.specs.declared.note.Note.TheVariants.{Begin as BeginNote, Recover as RecoverNote, Blocked, Ended, Decide, Outcome as OutcomeNote, Reply as ReplyNote}
use Rattle.acc_message.specs.declared.item.Item.{Item}
use Rattle.acc_message.specs.Items.{notes_of, begins, replies}
use Rattle.acc_message.specs.Run.{Cluster}
use Rattle.acc_safety.specs.Decisions.{Answered, outcomes_of, replies_of, is_answered, first_outcomes, body_of}
use Rattle.acc_safety.specs.SerialOutcomes.{IsInPlace, SerialOutcomes}
use Rattle.acc_examples.specs.Refusals.{HoldsOfEach, HoldsOfNone}
use Rattle.acc_examples.specs.OutcomesInTurn.{cluster as small, serial_ones, not_serial_ones}
use Rattle.acc_examples.proofs.Tested.{all_sound, all_complete, each_by, none_by}

-- ---- equal replies

abbrev verdict_eq : Verdict → Verdict → Bool
verdict_eq Ok Ok = true
verdict_eq Skipped Skipped = true
verdict_eq Overflow Overflow = true
verdict_eq _ _ = false

verdict_eq-sound : (a b : Verdict) → verdict_eq a b ≡ true → a ≡ b
verdict_eq-sound Ok Ok h = refl
verdict_eq-sound Skipped Skipped h = refl
verdict_eq-sound Overflow Overflow h = refl
verdict_eq-sound Ok Skipped h = absurd (true≢false (sym h))
verdict_eq-sound Ok Overflow h = absurd (true≢false (sym h))
verdict_eq-sound Skipped Ok h = absurd (true≢false (sym h))
verdict_eq-sound Skipped Overflow h = absurd (true≢false (sym h))
verdict_eq-sound Overflow Ok h = absurd (true≢false (sym h))
verdict_eq-sound Overflow Skipped h = absurd (true≢false (sym h))

verdict_eq-same : (a : Verdict) → verdict_eq a a ≡ true
verdict_eq-same Ok = refl
verdict_eq-same Skipped = refl
verdict_eq-same Overflow = refl

verdict_eq-Decides : (a b : Verdict) → Decides (verdict_eq a b) (a ≡ b)
verdict_eq-Decides a b = (verdict_eq-sound a b, λ e. subst (λ c. verdict_eq a c ≡ true) e (verdict_eq-same a))

abbrev value_test : Value → Value → Bool
value_test (Number a) (Number b) = int_eq a b
value_test (Number a) (Text b) = false
value_test (Text a) (Number b) = false
value_test (Text a) (Text b) = bytes_eq a b

value_sound : (a b : Value) → value_test a b ≡ true → a ≡ b
value_sound (Number a) (Number b) h = ap (λ n. Number n) ((Decides-int_eq a b).0 h)
value_sound (Number a) (Text b) h = absurd (true≢false (sym h))
value_sound (Text a) (Number b) h = absurd (true≢false (sym h))
value_sound (Text a) (Text b) h = ap (λ t. Text t) ((bytes_eq-Decides a b).0 h)

value_same : (a : Value) → value_test a a ≡ true
value_same (Number a) = (Decides-int_eq a a).1 refl
value_same (Text a) = (bytes_eq-Decides a a).1 refl

cell_sound : (a b : Option Value) → option_eq value_test a b ≡ true → a ≡ b
cell_sound None None h = refl
cell_sound None (Some y) h = absurd (true≢false (sym h))
cell_sound (Some x) None h = absurd (true≢false (sym h))
cell_sound (Some x) (Some y) h = ap (λ z. Some z) (value_sound x y h)

cell_same : (a : Option Value) → option_eq value_test a a ≡ true
cell_same None = refl
cell_same (Some x) = value_same x

cell_test-Decides : (a b : Option Value) → Decides (option_eq value_test a b) (a ≡ b)
cell_test-Decides a b = (cell_sound a b, λ e. subst (λ c. option_eq value_test a c ≡ true) e (cell_same a))

abbrev reply_eq : Reply → Reply → Bool
reply_eq a b = verdict_eq a.verdict b.verdict && pointwise (option_eq value_test) a.values b.values

reply_eq-Decides : (a b : Reply) → Decides (reply_eq a b) (a ≡ b)
reply_eq-Decides a b =
    Decides-like _ (λ h. λ i. record { verdict = h.0 i; values = h.1 i }) (λ e. (ap (λ (r : Reply). r.verdict) e, ap (λ (r : Reply). r.values) e))
    (Decides-and _ _ (verdict_eq-Decides a.verdict b.verdict)
    (slice_eq-Decides cell_test-Decides a.values b.values (pointwise (option_eq value_test) a.values b.values) refl))

abbrev replies_eq : List Reply → List Reply → Bool
replies_eq xs ys = pointwise reply_eq xs ys

replies_eq-Decides : (xs ys : List Reply) → Decides (replies_eq xs ys) (xs ≡ ys)
replies_eq-Decides xs ys = slice_eq-Decides reply_eq-Decides xs ys (replies_eq xs ys) refl

abbrev answered_eq : Answered → Answered → Bool
answered_eq a b = id_eq a.id b.id && reply_eq a.reply b.reply

answered_eq-Decides : (a b : Answered) → Decides (answered_eq a b) (a ≡ b)
answered_eq-Decides a b =
    Decides-like _ (λ h. λ i. record { id = h.0 i; reply = h.1 i }) (λ e. (ap (λ (r : Answered). r.id) e, ap (λ (r : Answered). r.reply) e))
    (Decides-and _ _ (id_order.decides a.id b.id) (reply_eq-Decides a.reply b.reply))

-- ---- bodies that are all known

abbrev known_ones : List (Option BodyParts) → List BodyParts
known_ones [] = []
known_ones (None ∷ os) = known_ones os
known_ones (Some b ∷ os) = b ∷ known_ones os

known_ones-are : (os : List (Option BodyParts)) → list_all is_some os ≡ true → os ≡ map (λ b. Some b) (known_ones os)
known_ones-are [] h = refl
known_ones-are (None ∷ os) h = absurd (true≢false (sym h))
known_ones-are (Some b ∷ os) h = ap (λ (rest : List (Option BodyParts)). Some b ∷ rest) (known_ones-are os h)

known_ones-of : (bodies : List BodyParts) → known_ones (map (λ b. Some b) bodies) ≡ bodies
known_ones-of [] = refl
known_ones-of (b ∷ bodies) = ap (λ (rest : List BodyParts). b ∷ rest) (known_ones-of bodies)

all_known : (bodies : List BodyParts) → list_all is_some (map (λ b. Some b) bodies) ≡ true
all_known [] = refl
all_known (b ∷ bodies) = all_known bodies

-- ---- first outcomes in place

abbrev note_in_place : List Note → Note → Bool
note_in_place before (OutcomeNote x reply) =
    is_answered x (outcomes_of before) || (list_any (begins x) before && not (list_any (replies x) before))
note_in_place before (BeginNote id) = true
note_in_place before (RecoverNote id ballot) = true
note_in_place before (Blocked id ballot by) = true
note_in_place before (Ended id ballot by) = true
note_in_place before (Decide id t path deps) = true
note_in_place before (ReplyNote id reply) = true

abbrev in_place_from : List Note → List Note → Bool
in_place_from before [] = true
in_place_from before (note ∷ notes) =
    let rest : Bool = in_place_from (before ++ note ∷ []) notes in
    note_in_place before note && rest

in_place-at : (first before : List Note) (note : Note) (after : List Note) → in_place_from first (before ++ note ∷ after) ≡ true
    → note_in_place (first ++ before) note ≡ true
in_place-at first [] note after h =
    subst (λ notes. note_in_place notes note ≡ true) (sym (append-nil first)) (and_parts (note_in_place first note) _ h).0
in_place-at first (n ∷ before) note after h =
    subst (λ notes. note_in_place notes note ≡ true) (append_assoc first (n ∷ []) before)
    (in_place-at (first ++ n ∷ []) before note after (and_parts (note_in_place first n) _ h).1)

in_place-sound : (notes : List Note) → in_place_from [] notes ≡ true → IsInPlace notes
in_place-sound notes h before after x reply split unanswered =
    let here : note_in_place before (OutcomeNote x reply) ≡ true =
    in_place-at [] before (OutcomeNote x reply) after (subst (λ list. in_place_from [] list ≡ true) split h) in
    by (is_answered x (outcomes_of before)) unanswered here
  where
    begun : Bool
    begun = list_any (begins x) before

    answered : Bool
    answered = list_any (replies x) before

    by : (b : Bool) → b ≡ false → (b || (begun && not answered)) ≡ true → IsTrue begun × (answered ≡ false)
    by true e k = absurd (true≢false e)
    by false e k = let parts = and_parts begun (not answered) k in (parts.0, not_true answered parts.1)
      where
        not_true : (b : Bool) → not b ≡ true → b ≡ false
        not_true true m = absurd (true≢false (sym m))
        not_true false m = refl

-- after other notes
abbrev InPlaceBehind : List Note → List Note → Type 0
InPlaceBehind first notes =
    (before after : List Note) (x : TxnId) (reply : Reply) → notes ≡ before ++ OutcomeNote x reply ∷ after
    → note_in_place (first ++ before) (OutcomeNote x reply) ≡ true

behind_next : (first : List Note) (note : Note) (notes : List Note) → InPlaceBehind first (note ∷ notes) → InPlaceBehind (first ++ note ∷ []) notes
behind_next first note notes h before after x reply split =
    subst (λ list. note_in_place list (OutcomeNote x reply) ≡ true) (sym (append_assoc first (note ∷ []) before))
    (h (note ∷ before) after x reply (ap (λ (list : List Note). note ∷ list) split))

in_place-complete : (first notes : List Note) → InPlaceBehind first notes → in_place_from first notes ≡ true
in_place-complete first [] h = refl
in_place-complete first (note ∷ notes) h =
    and_from (note_in_place first note) _ (here note notes h) (in_place-complete (first ++ note ∷ []) notes (behind_next first note notes h))
  where
    here : (note : Note) (notes : List Note) → InPlaceBehind first (note ∷ notes) → note_in_place first note ≡ true
    here (OutcomeNote x reply) notes k = subst (λ list. note_in_place list (OutcomeNote x reply) ≡ true) (append-nil first) (k [] notes x reply refl)
    here (BeginNote id) notes k = refl
    here (RecoverNote id ballot) notes k = refl
    here (Blocked id ballot by) notes k = refl
    here (Ended id ballot by) notes k = refl
    here (Decide id t path deps) notes k = refl
    here (ReplyNote id reply) notes k = refl

in_place-behind : (notes : List Note) → IsInPlace notes → InPlaceBehind [] notes
in_place-behind notes h before after x reply split =
    by (is_answered x (outcomes_of before)) (h before after x reply split)
  where
    begun : Bool
    begun = list_any (begins x) before

    answered : Bool
    answered = list_any (replies x) before

    by : (b : Bool) → (b ≡ false → IsTrue begun × (answered ≡ false)) → (b || (begun && not answered)) ≡ true
    by true k = refl
    by false k = let parts = k refl in and_from begun (not answered) parts.0 (ap not parts.1)

-- ---- the whole

abbrev of_ids : Cluster → List Item → List Answered → List (Option BodyParts)
of_ids cluster items firsts = map (λ (a : Answered). body_of cluster items a.id) firsts

abbrev replies_in : List Answered → List Reply
replies_in firsts = map (λ (a : Answered). a.reply) firsts

abbrev are_among : List Answered → List Answered → Bool
are_among firsts answers = list_all (is_member answered_eq firsts) answers

-- with the notes, the first outcomes and the bodies of these
abbrev serial_by : List Note → List Answered → List (Option BodyParts) → Bool
serial_by notes firsts bodies =
    list_all is_some bodies
    && (replies_eq (replies_in firsts) (serial (known_ones bodies))
    && (are_among firsts (outcomes_of notes) && (are_among firsts (replies_of notes) && in_place_from [] notes)))

abbrev pub serial_test : Cluster → List Item → Bool
serial_test cluster items =
    serial_by (notes_of items) (first_outcomes (notes_of items)) (of_ids cluster items (first_outcomes (notes_of items)))

among-sound : (firsts answers : List Answered) → are_among firsts answers ≡ true → (a : Answered) → Contains answers a → Contains firsts a
among-sound firsts answers h a there =
    (is_member-Decides answered_eq-Decides firsts a).0 (all_sound (is_member answered_eq firsts) answers a h there)

among-complete : (firsts answers : List Answered) → ((a : Answered) → Contains answers a → Contains firsts a) → are_among firsts answers ≡ true
among-complete firsts answers h =
    all_complete (is_member answered_eq firsts) answers (λ a there. (is_member-Decides answered_eq-Decides firsts a).1 (h a there))

pub serial-sound : (cluster : Cluster) (items : List Item) → serial_test cluster items ≡ true → SerialOutcomes cluster items
serial-sound cluster items h =
    let notes : List Note = notes_of items in
    let firsts : List Answered = first_outcomes notes in
    let bodies : List (Option BodyParts) = of_ids cluster items firsts in
    let known = and_parts (list_all is_some bodies) _ h in
    let run = and_parts (replies_eq (replies_in firsts) (serial (known_ones bodies))) _ known.1 in
    let outcomes = and_parts (are_among firsts (outcomes_of notes)) _ run.1 in
    let replied = and_parts (are_among firsts (replies_of notes)) (in_place_from [] notes) outcomes.1 in
    record {
      bodies = known_ones bodies;
      bodies_are = known_ones-are bodies known.0;
      serial_run = (replies_eq-Decides (replies_in firsts) (serial (known_ones bodies))).0 run.0;
      outcomes_agree = among-sound firsts (outcomes_of notes) outcomes.0;
      replies_agree = among-sound firsts (replies_of notes) replied.0;
      in_place = in_place-sound notes replied.1;
    }

serial-complete : (cluster : Cluster) (items : List Item) → SerialOutcomes cluster items → serial_test cluster items ≡ true
serial-complete cluster items s =
    let notes : List Note = notes_of items in
    let firsts : List Answered = first_outcomes notes in
    let bodies : List (Option BodyParts) = of_ids cluster items firsts in
    let these : known_ones bodies ≡ s.bodies = ap known_ones s.bodies_are ∙ known_ones-of s.bodies in
    and_from (list_all is_some bodies) _ (ap (list_all is_some) s.bodies_are ∙ all_known s.bodies)
    (and_from (replies_eq (replies_in firsts) (serial (known_ones bodies))) _
    ((replies_eq-Decides (replies_in firsts) (serial (known_ones bodies))).1 (s.serial_run ∙ ap serial (sym these)))
    (and_from (are_among firsts (outcomes_of notes)) _ (among-complete firsts (outcomes_of notes) s.outcomes_agree)
    (and_from (are_among firsts (replies_of notes)) (in_place_from [] notes) (among-complete firsts (replies_of notes) s.replies_agree)
    (in_place-complete [] notes (in_place-behind notes s.in_place)))))

-- ---- the examples

pub serial_ones-hold : HoldsOfEach (SerialOutcomes small) serial_ones
serial_ones-hold = each_by (serial_test small) (SerialOutcomes small) (serial-sound small) serial_ones refl

pub not_serial_ones-refused : HoldsOfNone (SerialOutcomes small) not_serial_ones
not_serial_ones-refused = none_by (serial_test small) (SerialOutcomes small) (serial-complete small) not_serial_ones refl
