-- A journal to which one payload more is put.
use Rattle.std.proofs.Common.{◌≡◌, ℕ, ◌+◌, ◌<◌, Bool, true, false, ◌&&◌, List, [], ◌∷◌, ◌++◌, Option, Some, length, drop, get_or, refl, sym, ◌∙◌, ap, append_assoc, arith}
use Rattle.std.specs.Prelude.{nat_lt, if◌then◌else◌}
use Rattle.std.proofs.lemmas.List.{append-nil, drop_more}
use Rattle.std.proofs.lemmas.Bool.{lt-ltb}
use Rattle.acc_journal.specs.Layout.{records, sized}
use Rattle.acc_journal.proofs.Layouts.{records-append}
use Rattle.acc_base.specs.Faults.{or_else}
use Rattle.acc_stamp.specs.declared.stamps.Stamp.{Stamp}
use Rattle.acc_message.specs.declared.message.Message.{Message}
use Rattle.acc_message.specs.declared.note.Note.{Note}
use Rattle.acc_message_code.specs.MessageSpelling.{message_bytes}
use Rattle.acc_payloads.specs.declared.draw.Purpose.{Purpose}
use Rattle.acc_payloads.specs.Items.{draw_payload, drawn_by, drawn_in, message_payload}
use Rattle.acc_payloads.specs.Journals.{appended, may_mark}
use Rattle.acc_payloads.specs.Spelling.{draw_bytes, mark_bytes}
use Rattle.acc_left.specs.Kept.{front_of}

-- the record of a mark, if one is put
abbrev pub mark_record : Bool → List ℕ
mark_record b = if b then records (mark_bytes ∷ []) else []

abbrev with_mark : Bool → List ℕ → List (List ℕ)
with_mark b payload = if b then mark_bytes ∷ payload ∷ [] else payload ∷ []

one_record : (payload : List ℕ) → records (payload ∷ []) ≡ 1 ∷ sized payload
one_record payload = ap (λ (l : List ℕ). 1 ∷ l) (append-nil (sized payload))

first_put : (b : Bool) (payload : List ℕ) → mark_record b ++ 1 ∷ sized payload ≡ records (with_mark b payload)
first_put true payload = ap (λ (l : List ℕ). records (mark_bytes ∷ []) ++ l) (sym (one_record payload)) ∙ sym (records-append (mark_bytes ∷ []) (payload ∷ []))
first_put false payload = sym (one_record payload)

never : (b : Bool) → (b && false) ≡ false
never true = refl
never false = refl

-- a journal with a payload has more than its first byte
some_record : (b : Bool) (payload : List ℕ) (payloads : List (List ℕ)) → nat_lt 1 (length (1 ∷ records (with_mark b payload ++ payloads))) ≡ true
some_record true payload payloads = lt-ltb 1 _ (omega arith)
some_record false payload payloads = lt-ltb 1 _ (omega arith)

pub put_more : (version : ℕ) (payloads : List (List ℕ)) (payload : List ℕ) (journal between after : List ℕ) → journal ≡ front_of version payloads
    → between ≡ journal ++ mark_record (may_mark version (nat_lt 1 (length journal))) → after ≡ between ++ 1 ∷ sized payload
    → after ≡ front_of version (payloads ++ payload ∷ [])
put_more version [] payload journal between after is first second =
    second ∙ ap (λ (l : List ℕ). l ++ 1 ∷ sized payload) (first ∙ ap (λ (j : List ℕ). j ++ mark_record (may_mark version (nat_lt 1 (length j)))) is)
    ∙ ap (λ (l : List ℕ). 1 ∷ l) (first_put (may_mark version false) payload ∙ ap records (sym (append-nil (appended version false payload))))
put_more version (x ∷ xs) payload journal between after is first second =
    let full : nat_lt 1 (length (front_of version (x ∷ xs))) ≡ true = some_record (may_mark version false) x xs in
    let none : mark_record (may_mark version (nat_lt 1 (length (front_of version (x ∷ xs))))) ≡ [] =
    ap (λ b. mark_record (may_mark version b)) full ∙ ap mark_record (never _) in
    second
    ∙ ap (λ (l : List ℕ). l ++ 1 ∷ sized payload)
    (first ∙ ap (λ (j : List ℕ). j ++ mark_record (may_mark version (nat_lt 1 (length j)))) is ∙ ap (λ (l : List ℕ). front_of version (x ∷ xs) ++ l) none ∙ append-nil (front_of version (x ∷ xs)))
    ∙ ap (λ (l : List ℕ). 1 ∷ l)
    (ap (λ (l : List ℕ). records (appended version false x ++ xs) ++ l) (sym (one_record payload)) ∙ sym (records-append (appended version false x ++ xs) (payload ∷ []))
    ∙ ap records (append_assoc (appended version false x) xs (payload ∷ [])))

pub put_nothing : (version : ℕ) (payloads : List (List ℕ)) (journal after : List ℕ) → journal ≡ front_of version payloads → after ≡ journal
    → after ≡ front_of version (payloads ++ [])
put_nothing version payloads journal after is same = same ∙ is ∙ ap (front_of version) (sym (append-nil payloads))

-- ---- a draw and a message

pub draw_put : (version : ℕ) (payloads : List (List ℕ)) (journal between after : List ℕ) (has : Bool) (purpose : Purpose) (txn : ℕ) (stamp : Stamp) (found : Option Stamp)
    → journal ≡ front_of version payloads → has ≡ nat_lt 1 (length journal) → between ≡ journal ++ mark_record (may_mark version has)
    → after ≡ between ++ 1 ∷ sized (draw_bytes (record { purpose = purpose; txn = txn; h = stamp.h })) → found ≡ Some stamp
    → after ≡ front_of version (payloads ++ draw_payload purpose txn found)
draw_put version payloads journal between after has purpose txn stamp found is has_is first second there =
    put_more version payloads (draw_bytes (record { purpose = purpose; txn = txn; h = stamp.h })) journal between after is
    (first ∙ ap (λ b. journal ++ mark_record (may_mark version b)) has_is) second
    ∙ ap (λ o. front_of version (payloads ++ draw_payload purpose txn o)) (sym there)

pub message_put : (version : ℕ) (payloads : List (List ℕ)) (journal between after : List ℕ) (has : Bool) (m : Message) (found : Option Message) → journal ≡ front_of version payloads
    → has ≡ nat_lt 1 (length journal) → between ≡ journal ++ mark_record (may_mark version has) → after ≡ between ++ 1 ∷ sized (message_bytes m) → found ≡ Some m
    → after ≡ front_of version (payloads ++ message_payload found)
message_put version payloads journal between after has m found is has_is first second there =
    put_more version payloads (message_bytes m) journal between after is (first ∙ ap (λ b. journal ++ mark_record (may_mark version b)) has_is) second
    ∙ ap (λ o. front_of version (payloads ++ message_payload o)) (sym there)

-- the first note that tells a stamp
pub note_at : (notes : List Note) (i : ℕ) (note : Note) (stamp : Stamp) → i < length notes → note ≡ get_or notes i note → drawn_in note ≡ Some stamp
    → drawn_by (drop i notes) ≡ Some stamp
note_at notes i note stamp lt is drawn =
    ap drawn_by (drop_more notes i note lt ∙ ap (λ (n : Note). n ∷ drop (i + 1) notes) (sym is))
    ∙ ap (λ (o : Option Stamp). or_else o (drawn_by (drop (i + 1) notes))) drawn
