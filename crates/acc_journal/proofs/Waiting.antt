-- Records that wait to be appended.
use Rattle.std.proofs.Common.{◌≡◌, ℕ, zero, suc, ◌+◌, ◌-◌, ◌*◌, ◌^◌, ◌<◌, ◌≤◌, List, [], ◌∷◌, ◌++◌, length, get_or, take, drop, refl, sym, ◌∙◌, ap, append_assoc, subst, arith, length-append, length-drop}
use Rattle.std.proofs.lemmas.List.{take_at, take_all, drop_at, take_more, drop_more, take-append-drop, append-nil}
use Rattle.byteorder.specs.Endian.{big_number}
use Rattle.byteorder.specs.Numbers.{big_number-reads_back}
use Rattle.acc_wire.specs.Spelling.{u32_bytes}
use Rattle.acc_journal.specs.Layout.{sized, records, AreShort}
use Rattle.acc_journal.specs.Journal.{IsGroup}
use Rattle.acc_journal.specs.Records.{payloads_in, AreRecords}
use Rattle.acc_journal.proofs.Groups.{some_are_group}
use Rattle.acc_journal.proofs.Layouts.{records-append, AreShort-append, length-u32, payloads_are}

-- a record has five bytes at least
pub five_each : (payloads : List (List ℕ)) → 5 * length payloads ≤ length (records payloads)
five_each [] = omega arith
five_each (payload ∷ payloads) = omega (arith, five_each payloads, length-append (sized payload) (records payloads), length-append (u32_bytes (length payload)) payload, length-u32 (length payload))

-- records have their payloads
pub payloads_in_records : (bytes : List ℕ) (payloads : List (List ℕ)) → AreRecords bytes payloads → payloads_in bytes ≡ payloads
payloads_in_records bytes payloads are =
    payloads_are (1 ∷ bytes ++ 0 ∷ []) payloads (record { gate = 0; behind = []; closed = omega arith; short = are.short; spelled = ap (λ (l : List ℕ). 1 ∷ (l ++ 0 ∷ [])) are.spelled })

-- bytes that are the records of some payloads are those of their own
pub own_records : (bytes : List ℕ) (payloads : List (List ℕ)) → AreRecords bytes payloads → AreRecords bytes (payloads_in bytes)
own_records bytes payloads are = subst (AreRecords bytes) (sym (payloads_in_records bytes payloads are)) are

-- one more
pub one_more : (bytes payload new : List ℕ) → AreRecords bytes (payloads_in bytes) → length payload < 2 ^ 32 → new ≡ bytes ++ 1 ∷ sized payload → AreRecords new (payloads_in bytes ++ payload ∷ [])
one_more bytes payload new are short is = record {
  short = AreShort-append (payloads_in bytes) (payload ∷ []) are.short (short, tt);
  spelled =
      is ∙ ap (λ (l : List ℕ). l ++ 1 ∷ sized payload) are.spelled ∙ ap (λ (l : List ℕ). records (payloads_in bytes) ++ 1 ∷ l) (sym (append-nil (sized payload)))
      ∙ sym (records-append (payloads_in bytes) (payload ∷ []));
}

pub one_waits : (bytes payload new : List ℕ) → AreRecords bytes (payloads_in bytes) → length payload < 2 ^ 32 → new ≡ bytes ++ 1 ∷ sized payload → payloads_in new ≡ payloads_in bytes ++ payload ∷ []
one_waits bytes payload new are short is = payloads_in_records new (payloads_in bytes ++ payload ∷ []) (one_more bytes payload new are short is)

-- There are no more payloads than bytes.
pub as_many : (bytes payload new : List ℕ) → AreRecords bytes (payloads_in bytes) → length payload < 2 ^ 32 → new ≡ bytes ++ 1 ∷ sized payload → length (payloads_in bytes) + 1 ≤ length new
as_many bytes payload new are short is = omega (arith, five_each (payloads_in bytes ++ payload ∷ []), ap length (one_more bytes payload new are short is).spelled, length-append (payloads_in bytes) (payload ∷ []))

-- the first of them
AreShort-take : (n : ℕ) (payloads : List (List ℕ)) → AreShort payloads → AreShort (take n payloads)
AreShort-take zero payloads short = tt
AreShort-take (suc n) [] short = tt
AreShort-take (suc n) (payload ∷ payloads) short = (short.0, AreShort-take n payloads short.1)

split_records : (n : ℕ) (bytes : List ℕ) (payloads : List (List ℕ)) → AreRecords bytes payloads → bytes ≡ records (take n payloads) ++ records (drop n payloads)
split_records n bytes payloads are = are.spelled ∙ ap records (sym (take-append-drop n payloads)) ∙ records-append (take n payloads) (drop n payloads)

pub first_bytes : (n : ℕ) (bytes : List ℕ) (payloads : List (List ℕ)) → AreRecords bytes payloads → take (length (records (take n payloads))) bytes ≡ records (take n payloads)
first_bytes n bytes payloads are =
    ap (λ (l : List ℕ). take (length (records (take n payloads))) l) (split_records n bytes payloads are) ∙ take_at (records (take n payloads)) (records (drop n payloads)) _ refl

pub first_are : (n : ℕ) (bytes new : List ℕ) (payloads : List (List ℕ)) → AreRecords bytes payloads → new ≡ take (length (records (take n payloads))) bytes → AreRecords new (take n payloads)
first_are n bytes new payloads are is = record { short = AreShort-take n payloads are.short; spelled = is ∙ first_bytes n bytes payloads are }

-- the next record after the first
pub next_bytes : (i : ℕ) (bytes : List ℕ) (payloads : List (List ℕ)) → i < length payloads → AreRecords bytes payloads → drop (length (records (take i payloads)) + 1) bytes ≡ sized (get_or payloads i []) ++ records (drop (i + 1) payloads)
next_bytes i bytes payloads inside are =
    let front = records (take i payloads) in
    let rest = sized (get_or payloads i []) ++ records (drop (i + 1) payloads) in
    let whole : bytes ≡ (front ++ 1 ∷ []) ++ rest = split_records i bytes payloads are ∙ ap (λ (ps : List (List ℕ)). front ++ records ps) (drop_more payloads i [] inside) ∙ sym (append_assoc front (1 ∷ []) rest) in
    ap (λ (l : List ℕ). drop (length front + 1) l) whole ∙ drop_at (front ++ 1 ∷ []) rest (length front + 1) (length-append front (1 ∷ []))

pub next_place : (i : ℕ) (payloads : List (List ℕ)) → i < length payloads → length (records (take (i + 1) payloads)) ≡ length (records (take i payloads)) + 5 + length (get_or payloads i [])
next_place i payloads inside =
    let p = get_or payloads i [] in
    let more : records (take (i + 1) payloads) ≡ records (take i payloads) ++ (1 ∷ sized p ++ []) = ap records (take_more payloads i [] inside) ∙ records-append (take i payloads) (p ∷ []) in
    omega (arith, ap length more, length-append (records (take i payloads)) (1 ∷ sized p ++ []), length-append (sized p) [], length-append (u32_bytes (length p)) p, length-u32 (length p))

pub place_inside : (n : ℕ) (bytes : List ℕ) (payloads : List (List ℕ)) → AreRecords bytes payloads → length (records (take n payloads)) ≤ length bytes
place_inside n bytes payloads are = omega (arith, ap length (split_records n bytes payloads are), length-append (records (take n payloads)) (records (drop n payloads)))

-- each payload is short
pub short_at : (i : ℕ) (payloads : List (List ℕ)) → i < length payloads → AreShort payloads → length (get_or payloads i []) < 2 ^ 32
short_at i [] inside short = absurd (omega arith)
short_at zero (payload ∷ payloads) inside short = short.0
short_at (suc i) (payload ∷ payloads) inside short = short_at i payloads (omega arith) short.1

-- four bytes tell its length
pub tells : (payload rest : List ℕ) → length payload < 2 ^ 32 → big_number 4 (sized payload ++ rest) ≡ length payload
unfolding u32_bytes
tells payload rest short = ap (λ (l : List ℕ). big_number 4 l) (append_assoc (u32_bytes (length payload)) payload rest) ∙ big_number-reads_back 4 (length payload) (payload ++ rest) short

-- what is read after the gate at a place, and the room that the record takes
pub next_size : (i place : ℕ) (bytes : List ℕ) (payloads : List (List ℕ)) → i < length payloads → AreRecords bytes payloads → place ≡ length (records (take i payloads)) → big_number 4 (take (length bytes - (place + 1)) (drop (place + 1) bytes)) ≡ length (get_or payloads i [])
next_size i place bytes payloads inside are is =
    let all : take (length bytes - (place + 1)) (drop (place + 1) bytes) ≡ drop (place + 1) bytes = take_all (length bytes - (place + 1)) (drop (place + 1) bytes) (omega (arith, length-drop (place + 1) bytes)) in
    ap (λ (l : List ℕ). big_number 4 l) (all ∙ ap (λ (n : ℕ). drop (n + 1) bytes) is ∙ next_bytes i bytes payloads inside are)
    ∙ tells (get_or payloads i []) (records (drop (i + 1) payloads)) (short_at i payloads inside are.short)

pub next_room : (i place : ℕ) (bytes : List ℕ) (payloads : List (List ℕ)) → i < length payloads → AreRecords bytes payloads → place ≡ length (records (take i payloads)) → place + 5 + length (get_or payloads i []) ≤ length bytes
next_room i place bytes payloads inside are is = omega (arith, is, next_place i payloads inside, place_inside (i + 1) bytes payloads are)

-- With a closed gate after them they are the group that goes to the disk.
pub waiting_group : (bytes closed : List ℕ) (payloads : List (List ℕ)) → payloads_in bytes ≡ payloads → 0 < length payloads → AreRecords bytes (payloads_in bytes) → closed ≡ bytes ++ 0 ∷ [] → IsGroup payloads (take (length closed - 1) (drop 1 closed))
waiting_group bytes closed payloads same some are is =
    some_are_group payloads closed some (subst AreShort same are.short) (is ∙ ap (λ (l : List ℕ). l ++ 0 ∷ []) are.spelled ∙ ap (λ (ps : List (List ℕ)). records ps ++ 0 ∷ []) same)

-- and without it they are what they were
pub gate_off : (bytes closed new : List ℕ) (len : ℕ) → closed ≡ bytes ++ 0 ∷ [] → length bytes ≡ len → new ≡ take len closed → new ≡ bytes
gate_off bytes closed new len is long took = took ∙ ap (λ (l : List ℕ). take len l) is ∙ take_at bytes (0 ∷ []) len long
