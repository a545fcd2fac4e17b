-- What bytes of a journal read as.
use Rattle.std.proofs.Common.{◌≡◌, ◌≢◌, inl, inr, ℕ, zero, suc, ◌+◌, ◌^◌, ◌<◌, ◌≤◌, true, false, List, [], ◌∷◌, ◌++◌, length, take, drop, refl, sym, ◌∙◌, ap, arith, append_assoc, length-append}
use Rattle.std.specs.Prelude.{◌==◌, nat_lt}
use Rattle.std.specs.Int.{w32, from_be_bytes}
use Rattle.std.proofs.lemmas.List.{take_at, drop_at, drop-drop}
use Rattle.std.proofs.lemmas.Nat.{from_be_bytes-to_be_bytes_4}
use Rattle.std.proofs.lemmas.Bool.{cases_eq}
use Rattle.std.proofs.lemmas.Bool.Decides.{nat_tests}
use Rattle.acc_wire.specs.Spelling.{u32_bytes}
use Rattle.acc_journal.specs.Layout.{sized, records, AreShort, Reads, records_behind, payloads_of}
use Rattle.acc_journal.specs.Journal.{ReadsAsEither}

pub records-append : (before group : List (List ℕ)) → records (before ++ group) ≡ records before ++ records group
records-append [] group = refl
records-append (payload ∷ before) group = ap (λ (l : List ℕ). 1 ∷ sized payload ++ l) (records-append before group) ∙ ap (λ (l : List ℕ). 1 ∷ l) (sym (append_assoc (sized payload) (records before) (records group)))

pub AreShort-append : (before group : List (List ℕ)) → AreShort before → AreShort group → AreShort (before ++ group)
AreShort-append [] group a b = b
AreShort-append (payload ∷ before) group a b = (a.0, AreShort-append before group a.1 b)

-- a length has four bytes
pub length-u32 : (n : ℕ) → length (u32_bytes n) ≡ 4
unfolding u32_bytes
length-u32 n = refl

-- and they tell it
pub from-u32 : (n : ℕ) → n < 2 ^ 32 → from_be_bytes w32 (u32_bytes n) ≡ n
unfolding u32_bytes
from-u32 n fits = from_be_bytes-to_be_bytes_4 n fits

-- one record more is read
step : (most : ℕ) (rest payload later : List ℕ) → from_be_bytes w32 (take 4 rest) ≡ length payload → take (length payload) (drop 4 rest) ≡ payload → drop (4 + length payload) rest ≡ later → 4 + length payload < length rest → records_behind (suc most) (1 ∷ rest) ≡ payload ∷ records_behind most later
step most rest payload later counts first behind more =
    let room : nat_lt (4 + length payload) (length rest) ≡ true = grind (arith, nat_tests) in
    rw (counts, room) (ap (λ (l : List ℕ). l ∷ records_behind most (drop (4 + length payload) rest)) first ∙ ap (λ (l : List ℕ). payload ∷ records_behind most l) behind)

pub regrouped : (payload : List ℕ) (payloads : List (List ℕ)) (end : List ℕ) → (sized payload ++ records payloads) ++ end ≡ u32_bytes (length payload) ++ (payload ++ (records payloads ++ end))
regrouped payload payloads end =
    append_assoc (sized payload) (records payloads) end ∙ append_assoc (u32_bytes (length payload)) payload (records payloads ++ end)

read_again : (most : ℕ) (payloads : List (List ℕ)) (gate : ℕ) (behind : List ℕ) → gate ≢ 1 → AreShort payloads → length (records payloads ++ gate ∷ behind) ≤ most → records_behind most (records payloads ++ gate ∷ behind) ≡ payloads
read_again zero [] gate behind closed short long = absurd (omega arith)
read_again (suc most) [] gate behind closed short long = let shut : (gate == 1) ≡ false = grind (arith, nat_tests) in rw shut refl
read_again zero (payload ∷ payloads) gate behind closed short long = absurd (omega arith)
read_again (suc most) (payload ∷ payloads) gate behind closed short long =
    let end = gate ∷ behind in
    let later = records payloads ++ end in
    let rest = (sized payload ++ records payloads) ++ end in
    let is : rest ≡ u32_bytes (length payload) ++ (payload ++ later) = regrouped payload payloads end in
    let size = length-u32 (length payload) in
    let counts : from_be_bytes w32 (take 4 rest) ≡ length payload = ap (λ (l : List ℕ). from_be_bytes w32 (take 4 l)) is ∙ ap (from_be_bytes w32) (take_at (u32_bytes (length payload)) (payload ++ later) 4 size) ∙ from-u32 (length payload) short.0 in
    let dropped : drop 4 rest ≡ payload ++ later = ap (λ (l : List ℕ). drop 4 l) is ∙ drop_at (u32_bytes (length payload)) (payload ++ later) 4 size in
    let first : take (length payload) (drop 4 rest) ≡ payload = ap (λ (l : List ℕ). take (length payload) l) dropped ∙ take_at payload later (length payload) refl in
    let behind_it : drop (4 + length payload) rest ≡ later = sym (drop-drop (length payload) 4 rest) ∙ ap (λ (l : List ℕ). drop (length payload) l) dropped ∙ drop_at payload later (length payload) refl in
    let long_later : 0 < length later = omega (arith, length-append (records payloads) end) in
    let rest_long : length rest ≡ 4 + (length payload + length later) = omega (arith, ap length is, length-append (u32_bytes (length payload)) (payload ++ later), length-append payload later, size) in
    step most rest payload later counts first behind_it (omega arith)
    ∙ ap (λ (l : List (List ℕ)). payload ∷ l) (read_again most payloads gate behind closed short.1 (omega arith))

-- Bytes that read as payloads have these.
pub payloads_are : (bytes : List ℕ) (payloads : List (List ℕ)) → Reads bytes payloads → payloads_of bytes ≡ payloads
payloads_are bytes payloads reads =
    ap payloads_of reads.spelled ∙ read_again (length (1 ∷ (records payloads ++ reads.gate ∷ reads.behind))) payloads reads.gate reads.behind reads.closed reads.short (omega arith)

-- A closed gate after some records is read so, whatever follows it.
pub reads_closed : (payloads : List (List ℕ)) (gate : ℕ) (behind image : List ℕ) → gate ≢ 1 → AreShort payloads → image ≡ (1 ∷ records payloads) ++ gate ∷ behind → Reads image payloads
reads_closed payloads gate behind image closed short is = record { gate = gate; behind = behind; closed = closed; short = short; spelled = is }

-- the bytes once the gate in front of a group is open
pub opened : (before group : List (List ℕ)) (bytes rest : List ℕ) → 1 ∷ bytes ≡ records group ++ 0 ∷ [] → (1 ∷ records before) ++ 1 ∷ (bytes ++ rest) ≡ (1 ∷ records (before ++ group)) ++ 0 ∷ rest
opened before group bytes rest is =
    ap (λ (l : List ℕ). 1 ∷ (records before ++ l)) (ap (λ (l : List ℕ). l ++ rest) is ∙ append_assoc (records group) (0 ∷ []) rest)
    ∙ ap (λ (l : List ℕ). 1 ∷ l) (sym (append_assoc (records before) (records group) (0 ∷ rest)) ∙ ap (λ (l : List ℕ). l ++ 0 ∷ rest) (sym (records-append before group)))

-- Whatever byte a crash leaves at the gate in front of a group, the bytes read as before, or with the whole group.
pub reads_either : (before group : List (List ℕ)) (byte : ℕ) (bytes rest image : List ℕ) → AreShort before → AreShort group → 1 ∷ bytes ≡ records group ++ 0 ∷ [] → image ≡ (1 ∷ records before) ++ byte ∷ (bytes ++ rest) → ReadsAsEither before group image
reads_either before group byte bytes rest image short short' is image_is = elim (cases_eq byte 1) [
  | inl one ↦ inr (reads_closed (before ++ group) 0 rest image (omega arith) (AreShort-append before group short short') (image_is ∙ ap (λ (b : ℕ). (1 ∷ records before) ++ b ∷ (bytes ++ rest)) one ∙ opened before group bytes rest is))
  | inr other ↦ inl (reads_closed before byte (bytes ++ rest) image other short image_is)
]
