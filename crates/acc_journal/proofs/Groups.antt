-- Records that are put together one by one.
use Rattle.std.proofs.Common.{◌≡◌, ℕ, ◌+◌, ◌-◌, ◌^◌, ◌<◌, List, [], ◌∷◌, ◌++◌, length, get_or, take, drop, refl, sym, ◌∙◌, ap, append_assoc, subst, arith, lit<, length-drop}
use Rattle.std.specs.Prelude.{sum_by}
use Rattle.std.proofs.lemmas.List.Sums.{sum_by-cons}
use Rattle.std.proofs.lemmas.List.{take_more, take_all, drop_more, append-nil}
use Rattle.acc_wire.specs.Spelling.{u32_bytes}
use Rattle.acc_journal.specs.Layout.{sized, records, AreShort}
use Rattle.acc_journal.specs.Journal.{IsGroup}
use Rattle.acc_journal.proofs.Layouts.{records-append}

-- the gate, the length and the payload
pub record_items : (old size payload with_gate with_size new : List ℕ) → with_gate ≡ old ++ 1 ∷ [] → with_size ≡ with_gate ++ size → new ≡ with_size ++ payload → size ≡ u32_bytes (length payload) → new ≡ old ++ 1 ∷ sized payload
record_items old size payload with_gate with_size new gate sized_is new_is size_is =
    new_is ∙ ap (λ (l : List ℕ). l ++ payload) (sized_is ∙ ap (λ (l : List ℕ). l ++ size) gate ∙ append_assoc old (1 ∷ []) size) ∙ append_assoc old (1 ∷ size) payload
    ∙ ap (λ (l : List ℕ). old ++ ((1 ∷ l) ++ payload)) size_is

-- one record more
pub records_more : (i : ℕ) (payloads : List (List ℕ)) (payload : List ℕ) → i < length payloads → payload ≡ get_or payloads i payload → records (take (i + 1) payloads) ≡ records (take i payloads) ++ 1 ∷ sized payload
records_more i payloads payload inside is =
    ap records (take_more payloads i payload inside) ∙ records-append (take i payloads) (get_or payloads i payload ∷ [])
    ∙ ap (λ (p : List ℕ). records (take i payloads) ++ 1 ∷ (sized p ++ [])) (sym is) ∙ ap (λ (l : List ℕ). records (take i payloads) ++ 1 ∷ l) (append-nil (sized payload))

-- the lengths that are left
pub lengths_left : (i : ℕ) (payloads : List (List ℕ)) (payload : List ℕ) → i < length payloads → payload ≡ get_or payloads i payload → sum_by length (drop i payloads) ≡ length payload + sum_by length (drop (i + 1) payloads)
lengths_left i payloads payload inside is =
    ap (λ (ps : List (List ℕ)). sum_by length ps) (drop_more payloads i payload inside) ∙ sum_by-cons length (get_or payloads i payload) (drop (i + 1) payloads) ∙ ap (λ (p : List ℕ). length p + sum_by length (drop (i + 1) payloads)) (sym is)

-- all of a buffer after its first byte
behind_first : (buffer : List ℕ) → take (length buffer - 1) (drop 1 buffer) ≡ drop 1 buffer
behind_first buffer = take_all (length buffer - 1) (drop 1 buffer) (omega (arith, length-drop 1 buffer))

-- The records of some payloads in a buffer are their group.
pub some_are_group : (payloads : List (List ℕ)) (buffer : List ℕ) → 0 < length payloads → AreShort payloads → buffer ≡ records payloads ++ 0 ∷ [] → IsGroup payloads (take (length buffer - 1) (drop 1 buffer))
some_are_group [] buffer some short is = absurd (omega arith)
some_are_group (payload ∷ payloads) buffer some short is = record {
  short = short;
  spelled = ap (λ (l : List ℕ). 1 ∷ l) (behind_first buffer) ∙ ap (λ (l : List ℕ). 1 ∷ drop 1 l) is;
}

-- One record in a buffer is a group of one.
pub one_is_group : (payload buffer : List ℕ) → length payload < 2 ^ 32 → buffer ≡ records (payload ∷ []) ++ 0 ∷ [] → IsGroup (payload ∷ []) (take (length buffer - 1) (drop 1 buffer))
one_is_group payload buffer short is = some_are_group (payload ∷ []) buffer (omega arith) (short, tt) is

-- A payload without bytes is the empty one.
pub nothing : (payload : List ℕ) → length payload ≡ 0 → payload ≡ []
nothing [] none = refl
nothing (byte ∷ payload) none = absurd (omega arith)

-- An empty payload has five bytes after its gate.
pub empty_is_group : IsGroup ([] ∷ []) (0 ∷ 0 ∷ 0 ∷ 0 ∷ 0 ∷ [])
unfolding u32_bytes
empty_is_group = record { short = (lit< tt, tt); spelled = refl }

-- The group of a payload without bytes.
pub nothing_is_group : (payload : List ℕ) → length payload ≡ 0 → IsGroup (payload ∷ []) (0 ∷ 0 ∷ 0 ∷ 0 ∷ 0 ∷ [])
nothing_is_group payload none = subst (λ (p : List ℕ). IsGroup (p ∷ []) (0 ∷ 0 ∷ 0 ∷ 0 ∷ 0 ∷ [])) (sym (nothing payload none)) empty_is_group
