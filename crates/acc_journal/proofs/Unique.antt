-- Bytes are read in one way.
use Rattle.std.proofs.Common.{◌≡◌, ◌≢◌, inl, inr, ℕ, ◌^◌, ◌<◌, List, [], ◌∷◌, ◌++◌, length, take, drop, refl, sym, ◌∙◌, ap, append_assoc, arith, length-append}
use Rattle.std.specs.Int.{w32, from_be_bytes}
use Rattle.std.proofs.lemmas.List.{take_at, drop_at}
use Rattle.acc_wire.specs.Spelling.{u32_bytes}
use Rattle.acc_journal.specs.Layout.{sized, records, AreShort, Reads, IsForeign, IsCut, IsCutBehind, NoRecord}
use Rattle.acc_journal.specs.declared.error.JournalError.{JournalError}
use Rattle.acc_journal.specs.declared.error.JournalError.TheVariants as errors
use Rattle.acc_journal.specs.Journal.{IsRefused, IsOfTheDisk}
use Rattle.acc_journal.proofs.Layouts.{length-u32, from-u32, payloads_are, regrouped}

-- Two records in front of the same bytes are one.
record Same (payload other rest more : List ℕ) : Type 0 where
  payload_is : payload ≡ other
  rest_is : rest ≡ more

same_record : (payload other rest more : List ℕ) → length payload < 2 ^ 32 → length other < 2 ^ 32 → sized payload ++ rest ≡ sized other ++ more → Same payload other rest more
same_record payload other rest more short short' is =
    let regroup = λ (p r : List ℕ). append_assoc (u32_bytes (length p)) p r in
    let both : u32_bytes (length payload) ++ (payload ++ rest) ≡ u32_bytes (length other) ++ (other ++ more) = sym (regroup payload rest) ∙ is ∙ regroup other more in
    let size = length-u32 (length payload) in
    let size' = length-u32 (length other) in
    let sizes : u32_bytes (length payload) ≡ u32_bytes (length other) = sym (take_at (u32_bytes (length payload)) (payload ++ rest) 4 size) ∙ ap (λ (l : List ℕ). take 4 l) both ∙ take_at (u32_bytes (length other)) (other ++ more) 4 size' in
    let lengths : length payload ≡ length other = sym (from-u32 (length payload) short) ∙ ap (from_be_bytes w32) sizes ∙ from-u32 (length other) short' in
    let behind : payload ++ rest ≡ other ++ more = sym (drop_at (u32_bytes (length payload)) (payload ++ rest) 4 size) ∙ ap (λ (l : List ℕ). drop 4 l) both ∙ drop_at (u32_bytes (length other)) (other ++ more) 4 size' in
    record {
      payload_is = sym (take_at payload rest (length payload) refl) ∙ ap (λ (l : List ℕ). take (length payload) l) behind ∙ take_at other more (length payload) (sym lengths);
      rest_is = sym (drop_at payload rest (length payload) refl) ∙ ap (λ (l : List ℕ). drop (length payload) l) behind ∙ drop_at other more (length payload) (sym lengths);
    }

tail_is : (a b : ℕ) (xs ys : List ℕ) → a ∷ xs ≡ b ∷ ys → (a ≡ b) × (xs ≡ ys)
tail_is a b xs ys is = (cc, cc)

-- Where one reading finds a record cut, the other finds no closed gate.
cut_or_closed : (payloads others : List (List ℕ)) (rest : List ℕ) (gate : ℕ) (behind : List ℕ) → AreShort payloads → AreShort others → NoRecord rest → gate ≢ 1 → records payloads ++ 1 ∷ rest ≡ records others ++ gate ∷ behind → ⊥
cut_or_closed [] [] rest gate behind short short' cut closed is = closed (sym ((tail_is _ _ _ _ is).0))
cut_or_closed [] (other ∷ []) rest gate behind short short' cut closed is =
    cut other gate behind short'.0 ((tail_is _ _ _ _ is).1 ∙ regrouped other [] (gate ∷ behind) ∙ sym (append_assoc (u32_bytes (length other)) other (gate ∷ behind)))
cut_or_closed [] (other ∷ next ∷ others) rest gate behind short short' cut closed is =
    cut other 1 ((sized next ++ records others) ++ gate ∷ behind) short'.0 ((tail_is _ _ _ _ is).1 ∙ regrouped other (next ∷ others) (gate ∷ behind) ∙ sym (append_assoc (u32_bytes (length other)) other (1 ∷ ((sized next ++ records others) ++ gate ∷ behind))))
cut_or_closed (payload ∷ payloads) [] rest gate behind short short' cut closed is = closed (sym ((tail_is _ _ _ _ is).0))
cut_or_closed (payload ∷ payloads) (other ∷ others) rest gate behind short short' cut closed is =
    let same = same_record payload other (records payloads ++ 1 ∷ rest) (records others ++ gate ∷ behind) short.0 short'.0 (sym (append_assoc (sized payload) (records payloads) (1 ∷ rest)) ∙ (tail_is _ _ _ _ is).1 ∙ append_assoc (sized other) (records others) (gate ∷ behind)) in
    cut_or_closed payloads others rest gate behind short.1 short'.1 cut closed same.rest_is

-- A journal is of version 1.
pub not_foreign : (bytes : List ℕ) (payloads : List (List ℕ)) (version : ℕ) → Reads bytes payloads → IsForeign bytes version → ⊥
not_foreign bytes payloads version reads foreign = foreign.other (sym ((tail_is _ _ _ _ (sym reads.spelled ∙ foreign.spelled)).0))

-- A journal isn't cut.
pub not_cut : (bytes : List ℕ) (payloads : List (List ℕ)) (place : ℕ) → Reads bytes payloads → IsCut bytes place → ⊥
not_cut bytes payloads place reads (inl none) = absurd (cc (none.0, reads.spelled))
not_cut bytes payloads place reads (inr cut) = elim cut [
  | inl one ↦ absurd (omega (arith, ap length one.0, ap length reads.spelled, length-append (records payloads) (reads.gate ∷ reads.behind)))
  | inr behind ↦ cut_or_closed behind.payloads payloads behind.rest reads.gate reads.behind behind.short reads.short behind.cut reads.closed ((tail_is _ _ _ _ (sym behind.spelled ∙ reads.spelled)).1)
]

-- It has one list of payloads.
pub one_list : (bytes : List ℕ) (payloads others : List (List ℕ)) → Reads bytes payloads → Reads bytes others → payloads ≡ others
one_list bytes payloads others reads too = sym (payloads_are bytes payloads reads) ∙ payloads_are bytes others too

-- Bytes of another version are not cut.
pub foreign_or_cut : (bytes : List ℕ) (version place : ℕ) → IsForeign bytes version → IsCut bytes place → ⊥
foreign_or_cut bytes version place foreign (inl none) = absurd (cc (none.0, foreign.spelled))
foreign_or_cut bytes version place foreign (inr cut) = elim cut [
  | inl one ↦ foreign.other (sym ((tail_is _ _ _ _ (sym one.0 ∙ foreign.spelled)).0))
  | inr behind ↦ foreign.other (sym ((tail_is _ _ _ _ (sym behind.spelled ∙ foreign.spelled)).0))
]

-- Where two readings find a record cut, they find it at one place.
one_cut : (payloads others : List (List ℕ)) (rest more : List ℕ) → AreShort payloads → AreShort others → NoRecord rest → NoRecord more → records payloads ++ 1 ∷ rest ≡ records others ++ 1 ∷ more → length (records payloads) ≡ length (records others)
one_cut [] [] rest more short short' cut cut' is = refl
one_cut [] (other ∷ []) rest more short short' cut cut' is =
    absurd (cut other 1 more short'.0 ((tail_is _ _ _ _ is).1 ∙ regrouped other [] (1 ∷ more) ∙ sym (append_assoc (u32_bytes (length other)) other (1 ∷ more))))
one_cut [] (other ∷ next ∷ others) rest more short short' cut cut' is =
    absurd (cut other 1 ((sized next ++ records others) ++ 1 ∷ more) short'.0 ((tail_is _ _ _ _ is).1 ∙ regrouped other (next ∷ others) (1 ∷ more) ∙ sym (append_assoc (u32_bytes (length other)) other (1 ∷ ((sized next ++ records others) ++ 1 ∷ more)))))
one_cut (payload ∷ []) [] rest more short short' cut cut' is =
    absurd (cut' payload 1 rest short.0 (sym ((tail_is _ _ _ _ is).1) ∙ regrouped payload [] (1 ∷ rest) ∙ sym (append_assoc (u32_bytes (length payload)) payload (1 ∷ rest))))
one_cut (payload ∷ next ∷ payloads) [] rest more short short' cut cut' is =
    absurd (cut' payload 1 ((sized next ++ records payloads) ++ 1 ∷ rest) short.0 (sym ((tail_is _ _ _ _ is).1) ∙ regrouped payload (next ∷ payloads) (1 ∷ rest) ∙ sym (append_assoc (u32_bytes (length payload)) payload (1 ∷ ((sized next ++ records payloads) ++ 1 ∷ rest)))))
one_cut (payload ∷ payloads) (other ∷ others) rest more short short' cut cut' is =
    let same = same_record payload other (records payloads ++ 1 ∷ rest) (records others ++ 1 ∷ more) short.0 short'.0 (sym (append_assoc (sized payload) (records payloads) (1 ∷ rest)) ∙ (tail_is _ _ _ _ is).1 ∙ append_assoc (sized other) (records others) (1 ∷ more)) in
    let later = one_cut payloads others rest more short.1 short'.1 cut cut' same.rest_is in
    omega (arith, later, ap length same.payload_is, length-append (sized payload) (records payloads), length-append (sized other) (records others), length-append (u32_bytes (length payload)) payload, length-append (u32_bytes (length other)) other, length-u32 (length payload), length-u32 (length other))

-- Bytes are cut at one place.
pub one_place : (bytes : List ℕ) (place other : ℕ) → IsCut bytes place → IsCut bytes other → place ≡ other
one_place bytes place other (inl none) (inl none') = none.1 ∙ sym none'.1
one_place bytes place other (inl none) (inr cut) = elim cut [
  | inl one ↦ absurd (cc (none.0, one.0))
  | inr behind ↦ absurd (cc (none.0, behind.spelled))
]
one_place bytes place other (inr cut) (inl none) = elim cut [
  | inl one ↦ absurd (cc (none.0, one.0))
  | inr behind ↦ absurd (cc (none.0, behind.spelled))
]
one_place bytes place other (inr cut) (inr cut') = elim cut [
  | inl one ↦ elim cut' [ inl one' ↦ one.1 ∙ sym one'.1 | inr behind ↦ absurd (not_behind_one bytes other one.0 behind) ]
  | inr behind ↦ elim cut' [
    | inl one ↦ absurd (not_behind_one bytes place one.0 behind)
    | inr behind' ↦ omega (arith, behind.at, behind'.at, one_cut behind.payloads behind'.payloads behind.rest behind'.rest behind.short behind'.short behind.cut behind'.cut ((tail_is _ _ _ _ (sym behind.spelled ∙ behind'.spelled)).1))
  ]
]
  where
    not_behind_one : (l : List ℕ) (n : ℕ) → l ≡ 1 ∷ [] → IsCutBehind l n → ⊥
    not_behind_one l n one behind = omega (arith, ap length one, ap length behind.spelled, length-append (records behind.payloads) (1 ∷ behind.rest))

-- No journal is refused for its bytes.
pub never_refused : (bytes : List ℕ) (payloads : List (List ℕ)) (error : JournalError) → Reads bytes payloads → IsRefused bytes error → IsOfTheDisk error
never_refused bytes payloads errors.DiskFault reads refused = tt
never_refused bytes payloads (errors.BadVersion version) reads refused = not_foreign bytes payloads version reads refused
never_refused bytes payloads (errors.BadRecord place) reads refused = not_cut bytes payloads place reads refused
never_refused bytes payloads errors.OutOfMemory reads refused = tt

-- They are of one version.
pub one_version : (bytes : List ℕ) (version other : ℕ) → IsForeign bytes version → IsForeign bytes other → version ≡ other
one_version bytes version other foreign too = (tail_is _ _ _ _ (sym foreign.spelled ∙ too.spelled)).0
