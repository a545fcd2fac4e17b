-- What a crash by choice leaves of an append on a strict disk whose armed call failed.
use Rattle.std.proofs.Common.{◌≡◌, ◌≢◌, ◌⊎◌, inl, inr, ℕ, zero, suc, ◌+◌, ◌-◌, ◌<◌, ◌≤◌, Bool, true, false, List, [], ◌∷◌, ◌++◌, length, get_or, drop, refl, sym, ◌∙◌, ap, subst, arith, append_assoc, length-append, Option, Some, None}
use Rattle.std.specs.Prelude.{◌==◌, MatchBool}
use Rattle.std.proofs.lemmas.Bool.{cases_eq}
use Rattle.std.proofs.lemmas.Bool.Decides.{nat_tests}
use Rattle.std.proofs.lemmas.List.{get_or-append-add}
use Rattle.acc_ports.specs.Disk.{overwritten, Torn, CrashLeaves}
use Rattle.acc_ports.specs.State.{Ranges, DiskState}
use Rattle.acc_ports.specs.Strict.{is_within, IsFilled, LeftByChoice, after_call}
use Rattle.acc_journal.specs.Layout.{Reads}
use Rattle.acc_journal.specs.Calls.{after_calls}
use Rattle.acc_journal.specs.Journal.{HasGateAt, IsGroup, FailedHalfWay, left_by_choice}
use Rattle.acc_journal.proofs.Gates.{written_at, torn_at, torn_byte}
use Rattle.acc_journal.proofs.Layouts.{reads_closed}
use Rattle.acc_journal.proofs.Appending.{front, staged, is_staged, staged_reads, first_write, has_gate}

-- the three kinds of choice
data Chosen (choice : ℕ) (content synced : List ℕ) (written : Ranges) (left : List ℕ) : Type 0 where
  of_sync : choice ≡ 0 → left ≡ synced → Chosen choice content synced written left
  of_read : choice ≡ 1 → left ≡ content → Chosen choice content synced written left
  of_byte : choice ≢ 1 → IsFilled choice written content left → Chosen choice content synced written left

chosen : (choice : ℕ) (content synced : List ℕ) (written : Ranges) (left : List ℕ) → LeftByChoice choice content synced written left → Chosen choice content synced written left
chosen choice content synced written left by = elim (cases_eq choice 0) [
  | inl none ↦ let test : (choice == 0) ≡ true = grind (arith, nat_tests) in of_sync none (subst (λ (b : Bool). MatchBool b (left ≡ synced) (MatchBool (choice == 1) (left ≡ content) (IsFilled choice written content left))) test by)
  | inr some ↦
      let test : (choice == 0) ≡ false = grind (arith, nat_tests) in
      let rest = subst (λ (b : Bool). MatchBool b (left ≡ synced) (MatchBool (choice == 1) (left ≡ content) (IsFilled choice written content left))) test by in
      elim (cases_eq choice 1) [
        | inl one ↦ let is_one : (choice == 1) ≡ true = grind (arith, nat_tests) in of_read one (subst (λ (b : Bool). MatchBool b (left ≡ content) (IsFilled choice written content left)) is_one rest)
        | inr other ↦ let not_one : (choice == 1) ≡ false = grind (arith, nat_tests) in of_byte other (subst (λ (b : Bool). MatchBool b (left ≡ content) (IsFilled choice written content left)) not_one rest)
      ]
]

within_one : (at count k : ℕ) → (k < at) ⊎ (at + count ≤ k) → is_within ((at, count) ∷ []) k ≡ false
within_one at count k (inl below) = grind (arith, nat_tests)
within_one at count k (inr behind) = grind (arith, nat_tests)

-- Bytes filled in one range are torn there.
filled_torn : (byte at count : ℕ) (old new : List ℕ) → IsFilled byte ((at, count) ∷ []) old new → Torn at count old new
filled_torn byte at count old new filled = record {
  no_shorter = omega (arith, filled.same_length);
  no_longer = omega (arith, filled.same_length);
  kept = λ k lt out. filled.each k lt ∙ (let outside = within_one at count k out in rw outside refl);
}

-- One byte is filled.
filled_byte : (front : List ℕ) (at : ℕ) → length front ≡ at → (byte old : ℕ) (behind left : List ℕ) → IsFilled byte ((at, 1) ∷ []) (front ++ old ∷ behind) left → left ≡ front ++ byte ∷ behind
filled_byte front at long byte old behind left filled =
    let part = torn_byte front at long old behind left (filled_torn byte at 1 (front ++ old ∷ behind) left filled) in
    let inside : at < length (front ++ old ∷ behind) = omega (arith, length-append front (old ∷ behind)) in
    let within : is_within ((at, 1) ∷ []) at ≡ true = grind (arith, nat_tests) in
    let written : get_or left at 0 ≡ byte = filled.each at inside ∙ rw within refl in
    let there : get_or (front ++ part.0 ∷ behind) at 0 ≡ part.0 = ap (λ (n : ℕ). get_or (front ++ part.0 ∷ behind) n 0) (omega (arith, long)) ∙ get_or-append-add front (part.0 ∷ behind) 0 0 in
    let same : part.0 ≡ byte = sym there ∙ ap (λ (l : List ℕ). get_or l at 0) (sym part.1) ∙ written in
    part.1 ∙ ap (λ (b : ℕ). front ++ b ∷ behind) same

after_two : (calls : ℕ) → 2 ≤ calls → after_call (after_call (Some calls)) ≡ Some (calls - 2)
after_two calls le =
    let some : (calls == 0) ≡ false = grind (arith, nat_tests) in
    let more : (calls - 1 == 0) ≡ false = grind (arith, nat_tests) in
    rw some (rw more (ap Some (omega arith)))

-- After two calls so many still pass.
pub two_calls : (armed : Option ℕ) (passed : ℕ) → after_call (after_call armed) ≡ Some passed → armed ≡ Some (passed + 2)
two_calls None passed is = absurd (cc is)
two_calls (Some zero) passed is = absurd (cc is)
two_calls (Some (suc zero)) passed is = absurd (cc is)
two_calls (Some (suc (suc n))) passed is =
    let same : Some (suc (suc n) - 2) ≡ Some passed = sym (after_two (suc (suc n)) (omega arith)) ∙ is in
    let left : suc (suc n) - 2 ≡ passed = cc in
    ap Some (omega arith)

module _ (content : List ℕ) (before : List (List ℕ)) (place : ℕ) (has : HasGateAt content before place) (bytes : List ℕ) (group : List (List ℕ)) where
  abbrev head : List ℕ
  head = front content before place has bytes

  abbrev laid : List ℕ
  laid = staged content before place has bytes

  size : length head ≡ place
  size = omega (arith, has.at)

  closed_size : length (head ++ has.reads.gate ∷ []) ≡ place + 1
  closed_size = omega (arith, has.at, length-append head (has.reads.gate ∷ []))

  abbrev tail : List ℕ
  tail = bytes ++ drop (length bytes) has.reads.behind

  -- a crash that fills what was written after the gate
  filled_behind : (choice : ℕ) (left : List ℕ) → IsFilled choice ((place + 1, length bytes) ∷ []) laid left → Reads left before
  filled_behind choice left filled =
      let torn = filled_torn choice (place + 1) (length bytes) laid left filled in
      let part = torn_at (head ++ has.reads.gate ∷ []) (place + 1) closed_size tail left (length bytes) (subst (λ (l : List ℕ). Torn (place + 1) (length bytes) l left) (sym (append_assoc head (has.reads.gate ∷ []) tail)) torn) in
      reads_closed before has.reads.gate part.0 left has.reads.closed has.reads.short (part.1 ∙ append_assoc head (has.reads.gate ∷ []) part.0)

  -- a crash that fills the gate
  filled_gate : (choice byte : ℕ) (left : List ℕ) → choice ≢ 1 → IsFilled choice ((place, 1) ∷ []) (head ++ byte ∷ tail) left → Reads left before
  filled_gate choice byte left other filled = reads_closed before choice tail left other has.reads.short (filled_byte head place size choice byte tail left filled)

  reads_laid : (left : List ℕ) → left ≡ laid → Reads left before
  reads_laid left same = subst (λ (l : List ℕ). Reads l before) (sym same) (staged_reads content before place has bytes)

  -- nothing of the group is left, where another call than the last failed
  none_left : (armed : Option ℕ) (passed choice : ℕ) (left : List ℕ) → armed ≡ Some passed → (passed == 3) ≡ false → Reads left before → Reads left (left_by_choice armed choice before group)
  none_left armed passed choice left is early reads = subst (λ (a : Option ℕ). Reads left (left_by_choice a choice before group)) (sym is) (rw early reads)

  write_failed : (choice : ℕ) (left : List ℕ) → LeftByChoice choice content content ((place + 1, length bytes) ∷ []) left → Reads left before
  write_failed choice left by = elim (chosen choice content content ((place + 1, length bytes) ∷ []) left by) [
    | of_sync none same ↦ subst (λ (l : List ℕ). Reads l before) (sym same) has.reads
    | of_read one same ↦ subst (λ (l : List ℕ). Reads l before) (sym same) has.reads
    | of_byte other filled ↦ first_write content before place has bytes left (inr (filled_torn choice (place + 1) (length bytes) content left filled))
  ]

  sync_failed : (choice : ℕ) (left : List ℕ) → LeftByChoice choice laid content ((place + 1, length bytes) ∷ []) left → Reads left before
  sync_failed choice left by = elim (chosen choice laid content ((place + 1, length bytes) ∷ []) left by) [
    | of_sync none same ↦ subst (λ (l : List ℕ). Reads l before) (sym same) has.reads
    | of_read one same ↦ reads_laid left same
    | of_byte other filled ↦ filled_behind choice left filled
  ]

  gate_failed : (choice : ℕ) (left : List ℕ) → LeftByChoice choice laid laid ((place, 1) ∷ []) left → Reads left before
  gate_failed choice left by = elim (chosen choice laid laid ((place, 1) ∷ []) left by) [
    | of_sync none same ↦ reads_laid left same
    | of_read one same ↦ reads_laid left same
    | of_byte other filled ↦ filled_gate choice has.reads.gate left other filled
  ]

  -- The write after the gate failed, or the sync after it.
  pub first_failed : (old new : DiskState) → old.content ≡ content → FailedHalfWay (place + 1) bytes old new → (choice : ℕ) (left : List ℕ) → CrashLeaves choice new left → Reads left (left_by_choice old.armed choice before group)
  first_failed old new is failed choice left by =
      let synced_by : LeftByChoice choice new.content content ((place + 1, length bytes) ∷ []) left =
      subst (λ (s : List ℕ). LeftByChoice choice new.content s ((place + 1, length bytes) ∷ []) left) (failed.all_synced ∙ is) (subst (λ (w : Ranges). LeftByChoice choice new.content new.synced w left) failed.one_written by) in
      elim failed.which [
        | inl first ↦ none_left old.armed 0 choice left first.0 refl (write_failed choice left (subst (λ (n : List ℕ). LeftByChoice choice n content ((place + 1, length bytes) ∷ []) left) (first.1 ∙ is) synced_by))
        | inr second ↦
            none_left old.armed 1 choice left second.0 refl (sync_failed choice left (subst (λ (n : List ℕ). LeftByChoice choice n content ((place + 1, length bytes) ∷ []) left) (second.1 ∙ ap (λ (l : List ℕ). overwritten (place + 1) bytes l) is ∙ is_staged content before place has bytes) synced_by))
      ]

  module _ (is : IsGroup group bytes) where
    is_written : overwritten place (1 ∷ []) laid ≡ head ++ 1 ∷ tail
    is_written = written_at head place size (has.reads.gate ∷ tail) (1 ∷ [])

    last_failed : (choice : ℕ) (left : List ℕ) → LeftByChoice choice (overwritten place (1 ∷ []) laid) laid ((place, 1) ∷ []) left → Reads left (left_by_choice (Some 3) choice before group)
    last_failed choice left by = elim (chosen choice (overwritten place (1 ∷ []) laid) laid ((place, 1) ∷ []) left by) [
      | of_sync none same ↦ subst (λ (n : ℕ). Reads left (left_by_choice (Some 3) n before group)) (sym none) (reads_laid left same)
      | of_read one same ↦ subst (λ (n : ℕ). Reads left (left_by_choice (Some 3) n before group)) (sym one) ((has_gate content before place has bytes group is left same).reads)
      | of_byte other filled ↦
          let test : (choice == 1) ≡ false = grind (arith, nat_tests) in
          rw test (filled_gate choice 1 left other (subst (λ (n : List ℕ). IsFilled choice ((place, 1) ∷ []) n left) is_written filled))
    ]

    -- The write to the gate failed, or the sync after it.
    pub second_failed : (armed : Option ℕ) (mid new : DiskState) → mid.armed ≡ after_calls 2 armed → mid.content ≡ laid → FailedHalfWay place (1 ∷ []) mid new → (choice : ℕ) (left : List ℕ) → CrashLeaves choice new left → Reads left (left_by_choice armed choice before group)
    second_failed armed mid new counts is_laid failed choice left by =
        let synced_by : LeftByChoice choice new.content laid ((place, 1) ∷ []) left =
        subst (λ (s : List ℕ). LeftByChoice choice new.content s ((place, 1) ∷ []) left) (failed.all_synced ∙ is_laid) (subst (λ (w : Ranges). LeftByChoice choice new.content new.synced w left) failed.one_written by) in
        elim failed.which [
          | inl first ↦ none_left armed 2 choice left (two_calls armed 0 (sym counts ∙ first.0)) refl (gate_failed choice left (subst (λ (n : List ℕ). LeftByChoice choice n laid ((place, 1) ∷ []) left) (first.1 ∙ is_laid) synced_by))
          | inr second ↦
              subst (λ (a : Option ℕ). Reads left (left_by_choice a choice before group)) (sym (two_calls armed 1 (sym counts ∙ second.0)))
              (last_failed choice left (subst (λ (n : List ℕ). LeftByChoice choice n laid ((place, 1) ∷ []) left) (second.1 ∙ ap (λ (l : List ℕ). overwritten place (1 ∷ []) l) is_laid) synced_by))
        ]
