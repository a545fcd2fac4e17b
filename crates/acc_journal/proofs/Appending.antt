-- The two writes of an append, and what a crash leaves of each.
use Rattle.std.proofs.Common.{◌≡◌, ◌⊎◌, inl, inr, ℕ, ◌+◌, List, [], ◌∷◌, ◌++◌, length, drop, refl, sym, ◌∙◌, ap, subst, arith, append_assoc, length-append}
use Rattle.acc_ports.specs.declared.disk.Disk.{Ghosts}
use Rattle.acc_ports.specs.Disk.{overwritten, Torn}
use Rattle.acc_ports.specs.Moments.{LeavesOnly}
use Rattle.acc_journal.specs.Layout.{records, Reads}
use Rattle.acc_journal.specs.Journal.{ReadsAsEither, HasGateAt, IsGroup}
use Rattle.acc_journal.proofs.Gates.{written_at, torn_at, torn_byte}
use Rattle.acc_journal.proofs.Layouts.{records-append, AreShort-append, reads_closed, reads_either, opened}
use Rattle.acc_journal.proofs.Moments.{joins, weaker}

module _ (content : List ℕ) (before : List (List ℕ)) (place : ℕ) (has : HasGateAt content before place) (bytes : List ℕ) where
  abbrev pub front : List ℕ
  front = 1 ∷ records before

  long : length front ≡ place
  long = omega (arith, has.at)

  -- with the closed gate
  closed_front : length (front ++ has.reads.gate ∷ []) ≡ place + 1
  closed_front = omega (arith, has.at, length-append front (has.reads.gate ∷ []))

  split : content ≡ (front ++ has.reads.gate ∷ []) ++ has.reads.behind
  split = has.reads.spelled ∙ sym (append_assoc front (has.reads.gate ∷ []) has.reads.behind)

  -- the bytes once the records stand after the closed gate
  abbrev pub staged : List ℕ
  staged = front ++ has.reads.gate ∷ (bytes ++ drop (length bytes) has.reads.behind)

  pub is_staged : overwritten (place + 1) bytes content ≡ staged
  is_staged =
      ap (λ (l : List ℕ). overwritten (place + 1) bytes l) split ∙ written_at (front ++ has.reads.gate ∷ []) (place + 1) closed_front has.reads.behind bytes
      ∙ append_assoc front (has.reads.gate ∷ []) (bytes ++ drop (length bytes) has.reads.behind)

  pub staged_reads : Reads staged before
  staged_reads = reads_closed before has.reads.gate (bytes ++ drop (length bytes) has.reads.behind) staged has.reads.closed has.reads.short refl

  -- a crash during the first write
  pub first_write : (image : List ℕ) → (image ≡ content) ⊎ Torn (place + 1) (length bytes) content image → Reads image before
  first_write image (inl same) = subst (λ (l : List ℕ). Reads l before) (sym same) has.reads
  first_write image (inr torn) =
      let part = torn_at (front ++ has.reads.gate ∷ []) (place + 1) closed_front has.reads.behind image (length bytes) (subst (λ (l : List ℕ). Torn (place + 1) (length bytes) l image) split torn) in
      reads_closed before has.reads.gate part.0 image has.reads.closed has.reads.short (part.1 ∙ append_assoc front (has.reads.gate ∷ []) part.0)

  module _ (group : List (List ℕ)) (is : IsGroup group bytes) where
    -- a crash during the second
    pub second_write : (image : List ℕ) → (image ≡ staged) ⊎ Torn place 1 staged image → ReadsAsEither before group image
    second_write image (inl same) = inl (subst (λ (l : List ℕ). Reads l before) (sym same) staged_reads)
    second_write image (inr torn) =
        let part = torn_byte front place long has.reads.gate (bytes ++ drop (length bytes) has.reads.behind) image torn in
        reads_either before group part.0 bytes (drop (length bytes) has.reads.behind) image has.reads.short is.short is.spelled part.1

    -- the bytes once the gate is open
    pub is_open : overwritten place (1 ∷ []) staged ≡ (1 ∷ records (before ++ group)) ++ 0 ∷ drop (length bytes) has.reads.behind
    is_open =
        written_at front place long (has.reads.gate ∷ (bytes ++ drop (length bytes) has.reads.behind)) (1 ∷ [])
        ∙ opened before group bytes (drop (length bytes) has.reads.behind) is.spelled

    pub has_gate : (after : List ℕ) → after ≡ overwritten place (1 ∷ []) staged → HasGateAt after (before ++ group) (place + length bytes)
    has_gate after written = record {
      reads = reads_closed (before ++ group) 0 (drop (length bytes) has.reads.behind) after (omega arith) (AreShort-append before group has.reads.short is.short) (written ∙ is_open);
      at = omega (arith, has.at, ap length (records-append before group), length-append (records before) (records group), ap length is.spelled, length-append (records group) (0 ∷ []));
    }

    module _ {D : Type 0} (port : Ghosts D) where
      pub after_first : (old new : D) → LeavesOnly port old new (λ image. (image ≡ content) ⊎ Torn (place + 1) (length bytes) content image) → LeavesOnly port old new (ReadsAsEither before group)
      after_first old new leaves = weaker port old new _ _ leaves (λ image torn. inl (first_write image torn))

      pub after_second : (old mid new : D) (middle : List ℕ) → middle ≡ staged → LeavesOnly port old mid (λ image. (image ≡ content) ⊎ Torn (place + 1) (length bytes) content image)
          → LeavesOnly port mid new (λ image. (image ≡ middle) ⊎ Torn place 1 middle image) → LeavesOnly port old new (ReadsAsEither before group)
      after_second old mid new middle same leaves more =
          joins port old mid new _ _ (after_first old mid leaves) more
          (λ image torn. second_write image (subst (λ (l : List ℕ). (image ≡ l) ⊎ Torn place 1 l image) same torn))
