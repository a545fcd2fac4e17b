-- Writes and crashes at a gate and after it.
use Rattle.std.proofs.Common.{◌≡◌, inl, inr, ℕ, ◌+◌, ◌<◌, ◌≤◌, List, ◌∷◌, ◌++◌, length, get_or, take, drop, sym, ◌∙◌, ap, arith, append_assoc, length-append, length-take, length-drop, take-append-drop}
use Rattle.std.proofs.lemmas.List.{take_at, drop_more, get_or-take, get_or-drop}
use Rattle.std.proofs.lemmas.Grind.{same_number_lists}
use Rattle.std.proofs.Math.Seq.{drop-append-add}
use Rattle.acc_ports.specs.Disk.{overwritten, Torn}

-- Lists that have the same numbers before a place have the same front.
same_front : (n : ℕ) (xs ys : List ℕ) → n ≤ length xs → n ≤ length ys → ((k : ℕ) → k < n → get_or xs k 0 ≡ get_or ys k 0) → take n xs ≡ take n ys
same_front n xs ys in_xs in_ys same =
    same_number_lists (take n xs) (take n ys) (omega (arith, length-take {A = ℕ}))
    (λ k lt. let below : k < n = omega (arith, lt, length-take {A = ℕ}) in get_or-take n xs k 0 below ∙ same k below ∙ sym (get_or-take n ys k 0 below))

-- Lists of one length that have the same numbers from a place on have the same end.
same_end : (n : ℕ) (xs ys : List ℕ) → length xs ≡ length ys → ((k : ℕ) → n ≤ k → k < length xs → get_or xs k 0 ≡ get_or ys k 0) → drop n xs ≡ drop n ys
same_end n xs ys long same =
    same_number_lists (drop n xs) (drop n ys) (omega (arith, length-drop {A = ℕ}))
    (λ k lt. get_or-drop n xs k 0 ∙ same (n + k) (omega arith) (omega (arith, lt, length-drop {A = ℕ})) ∙ sym (get_or-drop n ys k 0))

module _ (front : List ℕ) (at : ℕ) (long : length front ≡ at) where
  -- bytes written after a front
  pub written_at : (behind bytes : List ℕ) → overwritten at bytes (front ++ behind) ≡ front ++ (bytes ++ drop (length bytes) behind)
  written_at behind bytes =
      ap (λ (l : List ℕ). l ++ bytes ++ drop (at + length bytes) (front ++ behind)) (take_at front behind at long)
      ∙ ap (λ (l : List ℕ). front ++ bytes ++ l) (ap (λ (n : ℕ). drop (n + length bytes) (front ++ behind)) (sym long) ∙ drop-append-add front behind (length bytes)) ∙ append_assoc front bytes (drop (length bytes) behind)

  -- A crash during a write after a front leaves the front.
  pub torn_at : (behind image : List ℕ) (count : ℕ) → Torn at count (front ++ behind) image → (rest : List ℕ) × (image ≡ front ++ rest)
  torn_at behind image count torn =
      let enough : at ≤ length image = omega (arith, torn.no_shorter, length-append front behind) in
      let same : take at image ≡ front = same_front at image (front ++ behind) enough (omega (arith, length-append front behind)) (λ k lt. torn.kept k (omega (arith, length-append front behind)) (inl lt)) ∙ take_at front behind at long in
      (drop at image, sym (take-append-drop at image) ∙ ap (λ (l : List ℕ). l ++ drop at image) same)

  -- A crash during a write of one byte leaves all but this byte.
  pub torn_byte : (byte : ℕ) (behind image : List ℕ) → Torn at 1 (front ++ byte ∷ behind) image → (other : ℕ) × (image ≡ front ++ other ∷ behind)
  torn_byte byte behind image torn =
      let same_length : length image ≡ length (front ++ byte ∷ behind) = omega (arith, torn.no_shorter, torn.no_longer, length-append front (byte ∷ behind)) in
      let part = torn_at (byte ∷ behind) image 1 torn in
      let rest_long : 0 < length part.0 = omega (arith, ap length part.1, length-append front part.0, length-append front (byte ∷ behind)) in
      let end : drop (at + 1) image ≡ behind =
      same_end (at + 1) image (front ++ byte ∷ behind) same_length (λ k le lt. torn.kept k (omega arith) (inr le))
      ∙ ap (λ (n : ℕ). drop (n + 1) (front ++ byte ∷ behind)) (sym long) ∙ drop-append-add front (byte ∷ behind) 1 in
      let here : part.0 ≡ get_or part.0 0 0 ∷ drop 1 part.0 = drop_more part.0 0 0 rest_long in
      let tail : drop 1 part.0 ≡ behind = sym (drop-append-add front part.0 1) ∙ ap (λ (l : List ℕ). drop (length front + 1) l) (sym part.1) ∙ ap (λ (n : ℕ). drop (n + 1) image) long ∙ end in
      (get_or part.0 0 0, part.1 ∙ ap (λ (l : List ℕ). front ++ l) (here ∙ ap (λ (l : List ℕ). get_or part.0 0 0 ∷ l) tail))
