-- A board after some items entered it one after another.
use Rattle.std.proofs.Common.{◌≡◌, ℕ, ◌+◌, ◌-◌, List, [], ◌∷◌, ◌++◌, length, take, sym, ap, ◌∙◌, arith, append_assoc, length-append}
use Rattle.std.specs.Prelude.{sum_by}
use Rattle.std.proofs.Math.Seq.{take-append_seam}
use Rattle.acc_tape.specs.declared.content.Content.{Content}

-- the board after these items, each of which gave up an item and its bytes
abbrev pub after_some : {E : Type 0} → (E → ℕ) → Content E → List E → Content E
after_some bytes b items = record b { items = b.items ++ items; reserved = b.reserved - length items; reserved_weight = b.reserved_weight - sum_by bytes items }

module _ {E : Type 0} where
  front_is : (all before left : List E) → before ++ left ≡ all → take (length before) all ≡ before
  front_is all before left is = ap (λ l. take (length before) l) (sym is) ∙ take-append_seam before left

  -- the items before a place, and the one at it
  pub next_front : (all before left after : List E) (item : E) → before ++ left ≡ all → left ≡ item ∷ after → take (length before + 1) all ≡ before ++ item ∷ []
  next_front all before left after item is next =
      let n : length before + 1 ≡ length (before ++ item ∷ []) = (let l = length-append before (item ∷ []) in omega arith) in
      ap (λ k. take k all) n ∙ front_is all (before ++ item ∷ []) after (append_assoc before (item ∷ []) after ∙ ap (λ l. before ++ l) (sym next) ∙ is)

  -- what fits with the items up to one fits with that one after those that entered
  pub next_fits : (fits : List E → Type 0) (old all before left after : List E) (item : E) → before ++ left ≡ all → left ≡ item ∷ after → (now : List E) → now ≡ old ++ before → ((k : ℕ) → fits (old ++ take k all)) → fits (now ++ item ∷ [])
  next_fits fits old all before left after item is next now so all_fit =
      rw (so, append_assoc old before (item ∷ []), sym (next_front all before left after item is next)) (all_fit (length before + 1))
