-- Reads that follow one another.
use Rattle.std.proofs.Common.{All, ◌≡◌, ℕ, ◌+◌, ◌<◌, ◌≤◌, ◌++◌, [], ◌∷◌, List, length, take, drop, refl, ap, append_assoc, subst, arith, Option, Some, None, ◌∙◌, sym}
use Rattle.std.specs.Prelude.{IfSome, sum}
use Rattle.std.proofs.Math.Seq.{take-add}
use Rattle.std.proofs.lemmas.List.Elements.{All-nil, All-push}
use Rattle.std.proofs.lemmas.List.Sums.{sum_by_push}
use Rattle.std.proofs.lemmas.List.{append-nil, drop-drop, length-drop}
use Rattle.acc_ports.specs.Source.{without_first, read_also, ReadsOn, ReadsToEnd}

-- The first bytes, and then the first of the rest, are a longer front.
pub without_first-add : (count filled : ℕ) (left : Option (List ℕ)) → without_first count (without_first filled left) ≡ without_first (filled + count) left
without_first-add count filled None = refl
without_first-add count filled (Some bytes) = ap Some (drop-drop count filled bytes)

-- So many bytes of a source stand in the front of a buffer.
abbrev pub HoldsFront : ℕ → List ℕ → Option (List ℕ) → Type 0
HoldsFront count buffer left = IfSome left (λ bytes. (count ≤ length bytes) × (take count buffer ≡ take count bytes))

-- A read into the rest of a buffer makes the front longer that it holds.
pub HoldsFront-more : (filled count : ℕ) (old kept new : List ℕ) (before now : Option (List ℕ)) → now ≡ without_first filled before → HoldsFront filled old before → take filled kept ≡ take filled old → IfSome now (λ bytes. (count ≤ length bytes) × (take (filled + count) new ≡ take filled kept ++ take count bytes)) → HoldsFront (filled + count) new before
HoldsFront-more filled count old kept new None now is_now held same given = tt
HoldsFront-more filled count old kept new (Some bytes) now is_now held same given =
    let P : Option (List ℕ) → Type 0 = λ left. IfSome left (λ rest. (count ≤ length rest) × (take (filled + count) new ≡ take filled kept ++ take count rest)) in
    let more : P (Some (drop filled bytes)) = subst P is_now given in (
      (let enough : count ≤ length (drop filled bytes) = more.0 in let front : filled ≤ length bytes = held.0 in omega (arith, length-drop filled bytes)),
      more.1 ∙ ap (λ (front : List ℕ). front ++ take count (drop filled bytes)) (same ∙ held.1) ∙ sym (take-add filled count bytes),
    )

-- What further reads give stands behind what those before them gave.
pub read_also-add : (first second : List ℕ) (reads : Option (List ℕ)) → read_also second (read_also first reads) ≡ read_also (first ++ second) reads
read_also-add first second None = refl
read_also-add first second (Some counts) = ap Some (append_assoc counts first second)

-- One more read gave something.
pub ReadsOn-more : (count : ℕ) (before now after : Option (List ℕ)) → ReadsOn before now → after ≡ read_also (count ∷ []) now → 0 < count → ReadsOn before after
ReadsOn-more count before now after on is some = (
  on.0 ++ count ∷ [],
  All-push (λ (n : ℕ). 0 < n) on.0 count on.1 some,
  is ∙ ap (λ (r : Option (List ℕ)). read_also (count ∷ []) r) on.2 ∙ read_also-add on.0 (count ∷ []) before,
)

-- There were further reads, which gave so many bytes together, each of them some.
abbrev pub ReadsSoMany : ℕ → Option (List ℕ) → Option (List ℕ) → Type 0
ReadsSoMany total before after = (counts : List ℕ) × All (λ count. 0 < count) counts × (sum counts ≡ total) × (after ≡ read_also counts before)

pub ReadsSoMany-none : (reads : Option (List ℕ)) → ReadsSoMany 0 reads reads
ReadsSoMany-none None = ([], All-nil (λ (n : ℕ). 0 < n), refl, refl)
ReadsSoMany-none (Some counts) = ([], All-nil (λ (n : ℕ). 0 < n), refl, ap Some (sym (append-nil counts)))

pub ReadsSoMany-more : (count filled : ℕ) (before now after : Option (List ℕ)) → ReadsSoMany filled before now → after ≡ read_also (count ∷ []) now → 0 < count
    → ReadsSoMany (filled + count) before after
ReadsSoMany-more count filled before now after on is some = (
  on.0 ++ count ∷ [],
  All-push (λ (n : ℕ). 0 < n) on.0 count on.1 some,
  sum_more on.0 count ∙ ap (λ (n : ℕ). n + count) on.2,
  is ∙ ap (λ (r : Option (List ℕ)). read_also (count ∷ []) r) on.3 ∙ read_also-add on.0 (count ∷ []) before,
) where
  sum_more : (counts : List ℕ) (count : ℕ) → sum (counts ++ count ∷ []) ≡ sum counts + count
  sum_more counts count = sum_by_push (λ (n : ℕ). n) counts count

-- One more read gave nothing, and is the last.
pub ReadsToEnd-last : (count total : ℕ) (before now after : Option (List ℕ)) → ReadsSoMany total before now → after ≡ read_also (count ∷ []) now → count ≡ 0
    → ReadsToEnd total before after
ReadsToEnd-last count total before now after on is none = (
  on.0,
  on.1,
  on.2,
  is ∙ ap (λ (n : ℕ). read_also (n ∷ []) now) none ∙ ap (λ (r : Option (List ℕ)). read_also (0 ∷ []) r) on.3 ∙ read_also-add on.0 (0 ∷ []) before,
)
