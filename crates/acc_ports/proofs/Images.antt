-- What a crash may leave after one write more, and by choice.
use Rattle.std.proofs.Common.{◌≡◌, ◌⊎◌, inl, inr, ℕ, ◌+◌, ◌-◌, ◌<◌, ◌≤◌, List, [], ◌∷◌, ◌++◌, length, take, drop, get_or, refl, sym, ◌∙◌, ap, arith, length-append, length-take, Bool, true, false, cond}
use Rattle.std.specs.Prelude.{min, max, map, ◌||◌, ◌&&◌, nat_le, nat_lt, not}
use Rattle.std.specs.List.{range_with_len}
use Rattle.std.proofs.lemmas.List.{get_or_append_left, get_or-append-add, get_or-take, get_or-drop}
use Rattle.std.proofs.lemmas.List.Folds.{list_any-append}
use Rattle.std.proofs.lemmas.List.FromFn.{get_or-map-range_with_len, length-map-range_with_len}
use Rattle.std.proofs.lemmas.Grind.{same_number_lists}
use Rattle.std.proofs.lemmas.Bool.{cases_lt}
use Rattle.std.proofs.lemmas.Bool.Decides.{nat_tests}
use Rattle.acc_ports.specs.Disk.{overwritten, Torn}
use Rattle.acc_ports.proofs.Undoing.{length_written}
use Rattle.acc_ports.specs.State.{Ranges}
use Rattle.acc_ports.specs.Strict.{is_within, extent, IsImage}

-- a place lies in one range
abbrev pub in_range : ℕ → ℕ → ℕ → Bool
in_range at count place = nat_le at place && nat_lt place (at + count)

pub is_within-push : (ranges : Ranges) (at count place : ℕ) → is_within (ranges ++ (at, count) ∷ []) place ≡ (is_within ranges place || (in_range at count place || false))
is_within-push ranges at count place = list_any-append (λ (range : ℕ × ℕ). nat_le range.0 place && nat_lt place (range.0 + range.1)) ranges ((at, count) ∷ [])

neither : (a b : Bool) → (a || (b || false)) ≡ false → (a ≡ false) × (b ≡ false)
neither true b is = absurd (cc is)
neither false true is = absurd (cc is)
neither false false is = (refl, refl)

both_false : (a b : Bool) → a ≡ false → b ≡ false → (a || (b || false)) ≡ false
both_false a b is too = rw (is, too) refl

outside : (at count place : ℕ) → in_range at count place ≡ false → (place < at) ⊎ (at + count ≤ place)
outside at count place is = elim (cases_lt place at) [
  | inl below ↦ inl below
  | inr from ↦ elim (cases_lt place (at + count)) [ inl within ↦ absurd (grind (arith, nat_tests)) | inr behind ↦ inr behind ]
]

not_in_range : (at count place : ℕ) → (place < at) ⊎ (at + count ≤ place) → in_range at count place ≡ false
not_in_range at count place (inl below) = grind (arith, nat_tests)
not_in_range at count place (inr behind) = grind (arith, nat_tests)

pub extent-push : (least : ℕ) (ranges : Ranges) (at count : ℕ) → extent least (ranges ++ (at, count) ∷ []) ≡ max (extent least ranges) (at + count)
extent-push least [] at count = refl
extent-push least (range ∷ ranges) at count = extent-push (max least (range.0 + range.1)) ranges at count

pub extent-least : (least : ℕ) (ranges : Ranges) → least ≤ extent least ranges
extent-least least [] = omega arith
extent-least least (range ∷ ranges) = omega (arith, extent-least (max least (range.0 + range.1)) ranges)

-- What was synced is an image.
pub synced_image : (synced : List ℕ) (ranges : Ranges) → IsImage synced ranges synced
synced_image synced ranges = record { no_shorter = omega arith; no_longer = extent-least (length synced) ranges; kept = λ k lt is. refl }

-- Nothing else is, where nothing was written since.
pub only_synced : (synced image : List ℕ) → IsImage synced [] image → image ≡ synced
only_synced synced image is =
    let same : length image ≡ length synced = omega (arith, is.no_shorter, is.no_longer) in
    same_number_lists image synced same (λ k lt. is.kept k (omega arith) refl)

-- An image is one too where more was written.
pub image_more : (synced : List ℕ) (ranges : Ranges) (at count : ℕ) (image : List ℕ) → IsImage synced ranges image → IsImage synced (ranges ++ (at, count) ∷ []) image
image_more synced ranges at count image is = record {
  no_shorter = is.no_shorter;
  no_longer = omega (arith, is.no_longer, extent-push (length synced) ranges at count);
  kept = λ k lt unwritten. is.kept k lt ((neither _ _ (sym (is_within-push ranges at count k) ∙ unwritten)).0);
}

-- A step of a crash while a write is under way leads from image to image.
pub image_torn : (synced : List ℕ) (ranges : Ranges) (at count : ℕ) (old new : List ℕ) → IsImage synced ranges old → Torn at count old new → IsImage synced (ranges ++ (at, count) ∷ []) new
image_torn synced ranges at count old new is torn = record {
  no_shorter = omega (arith, is.no_shorter, torn.no_shorter);
  no_longer = omega (arith, is.no_longer, torn.no_longer, extent-push (length synced) ranges at count);
  kept = λ k lt unwritten.
      let parts = neither _ _ (sym (is_within-push ranges at count k) ∙ unwritten) in
      torn.kept k (omega (arith, is.no_shorter)) (outside at count k parts.1) ∙ is.kept k lt parts.0;
}

-- A write that is whole is a step of a crash while it is under way.
pub written_torn : (at : ℕ) (bytes content : List ℕ) → at ≤ length content → Torn at (length bytes) content (overwritten at bytes content)
written_torn at bytes content inside = record {
  no_shorter = omega (arith, length_written at bytes content inside);
  no_longer = omega (arith, length_written at bytes content inside);
  kept = λ k lt. elim [
    | inl below ↦
        get_or_append_left (take at content ++ bytes) (drop (at + length bytes) content) 0 k (omega (arith, sizes)) ∙ get_or_append_left (take at content) bytes 0 k (omega (arith, sizes)) ∙ get_or-take at content k 0 below
    | inr behind ↦
        ap (λ (n : ℕ). get_or (overwritten at bytes content) n 0) (omega (arith, sizes)) ∙ get_or-append-add (take at content ++ bytes) (drop (at + length bytes) content) (k - (at + length bytes)) 0
        ∙ get_or-drop (at + length bytes) content (k - (at + length bytes)) 0 ∙ ap (λ (n : ℕ). get_or content n 0) (omega arith)
  ];
}
  where
    sizes : (length (take at content) ≡ at) × (length (take at content ++ bytes) ≡ at + length bytes)
    sizes = (omega (arith, length-take {A = ℕ}), omega (arith, length-append (take at content) bytes, length-take {A = ℕ}))

-- Each image after a write comes from one before it.
module _ (synced : List ℕ) (ranges : Ranges) (at count : ℕ) (image : List ℕ) (is : IsImage synced (ranges ++ (at, count) ∷ []) image) where
  long : ℕ
  long = min (length image) (extent (length synced) ranges)

  -- its byte at a place: that of the image, but for places that were written now for the first time
  byte : ℕ → ℕ
  byte place = cond (is_within ranges place || not (nat_lt place (length synced))) (get_or image place 0) (get_or synced place 0)

  earlier : List ℕ
  earlier = map byte (range_with_len 0 long)

  earlier_at : (k : ℕ) → k < long → get_or earlier k 0 ≡ byte k
  unfolding earlier
  earlier_at k lt = get_or-map-range_with_len byte 0 long k k 0 lt (omega arith)

  earlier_long : length earlier ≡ long
  unfolding earlier
  earlier_long = length-map-range_with_len byte 0 long

  at_kept : (k : ℕ) → k < length synced → is_within ranges k ≡ false → byte k ≡ get_or synced k 0
  unfolding byte
  at_kept k lt unwritten = rw unwritten (let below : nat_lt k (length synced) ≡ true = grind (arith, nat_tests) in rw below refl)

  at_written : (k : ℕ) → is_within ranges k ≡ true → byte k ≡ get_or image k 0
  unfolding byte
  at_written k written = rw written refl

  at_past : (k : ℕ) → length synced ≤ k → byte k ≡ get_or image k 0
  unfolding byte
  at_past k le = let above : nat_lt k (length synced) ≡ false = grind (arith, nat_tests) in elim (is_within ranges k) as (λ v. cond (v || not (nat_lt k (length synced))) (get_or image k 0) (get_or synced k 0) ≡ get_or image k 0) [ true ↦ refl | false ↦ rw above refl ]

  bool_cases : (b : Bool) → (b ≡ true) ⊎ (b ≡ false)
  bool_cases true = inl refl
  bool_cases false = inr refl

  unchanged : (k : ℕ) → (k < at) ⊎ (at + count ≤ k) → byte k ≡ get_or image k 0
  unchanged k out = elim (cases_lt k (length synced)) [
    | inr past ↦ at_past k past
    | inl lt ↦ elim (bool_cases (is_within ranges k)) [
      | inl written ↦ at_written k written
      | inr unwritten ↦ at_kept k lt unwritten ∙ sym (is.kept k lt (is_within-push ranges at count k ∙ both_false _ _ unwritten (not_in_range at count k out)))
    ]
  ]

  before_image : IsImage synced ranges earlier
  unfolding long
  before_image = record {
    no_shorter = omega (arith, earlier_long, is.no_shorter, extent-least (length synced) ranges);
    no_longer = omega (arith, earlier_long);
    kept = λ k lt unwritten. earlier_at k (omega (arith, is.no_shorter, extent-least (length synced) ranges)) ∙ at_kept k lt unwritten;
  }

  before_torn : Torn at count earlier image
  unfolding long
  before_torn = record {
    no_shorter = omega (arith, earlier_long);
    no_longer = omega (arith, earlier_long, is.no_longer, extent-push (length synced) ranges at count);
    kept = λ k lt out. sym (earlier_at k (omega (arith, earlier_long, lt)) ∙ unchanged k out);
  }

  pub from_before : (before : List ℕ) × IsImage synced ranges before × Torn at count before image
  from_before = (earlier, before_image, before_torn)
