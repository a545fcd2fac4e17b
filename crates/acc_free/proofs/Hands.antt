-- One thing more in a hand.
use Rattle.std.proofs.Common.{◌≡◌, ℕ, zero, suc, ◌<◌, List, [], ◌∷◌, ◌++◌, length, slice_set, slice_index_or, sym, ◌∙◌, ap, subst, arith}
use Rattle.std.specs.Prelude.{Vec}
use Rattle.std.specs.List.Sorted.{IsPermutation}
use Rattle.std.proofs.lemmas.List.Sorted.{IsPermutation-append_right, IsPermutation-append_left, IsPermutation-trans, IsPermutation-sym, IsPermutation-to_front}
use Rattle.std.proofs.lemmas.List.{append_assoc, append-nil}
use Rattle.acc_free.specs.Dealing.{all_in}

-- one hand more
pub all_in_more : {T A : Type 0} (hands : List (Vec T A)) (hand : Vec T A) → all_in (hands ++ hand ∷ []) ≡ all_in hands ++ hand.items
all_in_more [] hand = append-nil hand.items
all_in_more (first ∷ hands) hand =
    ap (λ rest. first.items ++ rest) (all_in_more hands hand) ∙ sym (append_assoc first.items (all_in hands) hand.items)

pub nothing_more : {T A : Type 0} (hands : List (Vec T A)) (hand : Vec T A) → all_in hands ≡ [] → hand.items ≡ [] → all_in (hands ++ hand ∷ []) ≡ []
nothing_more hands hand none empty = all_in_more hands hand ∙ ap (λ rest. all_in hands ++ rest) empty ∙ ap (λ all. all ++ []) none

-- a thing in front of two lists is one between them
pub between : {T : Type 0} (x : T) (first rest : List T) → IsPermutation (x ∷ (first ++ rest)) (first ++ x ∷ rest)
between x first rest =
    subst (λ all. IsPermutation (x ∷ (first ++ rest)) all) (append_assoc first (x ∷ []) rest)
    (IsPermutation-append_left rest (x ∷ first) (first ++ x ∷ []) (IsPermutation-sym (first ++ x ∷ []) (x ∷ first) (IsPermutation-to_front first x)))

-- put into the hand at a place
pub into_hand : {T A : Type 0} (x : T) (hands : List (Vec T A)) (place : ℕ) (other now : Vec T A) → place < length hands
    → now.items ≡ (slice_index_or hands place other).items ++ x ∷ [] → IsPermutation (x ∷ all_in hands) (all_in (slice_set hands place now))
into_hand x [] place other now within more = absurd (omega (arith, within))
into_hand x (first ∷ hands) zero other now within more =
    subst (λ items. IsPermutation (x ∷ (first.items ++ all_in hands)) (items ++ all_in hands)) (sym more)
    (IsPermutation-append_left (all_in hands) (x ∷ first.items) (first.items ++ x ∷ []) (IsPermutation-sym (first.items ++ x ∷ []) (x ∷ first.items) (IsPermutation-to_front first.items x)))
into_hand x (first ∷ hands) (suc place) other now within more =
    IsPermutation-trans (x ∷ (first.items ++ all_in hands)) (first.items ++ x ∷ all_in hands) (first.items ++ all_in (slice_set hands place now))
    (between x first.items (all_in hands))
    (IsPermutation-append_right first.items (x ∷ all_in hands) (all_in (slice_set hands place now)) (into_hand x hands place other now (omega (arith, within)) more))

-- the last thing of those that are left goes into a hand
pub one_dealt : {T : Type 0} (things left dealt now : List T) (x : T) → IsPermutation things ((left ++ x ∷ []) ++ dealt) → IsPermutation (x ∷ dealt) now
    → IsPermutation things (left ++ now)
one_dealt things left dealt now x all put =
    IsPermutation-trans things (left ++ x ∷ dealt) (left ++ now)
    (subst (λ rest. IsPermutation things rest) (append_assoc left (x ∷ []) dealt) all) (IsPermutation-append_right left (x ∷ dealt) now put)
