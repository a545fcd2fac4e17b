-- All stamps are below a bound where the greatest of them is.
use Rattle.std.proofs.Common.{◌≡◌, Bool, true, false, not, List, [], Some, refl, sym, ap, ◌∙◌, IsTrue}
use Rattle.std.specs.List.{list_all}
use Rattle.std.proofs.lemmas.List.Folds.{list_all_at}
use Rattle.std.proofs.lemmas.List.Sums.{list_all-from_AllPass}
use Rattle.acc_stamp.specs.declared.stamps.Stamp.{Stamp}
use Rattle.acc_stamp.specs.Stamp.{stamp_lt, stamp_le}
use Rattle.acc_stamp.proofs.Order.{stamp_order, le-lt-trans, stamp_le-not_lt}
use Rattle.acc_index.specs.Noted.{IsGreatestStamp}
use Rattle.acc_lanes.proofs.Members.{each_element, of_element}

pub not_of : (b : Bool) → not b ≡ true → b ≡ false
not_of true h = sym h
not_of false h = refl

pub le_lt : (a b c : Stamp) → stamp_le a b ≡ true → stamp_lt b c ≡ true → stamp_lt a c ≡ true
le_lt a b c h k = le-lt-trans stamp_order a b c (not_of _ (sym (stamp_le-not_lt a b) ∙ h)) k

pub all_below-none : (stamps : List Stamp) (bound : Stamp) → stamps ≡ [] → list_all (λ s. stamp_lt s bound) stamps ≡ true
all_below-none stamps bound is = ap (list_all (λ s. stamp_lt s bound)) is

pub all_below-greatest : (stamps : List Stamp) (g bound : Stamp) → IsGreatestStamp stamps (Some g) → list_all (λ s. stamp_lt s bound) stamps ≡ stamp_lt g bound
all_below-greatest stamps g bound is = by (stamp_lt g bound) refl
  where
    by : (b : Bool) → stamp_lt g bound ≡ b → list_all (λ s. stamp_lt s bound) stamps ≡ b
    by true e =
        list_all-from_AllPass (λ s. stamp_lt s bound) stamps
        (each_element (λ s. stamp_lt s bound ≡ true) stamps (λ s c. le_lt s g bound (of_element (λ y. IsTrue (stamp_le y g)) stamps s is.above c) e))
    by false e =
        let c = is.among in
        list_all_at (λ s. stamp_lt s bound) stamps c.0 g c.1 (ap (λ s. stamp_lt s bound) c.2 ∙ e)
