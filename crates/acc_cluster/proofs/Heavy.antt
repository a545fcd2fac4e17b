-- The limit of bytes.
use Rattle.std.proofs.Common.{◌≡◌, ℕ, suc, ◌+◌, ◌-◌, ◌<◌, ◌≤◌, ◌^◌, min, ◌∷◌, length, refl, sym, subst, arith}
use Rattle.std.proofs.lemmas.List.Sums.{sum_by-cons}
use Rattle.acc_message.specs.declared.error.Which.TheVariants.{Bytes}
use Rattle.acc_message.specs.declared.item.Item.{Item}
use Rattle.acc_message_code.specs.Weight.{weight_of, weight_of_items}
use Rattle.acc_schedule_runs.specs.Situations.{Situation}
use Rattle.acc_schedule_runs.specs.Limits.{EndsAt, most_items}
use Rattle.acc_history.specs.declared.history.History.{History}
use Rattle.acc_cluster.specs.Entering.{HasPlace, IsPastOf}

passes : (sum w x own item : ℕ) → 268435456 < sum → sum ≡ min (w + x) (2 ^ 64 - 1) → w ≡ own → x ≡ item → 268435456 < item + own
passes sum w x own item over is same here = omega (arith, over, is, same, here)

more_than : (sum w x own : ℕ) → 268435456 < sum → sum ≡ min (w + x) (2 ^ 64 - 1) → w ≡ own → own ≤ 268435456 → 0 < x
more_than sum w x own over is same light = omega (arith, over, is, same, light)

pub too_heavy : (h : History) (s : Situation) (item : Item) (sum w x : ℕ) → 268435456 < sum → sum ≡ min (w + x) (2 ^ 64 - 1) → w ≡ weight_of_items s.own → IsPastOf h s → HasPlace s
    → x ≡ weight_of item → (0 < x) × EndsAt (λ front. front ≡ item ∷ s.own) s.own Bytes 268435456
too_heavy h s item sum w x over is same past place here = (
  more_than sum w x (weight_of_items s.own) over is same past.within.light,
  record {
    next = item;
    front = refl;
    within = past.within;
    passed = (refl, few (length s.own) place, subst (λ n. 268435456 < n) (sym (sum_by-cons weight_of item s.own)) (passes sum w x (weight_of_items s.own) (weight_of item) over is same here));
  },
)
  where
    few : (n : ℕ) → n < most_items → suc n ≤ most_items
    few n low = omega (arith, low)
