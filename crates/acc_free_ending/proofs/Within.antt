-- What is within the limits of a run, and what would pass one.
use Rattle.std.proofs.Common.{ℕ, ◌<◌, ◌≤◌, List, ◌∷◌, ap, arith}
use Rattle.std.proofs.lemmas.List.Sums.{sum_by-append}
use Rattle.acc_message.specs.declared.error.Which.{Which}
use Rattle.acc_message.specs.declared.error.Which.TheVariants.{Document, Items, Bytes}
use Rattle.acc_message.specs.declared.item.Item.{Item}
use Rattle.acc_message_code.specs.Weight.{weight_of, weight_of_items}
use Rattle.acc_schedule_runs.specs.Limits.{IsWithin, WouldPass}
use Rattle.acc_schedule_runs.specs.Fronts.{Begins}
use Rattle.acc_schedule_runs.proofs.Beginnings.{begins_shorter}

no_heavier : (one other : List Item) → Begins one other → weight_of_items one ≤ weight_of_items other
no_heavier one other a = omega (arith, ap weight_of_items a.items_are, sum_by-append weight_of a.later one)

at_most : {n m k : ℕ} → n ≤ m → m ≤ k → n ≤ k
at_most h k = omega arith

never_both : {n k : ℕ} → k < n → n ≤ k → ⊥
never_both h k = omega arith

pub within_part : (one other : List Item) → Begins one other → IsWithin other → IsWithin one
within_part one other a within = record { few = at_most (begins_shorter one other a) within.few; light = at_most (no_heavier one other a) within.light }

pub not_within : (items : List Item) (item : Item) (which : Which) (number : ℕ) → WouldPass items item which number → IsWithin (item ∷ items) → ⊥
not_within items item Document number passed within = passed
not_within items item Items number passed within = never_both passed.1 within.few
not_within items item Bytes number passed within = never_both passed.2 within.light
