-- A limit ends one front of a run at most, and one where the run passes it.
use Rattle.std.proofs.Common.{◌≡◌, ℕ, suc, ◌<◌, ◌≤◌, ◌⊎◌, inl, inr, List, [], ◌∷◌, length, refl, sym, ◌∙◌, ap, subst, arith}
use Rattle.std.proofs.lemmas.List.Sums.{sum_by-append}
use Rattle.acc_message.specs.declared.error.Which.{Which}
use Rattle.acc_message.specs.declared.error.Which.TheVariants.{Document, Items, Bytes}
use Rattle.acc_message.specs.declared.item.Item.{Item}
use Rattle.acc_message_code.specs.Weight.{weight_of, weight_of_items}
use Rattle.acc_schedule.specs.Content.{Content}
use Rattle.acc_schedule_runs.specs.Moves.{Answers}
use Rattle.acc_schedule_runs.specs.Schedules.{Obeys}
use Rattle.acc_schedule_runs.specs.Limits.{most_items, most_bytes, IsWithin, WouldPass, EndsAt}
use Rattle.acc_schedule_runs.specs.Fronts.{Begins, IsFront, LimitEnds}
use Rattle.acc_schedule_runs.proofs.Beginnings.{begins_itself, begins_longer, begins_chain, begins_shorter, begins_all}
use Rattle.acc_schedule_runs.proofs.InLine.{fronts_in_line, whole_is_front, whole_is_longest, part_is_front}

-- ---- what is within the limits

no_heavier : (one other : List Item) → Begins one other → weight_of_items one ≤ weight_of_items other
no_heavier one other a = omega (arith, ap weight_of_items a.items_are, sum_by-append weight_of a.later one)

at_most : {n m k : ℕ} → n ≤ m → m ≤ k → n ≤ k
at_most h k = omega arith

never_both : {n k : ℕ} → k < n → n ≤ k → ⊥
never_both h k = omega arith

pub within_part : (one other : List Item) → Begins one other → IsWithin other → IsWithin one
within_part one other a within =
    record { few = at_most (begins_shorter one other a) within.few; light = at_most (no_heavier one other a) within.light }

pub not_within : (items : List Item) (item : Item) (which : Which) (number : ℕ) → WouldPass items item which number → IsWithin (item ∷ items) → ⊥
not_within items item Document number passed within = passed
not_within items item Items number passed within = never_both passed.1 within.few
not_within items item Bytes number passed within = never_both passed.2 within.light

-- which limit it is
same_limit : (items : List Item) (item : Item) (one other : Which) (n k : ℕ) → WouldPass items item one n → WouldPass items item other k
    → (one ≡ other) × (n ≡ k)
same_limit items item Document other n k a b = absurd a
same_limit items item Items Document n k a b = absurd b
same_limit items item Items Items n k a b = (refl, a.0 ∙ sym b.0)
same_limit items item Items Bytes n k a b = absurd (never_both a.1 b.1)
same_limit items item Bytes Document n k a b = absurd b
same_limit items item Bytes Items n k a b = absurd (never_both b.1 a.1)
same_limit items item Bytes Bytes n k a b = (refl, a.0 ∙ sym b.0)

same_first : (item other : Item) (items others : List Item) → item ∷ items ≡ other ∷ others → (item ≡ other) × (items ≡ others)
same_first item other items others same = (cc, cc)

-- where fronts are such lists, of two of which the longer one begins with the other, and so is what a front begins with
module _ (Front : List Item → Type 0) (line : (one other : List Item) → Front one → Front other → length one ≤ length other → Begins one other)
    (part : (front items : List Item) → Begins front items → Front items → Front front) where
  -- ---- a limit ends one front

  -- no longer front is within the limits
  no_longer : (one other : List Item) (which which_other : Which) (n k : ℕ) → EndsAt Front one which n
      → EndsAt Front other which_other k → length one < length other → ⊥
  no_longer one other which which_other n k a b less =
      not_within one a.next which n a.passed
      (within_part (a.next ∷ one) other
      (line (a.next ∷ one) other a.front
      (part other (b.next ∷ other) (begins_longer b.next other) b.front) (one_more less))
      b.within)
    where
      one_more : {n k : ℕ} → n < k → suc n ≤ k
      one_more h = omega arith

  pub one_end : (one other : List Item) (which which_other : Which) (n k : ℕ) → EndsAt Front one which n
      → EndsAt Front other which_other k → (one ≡ other) × (which ≡ which_other) × (n ≡ k)
  one_end one other which which_other n k a b = by (order (length one) (length other))
    where
      order : (n k : ℕ) → (n < k) ⊎ ((k < n) ⊎ (n ≡ k))
      order n k = grind arith

      most : {n k : ℕ} → n ≡ k → suc n ≤ suc k
      most h = omega arith

      by : (length one < length other) ⊎ ((length other < length one) ⊎ (length one ≡ length other))
          → (one ≡ other) × (which ≡ which_other) × (n ≡ k)
      by (inl less) = absurd (no_longer one other which which_other n k a b less)
      by (inr (inl less)) = absurd (no_longer other one which_other which k n b a less)
      by (inr (inr same)) =
          let all =
          same_first a.next b.next one other
          (begins_all (a.next ∷ one) (b.next ∷ other)
          (line (a.next ∷ one) (b.next ∷ other) a.front b.front (most same)) (most (sym same))) in
          let limit =
          same_limit other b.next which which_other n k
          (subst (λ item. WouldPass other item which n) all.0 (subst (λ items. WouldPass items a.next which n) all.1 a.passed)) b.passed in
          (all.1, limit.0, limit.1)

-- ---- or the run is within the limits

pub record Passes (items : List Item) : Type 0 where
  pub front : List Item
  pub next : Item
  pub which : Which
  pub number : ℕ
  pub begins : Begins (next ∷ front) items
  pub within : IsWithin front
  pub passed : WouldPass front next which number

up_to : (n k : ℕ) → (n ≤ k) ⊎ (k < n)
up_to n k = grind arith

pub within_or_passes : (items : List Item) → IsWithin items ⊎ Passes items
within_or_passes [] = inl (record { few = omega arith; light = omega arith })
within_or_passes (item ∷ items) = by (within_or_passes items)
  where
    ends : (which : Which) (number : ℕ) → IsWithin items → WouldPass items item which number → Passes (item ∷ items)
    ends which number within passed =
        record {
          front = items;
          next = item;
          which = which;
          number = number;
          begins = begins_itself (item ∷ items);
          within = within;
          passed = passed;
        }

    light_or_not : IsWithin items → length (item ∷ items) ≤ most_items
        → (weight_of_items (item ∷ items) ≤ most_bytes) ⊎ (most_bytes < weight_of_items (item ∷ items)) → IsWithin (item ∷ items) ⊎ Passes (item ∷ items)
    light_or_not within few (inl light) = inl (record { few = few; light = light })
    light_or_not within few (inr heavy) = inr (ends Bytes most_bytes within (refl, few, heavy))

    few_or_not : IsWithin items → (length (item ∷ items) ≤ most_items) ⊎ (most_items < length (item ∷ items))
        → IsWithin (item ∷ items) ⊎ Passes (item ∷ items)
    few_or_not within (inl few) = light_or_not within few (up_to (weight_of_items (item ∷ items)) most_bytes)
    few_or_not within (inr many) = inr (ends Items most_items within (refl, many))

    by : IsWithin items ⊎ Passes items → IsWithin (item ∷ items) ⊎ Passes (item ∷ items)
    by (inl within) = few_or_not within (up_to (length (item ∷ items)) most_items)
    by (inr passes) =
        inr
        (record {
          front = passes.front;
          next = passes.next;
          which = passes.which;
          number = passes.number;
          begins = begins_chain (passes.next ∷ passes.front) items (item ∷ items) passes.begins (begins_longer item items);
          within = passes.within;
          passed = passes.passed;
        })

-- ---- the run of a plan

module _ (plan : Content) (answers : Answers) where
  pub one_front : (one other : List Item) (which which_other : Which) (n k : ℕ) → LimitEnds plan answers one which n
      → LimitEnds plan answers other which_other k → (one ≡ other) × (which ≡ which_other) × (n ≡ k)
  one_front = one_end (IsFront plan answers) (fronts_in_line plan answers) (part_is_front plan answers)

  pub limit_or_whole : (items : List Item) → Obeys plan answers items
      → IsWithin items ⊎ ((front : List Item) × (which : Which) × (number : ℕ) × LimitEnds plan answers front which number)
  limit_or_whole items obeys = by (within_or_passes items)
    where
      by : IsWithin items ⊎ Passes items
          → IsWithin items ⊎ ((front : List Item) × (which : Which) × (number : ℕ) × LimitEnds plan answers front which number)
      by (inl within) = inl within
      by (inr passes) =
          inr (
            passes.front,
            passes.which,
            passes.number,
            record {
              next = passes.next;
              front = part_is_front plan answers (passes.next ∷ passes.front) items passes.begins (whole_is_front plan answers items obeys);
              within = passes.within;
              passed = passes.passed;
            },
          )

  pub never_both_ends : (items front : List Item) (which : Which) (number : ℕ) → Obeys plan answers items → IsWithin items
      → LimitEnds plan answers front which number → ⊥
  never_both_ends items front which number obeys within ends =
      not_within front ends.next which number ends.passed
      (within_part (ends.next ∷ front) items (whole_is_longest plan answers items (ends.next ∷ front) obeys ends.front) within)
