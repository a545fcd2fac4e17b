-- The items of a closed tape: they are within the limits, and nobody is down where no actor of the plan went down.
use Rattle.std.proofs.Common.{◌≡◌, ℕ, ◌+◌, ◌≤◌, Bool, true, false, cond, List, [], ◌∷◌, ◌++◌, reverse, Contains, refl, sym, ◌∙◌, ap, subst, arith, eq-eqb}
use Rattle.std.specs.Prelude.{All, Any}
use Rattle.std.proofs.lemmas.Bool.{true≢false, and_from}
use Rattle.std.proofs.lemmas.List.{length-reverse}
use Rattle.std.proofs.lemmas.List.Elements.{All-head}
use Rattle.std.proofs.lemmas.List.Sorted.{IsPermutation-reverse, All-permutation, sum_by-IsPermutation}
use mathlib.Core.List.{IsPrefix}
use Rattle.acc_stamp.specs.declared.actors.Actor.{Actor}
use Rattle.acc_topology.specs.Layout.{Layout}
use Rattle.acc_message.specs.declared.item.Item.{Item}
use Rattle.acc_message.specs.declared.item.Item.TheVariants.{Step as StepItem, Skipped, Down}
use Rattle.acc_message_code.specs.Weight.{weight_of}
use Rattle.acc_payloads.specs.Items.{is_item_of, is_down_of, downs_in}
use Rattle.acc_safety.proofs.Bridge.{same_itself}
use Rattle.acc_schedule.specs.Actors.{actors}
use Rattle.acc_schedule_runs.specs.Laws.{NobodyIsDown}
use Rattle.acc_schedule_runs.specs.Limits.{most_bytes, IsWithin}
use Rattle.acc_free_laws.specs.FreeRun.{AreKnown, AreOthers}
use Rattle.acc_tape.specs.Lists.{items_of}
use Rattle.acc_tape.specs.ItemViews.{actor_of_item}
use Rattle.acc_tape.specs.Seats.{TapeName, SeatView}
use Rattle.acc_desk.specs.Desks.{no_hold, IsSeated}
use Rattle.acc_desk.proofs.Moving.{between}
use Rattle.acc_desk.proofs.Seating.{at_actor}

-- ---- nobody is down

up_before : (a : Actor) (item : Item) (items : List Item) → downs_in a (item ∷ items) ≡ 0 → downs_in a items ≡ 0
up_before a item items e = by (is_down_of a item) e
  where
    by : (down : Bool) → cond down (1 + downs_in a items) (downs_in a items) ≡ 0 → downs_in a items ≡ 0
    by true none = absurd (omega arith)
    by false none = none

pub nobody : (layout : Layout) (items : List Item) → AreKnown layout items → ((a : Actor) → Contains (actors layout) a → downs_in a items ≡ 0) → NobodyIsDown items
nobody layout [] known up = refl
nobody layout (StepItem e ∷ items) known up = and_from true _ refl (nobody layout items known.1 (λ a there. up_before a (StepItem e) items (up a there)))
nobody layout (Skipped step cause ∷ items) known up = and_from true _ refl (nobody layout items known.1 (λ a there. up_before a (Skipped step cause) items (up a there)))
nobody layout (Down actor ∷ items) known up =
    let e : 1 + downs_in actor items ≡ 0 = subst (λ down. cond down (1 + downs_in actor items) (downs_in actor items) ≡ 0) (same_itself actor) (up actor known.0) in
    absurd (omega arith)

-- ---- within the limits

module _ (tape : TapeName) (items : List Item) where
  module _ (a : Actor) (seat : SeatView Item) (seated : IsSeated tape a no_hold seat) where
    own_is : (item : Item) → seat.actor ≡ actor_of_item item → is_item_of a item ≡ true
    own_is (StepItem e) own = eq-eqb e.actor.0 a.0 (sym own ∙ seated.actor_is)
    own_is (Skipped step cause) own = absurd (seated.some own)
    own_is (Down actor) own = eq-eqb actor.0 a.0 (sym own ∙ seated.actor_is)

    -- whoever entered the last item has seen them all
    sees_all : IsPrefix seat.seen items → items_of actor_of_item seat.actor items ≡ seat.mine → (last : Item) (earlier : List Item) → reverse items ≡ last ∷ earlier → seat.actor ≡ actor_of_item last
        → reverse items ≡ reverse seat.seen
    sees_all begins mine last earlier is own =
        let b = between a seat.seen items seat.mine (at_actor a seat.actor seat.seen seat.mine seated.actor_is seated.mine_is) begins (at_actor a seat.actor items seat.mine seated.actor_is mine) in
        by b.others b.apart b.items_are
      where
        by : (others : List Item) → AreOthers a others → reverse items ≡ others ++ reverse seat.seen → reverse items ≡ reverse seat.seen
        by [] apart e = e
        by (other ∷ others) apart e =
            let same : other ≡ last = (let f : other ∷ (others ++ reverse seat.seen) ≡ last ∷ earlier = sym e ∙ is in cc) in
            absurd (true≢false (sym (own_is last own) ∙ sym (ap (is_item_of a) same) ∙ apart.0))

    seen_within : tape.limits.weight ≤ most_bytes → IsWithin (reverse seat.seen)
    seen_within light =
        let n = length-reverse seat.seen in
        let few = seated.few in
        let w = sum_by-IsPermutation weight_of seat.seen (reverse seat.seen) (IsPermutation-reverse seat.seen) in
        let own = seated.light in
        record { few = omega arith; light = omega arith }

  -- one of the seats is its actor's
  abbrev HasOwner : List (SeatView Item) → Item → Type 0
  HasOwner seats item = Any (λ (seat : SeatView Item). seat.actor ≡ actor_of_item item) seats

  pub within : (made : List ℕ) (seats : List (SeatView Item)) → tape.limits.weight ≤ most_bytes → All (λ (seat : SeatView Item). (a : Actor) × IsSeated tape a no_hold seat) seats
      → All (λ (seat : SeatView Item). IsPrefix seat.seen items × (items_of actor_of_item seat.actor items ≡ seat.mine) × Contains made seat.actor) seats
      → All (λ (item : Item). Any (λ (seat : SeatView Item). seat.actor ≡ actor_of_item item) seats) items → IsWithin (reverse items)
  within made seats light seated begins owned = by (reverse items) refl
    where
      by : (newest : List Item) → reverse items ≡ newest → IsWithin (reverse items)
      by [] e = subst IsWithin (sym e) (record { few = omega arith; light = omega arith })
      by (last ∷ earlier) e =
          let each = All-permutation (HasOwner seats) items (reverse items) (IsPermutation-reverse items) owned in
          let owner = All-head (HasOwner seats) last earlier (subst (All (HasOwner seats)) e each) in
          let seat = owner.1 in
          let there = subst (λ (seat : SeatView Item). (a : Actor) × IsSeated tape a no_hold seat) owner.3 (seated owner.0 owner.1 owner.2) in
          let saw = subst (λ (seat : SeatView Item). IsPrefix seat.seen items × (items_of actor_of_item seat.actor items ≡ seat.mine) × Contains made seat.actor) owner.3 (begins owner.0 owner.1 owner.2) in
          subst IsWithin (sym (sees_all there.0 seat there.1 saw.0 saw.1 last earlier e owner.4)) (seen_within there.0 seat there.1 light)
