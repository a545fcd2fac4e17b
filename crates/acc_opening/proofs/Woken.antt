-- One that was woken waits for another dependency, or its turn comes.
use Rattle.std.proofs.Common.{◌≡◌, ℕ, ◌+◌, ◌≤◌, ◌<◌, ⊎_elim, true, false, not, cond, ◌&&◌, ◌||◌, List, [], ◌∷◌, ◌++◌, length, get_or, drop, None, Some, is_some, sym, refl, ap, ◌∙◌, subst, arith, add-one}
use Rattle.std.proofs.Math.Seq.{drop-cons}
use Rattle.std.specs.List.{slice_get}
use Rattle.std.proofs.lemmas.Bool.{cases_lt}
use Rattle.acc_stamp.specs.declared.stamps.TxnId.{TxnId}
use Rattle.acc_deps.specs.Deps.{of_shard}
use Rattle.acc_deps.specs.declared.records.Settled.{Settled}
use Rattle.acc_record.specs.declared.record.Record.{Record}
use Rattle.acc_record.specs.declared.shelf.Watch.{Watch}
use Rattle.acc_opening.specs.Plan.{Lookup, settled_in, is_past_behind, is_ready_behind, IsRight}
use Rattle.acc_opening.specs.declared.turns.Turn.{Turn}
use Rattle.acc_opening.specs.Scan.{AllPastUpTo, IsLastHeld}
use Rattle.acc_opening.specs.Touched.{is_same}
use Rattle.acc_opening.specs.Turns.{turn_of, change_of, changes_in, HasTurn}
use Rattle.acc_opening.specs.State.{IsWoken, IsUnderWay}
use Rattle.acc_opening.proofs.TurnFacts.{Contains-first}
use Rattle.acc_opening.proofs.Behind.{all_past}
use Rattle.acc_opening.proofs.StateFacts.{some_same, moved, queued}

-- the one at a place stands in front of those after it
pub front : (shard : ℕ) (at : Lookup) (watching : TxnId → List Watch) (woken : List Watch) (place : ℕ) (d : Watch) (done queue : List Turn)
    → place < length woken → IsUnderWay shard at watching (drop place woken) done queue
    → IsUnderWay shard at watching (get_or woken place d ∷ drop (place + 1) woken) done queue
front shard at watching woken place d done queue h s =
    let e : drop place woken ≡ get_or woken place d ∷ drop (place + 1) woken = rw add-one (drop-cons woken place d h) in
    subst (λ list. IsUnderWay shard at watching list done queue) e s

module _ (shard : ℕ) (at : Lookup) (watching : TxnId → List Watch) (w : Watch) (rest : List Watch) (done queue : List Turn) (s : IsUnderWay shard at watching (w ∷ rest) done queue) where
  first : IsWoken shard at done w
  first = s.awake w (Contains-first w rest)

  -- it is known, and stable
  pub unknown : None ≡ at w.id → ⊥
  unknown e = let k : at w.id ≡ Some first.of.there = first.of.there_is in cc

  module _ (r : Record) (there : at w.id ≡ Some r) where
    same_record : first.of.there ≡ r
    same_record = some_same first.of.there r (sym first.of.there_is ∙ there)

    pub unsettled : r.stable ≡ None → ⊥
    unsettled e = let k : r.stable ≡ Some first.of.settled = ap (λ (z : Record). z.stable) (sym same_record) ∙ first.of.stable in cc

    module _ (settled : Settled) (stable : r.stable ≡ Some settled) where
      same_settled : first.of.settled ≡ settled
      same_settled = some_same first.of.settled settled (sym first.of.stable ∙ ap (λ (z : Record). z.stable) same_record ∙ stable)

      closed : r.opened ≡ false
      closed = ap (λ (z : Record). z.opened) (sym same_record) ∙ first.of.closed

      past_behind : (i : ℕ) (z : TxnId) → w.place + 1 ≤ i → i < length (of_shard settled.deps shard) → slice_get (of_shard settled.deps shard) i ≡ Some z
          → is_past_behind at (changes_in done) settled.t z ≡ true
      past_behind i z p q e =
          subst (λ (k : Settled). is_past_behind at (changes_in done) k.t z ≡ true) same_settled
          (first.of.past i z p (subst (λ (k : Settled). i < length (of_shard k.deps shard)) (sym same_settled) q)
          (subst (λ (k : Settled). slice_get (of_shard k.deps shard) i ≡ Some z) (sym same_settled) e))

      ready : AllPastUpTo at (changes_in done) settled.t (of_shard settled.deps shard) w.place → is_ready_behind shard at (changes_in done) settled ≡ true
      ready upto =
          all_past (is_past_behind at (changes_in done) settled.t) (of_shard settled.deps shard)
          (λ i z h e. ⊎_elim (λ k. upto i z (omega arith) k e) (λ k. past_behind i z k h e) (cases_lt i (w.place + 1)))

      right : is_ready_behind shard at (changes_in done) settled ≡ true → IsRight shard at (changes_in done) (change_of (turn_of r settled.t w.id))
      right h = record {
        there = r;
        there_is = there;
        settled = settled;
        stable = stable;
        opens = refl;
        ready = λ _. h;
        applies = refl;
        changes = ap (λ b. not b || (is_some r.outcome && not r.applied)) closed;
      }

      pub to_queue : AllPastUpTo at (changes_in done) settled.t (of_shard settled.deps shard) w.place → (after : List Turn)
          → HasTurn (turn_of r settled.t w.id) queue after → IsUnderWay shard at watching rest done after
      to_queue upto after has =
          let is : settled_in (at w.id) ≡ Some settled = ap settled_in there ∙ stable in
          queued shard at watching w rest done queue s (turn_of r settled.t w.id) after has (right (ready upto))
          (record { settled = settled; stable = is; t = refl }) refl (λ a c. first.later a settled c is)

      pub to_watch : (place : ℕ) → IsLastHeld at (changes_in done) settled.t (of_shard settled.deps shard) w.place place
          → (z : TxnId) → slice_get (of_shard settled.deps shard) place ≡ Some z
          → (after : TxnId → List Watch)
          → ((y : TxnId) → after y ≡ cond (is_same z y) (watching y ++ record { id = w.id; place = place } ∷ []) (watching y))
          → IsUnderWay shard at after rest done queue
      to_watch place next z e after adds =
          moved shard at watching w rest done queue s after z (record { id = w.id; place = place }) adds refl
          (record {
            of = record {
              there = r;
              there_is = there;
              closed = closed;
              settled = settled;
              stable = stable;
              past = λ i y p q k. ⊎_elim (λ h. next.past i y p h k) (λ h. past_behind i y h q k) (cases_lt i (w.place + 1));
            };
            waits_for = e;
            held = next.held z e;
          })
