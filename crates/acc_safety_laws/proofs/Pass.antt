-- The pass of a store over its stable transactions changes them in their turn.
use Rattle.std.proofs.Common.{◌≡◌, ℕ, Bool, true, false, not, List, [], ◌∷◌, Option, None, Some, is_some, refl, sym, ◌∙◌, ap, subst, ◌⊎◌, inl, inr, ⊎_elim, filter}
use Rattle.std.specs.List.{AllByRecursion}
use Rattle.std.proofs.lemmas.Bool.{true≢false, or_left, or_right, or_cases, cases_Bool, and_from}
use Rattle.acc_stamp.specs.declared.stamps.TxnId.{TxnId}
use Rattle.acc_stamp.specs.Stamp.{id_eq}
use Rattle.acc_stamp.specs.Rising.{id_among}
use Rattle.acc_stamp.proofs.Order.{id_order}
use Rattle.acc_deps.specs.Deps.{of_shard}
use Rattle.acc_deps.specs.declared.records.Settled.{Settled}
use Rattle.acc_message.specs.Taken.{Taken}
use Rattle.acc_message.specs.BallotRules.{stable_of, kept_outcome}
use Rattle.acc_message.specs.Opening.{comes_first, Standing, is_past, is_ready, Change, Turn, turn_of, with_applied, pass, is_change}
use Rattle.acc_actor_laws.proofs.Standing.{Truly}
use Rattle.acc_actor_laws.proofs.OpeningFacts.{all_at}
use Rattle.acc_safety_laws.proofs.Apart.{NotStanding, StandApart}
use Rattle.acc_safety_laws.proofs.Timeline.{AppliedIn, OpenedIn, behind, InTurn, AllInTurn, AppliedIn-behind}
use Rattle.acc_safety_laws.proofs.Turns.{opens_tells, Applies, applies_tells, opens_from, applied_or_applies, with_change, behind-filter, applied_still, opened_still, applied_now, applied_cases, in_turn_still}

-- In front of the rest of a pass: what is applied by now, opened before, and applied before is so in the changes up to now,
-- and of the rest nothing else is applied.
pub record Midway (before applied_before applied : List TxnId) (list : List Standing) (changes : List Change) : Type 0 where
  pub applied_is : (y : TxnId) → id_among y applied ≡ true → AppliedIn changes y
  pub opened_is : (y : TxnId) → id_among y before ≡ true → OpenedIn changes y
  pub was_applied : (y : TxnId) → id_among y applied_before ≡ true → AppliedIn changes y
  pub only : AllByRecursion (λ (s : Standing). AppliedIn changes s.id → id_among s.id applied_before ≡ true) list

-- a stable transaction has those below it among its dependencies, with stable records that come first
abbrev pub Covered : ℕ → List Taken → (TxnId → TxnId → Type 0) → Type 0
Covered shard history below =
    (x y : TxnId) (mine : Settled) → stable_of history x ≡ Some mine → below y x
    → (id_among y (of_shard mine.deps shard) ≡ true)
    × ((theirs : Settled) → stable_of history y ≡ Some theirs → comes_first mine.t theirs ≡ true)

module _ (shard : ℕ) (history : List Taken) (below : TxnId → TxnId → Type 0) (covered : Covered shard history below)
    (before applied_before : List TxnId)
    (applied_was_opened : (y : TxnId) → id_among y applied_before ≡ true → id_among y before ≡ true) where
  past_applied : (mine : Settled) (b : Bool) (o : Option Settled) → ((s : Settled) → o ≡ Some s → comes_first mine.t s ≡ true)
      → is_past mine.t b o ≡ true → b ≡ true
  past_applied mine b None first h = absurd (true≢false (sym h))
  past_applied mine b (Some s) first h =
      ⊎_elim (λ late. absurd (true≢false (sym late ∙ ap not (first s refl)))) (λ is. is) (or_cases (not (comes_first mine.t s)) b h)

  -- where x is ready, what is below it is applied by now
  ready_applied : (applied : List TxnId) (x y : TxnId) (mine : Settled) → stable_of history x ≡ Some mine
      → is_ready shard history applied mine ≡ true → below y x → id_among y applied ≡ true
  ready_applied applied x y mine stable ready b =
      let c = covered x y mine stable b in
      past_applied mine (id_among y applied) (stable_of history y) c.1
      (all_at (λ z. is_past mine.t (id_among z applied) (stable_of history z)) (of_shard mine.deps shard) y ready c.0)

  module _ (applied : List TxnId) (s : Standing) where
    opened : Bool
    opened = id_among s.id before

    was_applied : Bool
    was_applied = id_among s.id applied_before

    ready : Bool
    ready = is_ready shard history applied s.settled

    outcome : Bool
    outcome = is_some (kept_outcome history s.id)

    abbrev turn : Turn
    turn = turn_of s.id (id_among s.id before) (id_among s.id applied_before) (is_ready shard history applied s.settled) (is_some (kept_outcome history s.id))

    opens_now : turn.change.opens ≡ true → (id_among s.id before ≡ false) × (is_ready shard history applied s.settled ≡ true)
    opens_now h = opens_tells (id_among s.id before) (is_ready shard history applied s.settled) h

    applies_now : turn.change.applies ≡ true → Applies (id_among s.id before) (id_among s.id applied_before) (is_ready shard history applied s.settled) (is_some (kept_outcome history s.id))
    applies_now h = applies_tells (id_among s.id before) (id_among s.id applied_before) (is_ready shard history applied s.settled) (is_some (kept_outcome history s.id)) h

    module _ (rest : List Standing) (changes : List Change) (midway : Midway before applied_before applied (s ∷ rest) changes) where
      stands_now : turn.change.applies ≡ true → OpenedIn (turn.change ∷ changes) s.id
      stands_now h =
          ⊎_elim (λ was. inr (midway.opened_is s.id was))
          (λ new. inl (
            opens_from (id_among s.id before) (is_ready shard history applied s.settled) new
                (⊎_elim (λ was. absurd (true≢false (sym was ∙ new))) (λ is. is)
                (or_cases (id_among s.id before) (is_ready shard history applied s.settled) (applies_now h).stands)),
            refl,
          ))
          (cases_Bool (id_among s.id before))

      pub turn_in_turn : stable_of history s.id ≡ Some s.settled → InTurn below turn.change changes
      turn_in_turn stable =
          record {
            opened = λ h y b. midway.applied_is y (ready_applied applied s.id y s.settled stable (opens_now h).1 b);
            fresh = λ h k. true≢false (sym (applied_was_opened s.id (midway.only.0 k)) ∙ (opens_now h).0);
            stands = stands_now;
            once = λ h k. true≢false (sym (midway.only.0 k) ∙ (applies_now h).once);
          }

      -- what is applied by the end of its turn
      pub turn_applied : turn.is_applied ≡ true → AppliedIn (with_change turn.change changes) s.id
      turn_applied h =
          ⊎_elim (λ was. applied_still turn.change changes s.id (midway.was_applied s.id was)) (applied_now turn.change changes)
          (applied_or_applies (id_among s.id before) (id_among s.id applied_before) (is_ready shard history applied s.settled) (is_some (kept_outcome history s.id)) h)

      applied_next : (b : Bool) → turn.is_applied ≡ b → (y : TxnId) → id_among y (with_applied b s.id applied) ≡ true → AppliedIn (with_change turn.change changes) y
      applied_next false is y h = applied_still turn.change changes y (midway.applied_is y h)
      applied_next true is y h =
          ⊎_elim (λ same. subst (AppliedIn (with_change turn.change changes)) ((id_order.decides s.id y).0 same) (turn_applied is))
          (λ old. applied_still turn.change changes y (midway.applied_is y old)) (or_cases (id_eq s.id y) (id_among y applied) h)

      only_next : (list : List Standing) → NotStanding s.id list
          → AllByRecursion (λ (r : Standing). AppliedIn changes r.id → id_among r.id applied_before ≡ true) list
          → AllByRecursion (λ (r : Standing). AppliedIn (with_change turn.change changes) r.id → id_among r.id applied_before ≡ true) list
      only_next [] apart h = tt
      only_next (r ∷ list) apart h = (
        (λ k. ⊎_elim h.0 (λ same. absurd (apart.0 (sym same))) (applied_cases turn.change changes r.id k)),
        only_next list apart.1 h.1,
      )

      pub midway_next : NotStanding s.id rest
          → Midway before applied_before (with_applied turn.is_applied s.id applied) rest (with_change turn.change changes)
      midway_next apart =
          record {
            applied_is = applied_next turn.is_applied refl;
            opened_is = λ y h. opened_still turn.change changes y (midway.opened_is y h);
            was_applied = λ y h. applied_still turn.change changes y (midway.was_applied y h);
            only = only_next rest apart midway.only.1;
          }

  -- what a whole pass leaves: all in turn, and what is opened and has an outcome is applied
  pub record Passed (list : List Standing) (made : List Change) (changes : List Change) : Type 0 where
    pub turns : AllInTurn below changes
    pub opened_before : AllByRecursion (λ (s : Standing). id_among s.id before ≡ true → is_some (kept_outcome history s.id) ≡ true → AppliedIn changes s.id) list
    pub opened_now : AllByRecursion (λ (c : Change). c.opens ≡ true → is_some (kept_outcome history c.id) ≡ true → AppliedIn changes c.id) made
    pub truly : AllByRecursion (λ (c : Change). c.applies ≡ true → ((id_among c.id before ≡ true) ⊎ (c.opens ≡ true)) × (is_some (kept_outcome history c.id) ≡ true)) made

  module _ (applied : List TxnId) (s : Standing) (rest : List Standing) (changes : List Change) (made : List Change)
      (midway : Midway before applied_before applied (s ∷ rest) changes) where
    -- all changes, once those of the rest are made
    abbrev all : List Change
    all = behind (filter is_change made) (with_change (turn applied s).change changes)

    applied_by_then : (turn applied s).is_applied ≡ true → AppliedIn all s.id
    applied_by_then h = AppliedIn-behind below (filter is_change made) (with_change (turn applied s).change changes) s.id (turn_applied applied s rest changes midway h)

    turn_tells : (turn applied s).change.applies ≡ true
        → ((id_among s.id before ≡ true) ⊎ ((turn applied s).change.opens ≡ true)) × (is_some (kept_outcome history s.id) ≡ true)
    turn_tells h =
        let a = applies_now applied s h in (
          ⊎_elim inl (λ new. inr (opens_from (id_among s.id before) (is_ready shard history applied s.settled) new
              (⊎_elim (λ was. absurd (true≢false (sym was ∙ new))) (λ is. is)
              (or_cases (id_among s.id before) (is_ready shard history applied s.settled) a.stands)))) (cases_Bool (id_among s.id before)),
          a.has,
        )

    passed_more : Passed rest made all → Passed (s ∷ rest) ((turn applied s).change ∷ made) all
    passed_more p =
        record {
          turns = p.turns;
          opened_before = ((λ was has. applied_by_then (and_from _ _ (or_left _ _ was) has)), p.opened_before);
          opened_now = ((λ opens has. applied_by_then (and_from _ _ (or_right (id_among s.id before) _ (opens_now applied s opens).1) has)), p.opened_now);
          truly = (turn_tells, p.truly);
        }

  pub passed : (applied : List TxnId) (list : List Standing) (changes : List Change) → Truly history list → StandApart list
      → Midway before applied_before applied list changes → AllInTurn below changes
      → Passed list (pass shard history before applied_before applied list)
      (behind (filter is_change (pass shard history before applied_before applied list)) changes)
  passed applied [] changes truly apart midway turns = record { turns = turns; opened_before = tt; opened_now = tt; truly = tt }
  passed applied (s ∷ rest) changes truly apart midway turns =
      let next : List TxnId = with_applied (turn applied s).is_applied s.id applied in
      let made : List Change = pass shard history before applied_before next rest in
      let c : Change = (turn applied s).change in
      subst (Passed (s ∷ rest) (c ∷ made)) (sym (behind-filter c made changes))
      (passed_more applied s rest changes made midway
      (passed next rest (with_change c changes) truly.1 apart.1 (midway_next applied s rest changes midway apart.0)
      (in_turn_still below c changes (turn_in_turn applied s rest changes midway truly.0) turns)))
