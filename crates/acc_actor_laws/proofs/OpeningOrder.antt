-- The changes of a step are just the newly opened and applied ones, each once, in order, and each when it is due.
use Rattle.std.proofs.Common.{◌≡◌, ℕ, Bool, true, false, not, ◌&&◌, ◌||◌, cond, List, [], ◌∷◌, ◌++◌, Option, None, Some, is_some, map, filter, refl, sym, ◌∙◌, ap, subst, ◌⊎◌, inl, inr, ⊎_elim, arith}
use Rattle.std.specs.List.{AllByRecursion, list_any}
use Rattle.std.proofs.lemmas.Bool.{true≢false, or_left, or_right, or_from, or_cases, or_parts, and_parts, and_from, not_from_false, not_from_true, false_from_ne_true, cond_both, cases_Bool}
use Rattle.std.proofs.lemmas.List.Folds.{list_any-append}
use Rattle.acc_base.specs.Faults.{or_else}
use Rattle.acc_stamp.specs.declared.stamps.TxnId.{TxnId}
use Rattle.std.specs.declared.cmp.Ordering.{Ordering}
use Rattle.std.specs.declared.cmp.Ordering.TheVariants.{Less, Equal, Greater}
use Rattle.std.specs.Ordering.{MatchOrdering, ordering_then, is_lt}
use Rattle.acc_stamp.specs.Stamp.{id_eq, id_lt, id_cmp, stamp_lt, stamp_cmp}
use Rattle.acc_stamp.specs.Rising.{IsRisingBy, id_among, rising_with}
use Rattle.acc_stamp.proofs.Order.{stamp_order, id_order, asym, stamp_cmp-ranks}
use Rattle.acc_stamp.proofs.Rising.{is_among-append, each_weaker}
use Rattle.acc_deps.specs.Deps.{of_shard}
use Rattle.acc_deps.specs.declared.records.Settled.{Settled}
use Rattle.acc_message.specs.Taken.{Taken, known}
use Rattle.acc_message.specs.BallotRules.{stable_of, settled_in, kept_outcome, outcome_in}
use Rattle.acc_message.specs.Opening.{IsOpened, Stays, Opens, comes_first, is_past, is_ready, Standing, standing_lt, stable_ones, in_turn, Change, Turn, turn_of, with_applied, pass, is_change, changes_from, changes_of, opened_by, opened_of, is_opened, applied_of, is_applied}
use Rattle.acc_actor_laws.specs.OpeningOrder.{opens_in, applies_in, AppliedBy, IsDue, EachDue, AreInOrder, OpensInOrder}
use Rattle.acc_actor_laws.proofs.Standing.{not_none, stands, Truly, Sorted, in_turn-Sorted, turns-stands, turns-Truly}
use Rattle.acc_actor_laws.proofs.OpeningFacts.{all_at, some_is, Opened, HasOutcome, past_is_stable, past_is_applied, AreApplied, ready-Opened, opens-Opened, more_applied, applied_now, Covers, ready_by, or_of, covers_next, opened_of-sound, opened_of-complete}
use Rattle.acc_actor_laws.proofs.AppliedFacts.{applied_is}

-- ---- what stays with one more step

kept_some : {T : Type 0} (o other : Option T) (x : T) → o ≡ Some x → or_else o other ≡ Some x
kept_some None other x e = absurd (not_none x e)
kept_some (Some y) other x e = e

pub stable_stays : (step : Taken) (past : List Taken) (x : TxnId) (s : Settled) → stable_of past x ≡ Some s → stable_of (step ∷ past) x ≡ Some s
stable_stays step past x s is = kept_some (stable_of past x) (settled_in x step.message) s is

some_stays : {T : Type 0} (o other : Option T) → is_some o ≡ true → is_some (or_else o other) ≡ true
some_stays None other h = absurd (true≢false (sym h))
some_stays (Some x) other h = refl

pub opened_stays : (shard : ℕ) (step : Taken) (past : List Taken) (x : TxnId) → is_opened shard past x ≡ true → is_opened shard (step ∷ past) x ≡ true
opened_stays shard step past x h = opened_of-complete shard step past x (Stays x h)

pub applied_stays : (shard : ℕ) (step : Taken) (past : List Taken) (x : TxnId) → is_applied shard past x ≡ true → is_applied shard (step ∷ past) x ≡ true
applied_stays shard step past x h =
    let parts = and_parts (is_opened shard past x) (is_some (kept_outcome past x)) h in
    and_from (is_opened shard (step ∷ past) x) (is_some (kept_outcome (step ∷ past) x)) (opened_stays shard step past x parts.0)
    (some_stays (kept_outcome past x) (outcome_in x step.message) parts.1)

-- ---- an opened transaction has its dependencies after it

pub record Held (shard : ℕ) (history : List Taken) (x : TxnId) : Type 0 where
  pub settled : Settled
  pub settled_is : stable_of history x ≡ Some settled
  pub stable : (y : TxnId) → id_among y (of_shard settled.deps shard) ≡ true → is_some (stable_of history y) ≡ true
  pub applied :
      (y : TxnId) (theirs : Settled) → id_among y (of_shard settled.deps shard) ≡ true → stable_of history y ≡ Some theirs
      → comes_first settled.t theirs ≡ true → is_applied shard history y ≡ true

-- a record that was there is the one that is there now
same_record : (step : Taken) (past : List Taken) (y : TxnId) (theirs : Settled) (o : Option Settled) → stable_of past y ≡ o → is_some o ≡ true
    → stable_of (step ∷ past) y ≡ Some theirs → stable_of past y ≡ Some theirs
same_record step past y theirs None was some is = absurd (true≢false (sym some))
same_record step past y theirs (Some s) was some is = was ∙ sym (stable_stays step past y s was) ∙ is

held_stays : (shard : ℕ) (step : Taken) (past : List Taken) (x : TxnId) → Held shard past x → Held shard (step ∷ past) x
held_stays shard step past x h =
    record {
      settled = h.settled;
      settled_is = stable_stays step past x h.settled h.settled_is;
      stable = λ y k. some_stays (stable_of past y) (settled_in y step.message) (h.stable y k);
      applied = λ y theirs k is first.
          applied_stays shard step past y
          (h.applied y theirs k (same_record step past y theirs (stable_of past y) refl (h.stable y k) is) first);
    }

held_by : (shard : ℕ) (step : Taken) (past : List Taken) (x : TxnId) → IsOpened shard (step ∷ past) (opened_of shard past) x
    → (is_opened shard past x ≡ true → Held shard past x) → Held shard (step ∷ past) x
held_by shard step past x (Stays y h) earlier = held_stays shard step past y (earlier h)
held_by shard step past x (Opens y mine is stable outcome opens) earlier =
    record {
      settled = mine;
      settled_is = is;
      stable = stable;
      applied = λ z theirs k theirs_is first.
          and_from (is_opened shard (step ∷ past) z) (is_some (kept_outcome (step ∷ past) z))
          (opened_of-complete shard step past z (opens z theirs k theirs_is first)) (outcome z theirs k theirs_is first);
    }

-- what is opened is stable, with every dependency stable and, where its timestamp is smaller, applied
pub opened_holds : (shard : ℕ) (history : List Taken) (x : TxnId) → is_opened shard history x ≡ true → Held shard history x
opened_holds shard [] x h = absurd (true≢false (sym h))
opened_holds shard (step ∷ past) x h = held_by shard step past x (opened_of-sound shard step past x h) (opened_holds shard past x)

-- ---- order

-- by the timestamps, and of equal ones by the ids
lt_by : (a b : Standing) (o : Ordering) → MatchOrdering o (stamp_lt a.settled.t b.settled.t ≡ true) (a.settled.t ≡ b.settled.t) (stamp_lt b.settled.t a.settled.t ≡ true)
    → is_lt (ordering_then o (id_cmp a.id b.id)) ≡ true
    → (stamp_lt a.settled.t b.settled.t ≡ true) ⊎ ((a.settled.t ≡ b.settled.t) × (id_lt a.id b.id ≡ true))
lt_by a b Less rank h = inl rank
lt_by a b Equal rank h = inr (rank, h)
lt_by a b Greater rank h = absurd (true≢false (sym h))

lt_parts : (a b : Standing) → standing_lt a b ≡ true
    → (stamp_lt a.settled.t b.settled.t ≡ true) ⊎ ((a.settled.t ≡ b.settled.t) × (id_lt a.id b.id ≡ true))
lt_parts a b h = lt_by a b (stamp_cmp a.settled.t b.settled.t) (stamp_cmp-ranks a.settled.t b.settled.t) h

from_by : (a b : Standing) (o : Ordering) → MatchOrdering o (stamp_lt a.settled.t b.settled.t ≡ true) (a.settled.t ≡ b.settled.t) (stamp_lt b.settled.t a.settled.t ≡ true)
    → (stamp_lt a.settled.t b.settled.t ≡ true) ⊎ ((a.settled.t ≡ b.settled.t) × (id_lt a.id b.id ≡ true))
    → is_lt (ordering_then o (id_cmp a.id b.id)) ≡ true
from_by a b Less rank h = refl
from_by a b Equal rank h =
    ⊎_elim (λ below. absurd (true≢false (sym below ∙ ap (λ t. stamp_lt t b.settled.t) rank ∙ stamp_order.irrefl b.settled.t))) (λ same. same.1) h
from_by a b Greater rank h =
    absurd (⊎_elim (λ below. true≢false (sym below ∙ asym stamp_order b.settled.t a.settled.t rank))
    (λ same. true≢false (sym rank ∙ ap (stamp_lt b.settled.t) same.0 ∙ stamp_order.irrefl b.settled.t)) h)

lt_from : (a b : Standing) → (stamp_lt a.settled.t b.settled.t ≡ true) ⊎ ((a.settled.t ≡ b.settled.t) × (id_lt a.id b.id ≡ true)) → standing_lt a b ≡ true
lt_from a b h = from_by a b (stamp_cmp a.settled.t b.settled.t) (stamp_cmp-ranks a.settled.t b.settled.t) h

standing_trans : (a b c : Standing) → standing_lt a b ≡ true → standing_lt b c ≡ true → standing_lt a c ≡ true
standing_trans a b c h k = lt_from a c (⊎_elim below level (lt_parts a b h))
  where
    below : stamp_lt a.settled.t b.settled.t ≡ true → (stamp_lt a.settled.t c.settled.t ≡ true) ⊎ ((a.settled.t ≡ c.settled.t) × (id_lt a.id c.id ≡ true))
    below first =
        ⊎_elim (λ then. inl (stamp_order.trans a.settled.t b.settled.t c.settled.t first then)) (λ same. inl (ap (stamp_lt a.settled.t) (sym same.0) ∙ first)) (lt_parts b c k)

    level : (a.settled.t ≡ b.settled.t) × (id_lt a.id b.id ≡ true) → (stamp_lt a.settled.t c.settled.t ≡ true) ⊎ ((a.settled.t ≡ c.settled.t) × (id_lt a.id c.id ≡ true))
    level first =
        ⊎_elim (λ then. inl (ap (λ t. stamp_lt t c.settled.t) first.0 ∙ then)) (λ same. inr (first.0 ∙ same.0, id_order.trans a.id b.id c.id first.1 same.1)) (lt_parts b c k)

below_more : (a b : Standing) (list : List Standing) → standing_lt a b ≡ true → AllByRecursion (λ z. standing_lt b z ≡ true) list
    → AllByRecursion (λ z. standing_lt a z ≡ true) list
below_more a b list h each = each_weaker (λ z. standing_lt b z ≡ true) (λ z. standing_lt a z ≡ true) list (λ z k. standing_trans a b z h k) each

with_below : (a s : Standing) (list : List Standing) → standing_lt a s ≡ true → AllByRecursion (λ z. standing_lt a z ≡ true) list
    → AllByRecursion (λ z. standing_lt a z ≡ true) (rising_with standing_lt s list)
with_below a s [] h each = (h, tt)
with_below a s (z ∷ zs) h each =
    cond_both (standing_lt s z) (s ∷ z ∷ zs) (cond (standing_lt z s) (z ∷ rising_with standing_lt s zs) (z ∷ zs)) (AllByRecursion (λ w. standing_lt a w ≡ true))
    (λ _. (h, each))
    (λ _. cond_both (standing_lt z s) (z ∷ rising_with standing_lt s zs) (z ∷ zs) (AllByRecursion (λ w. standing_lt a w ≡ true))
    (λ _. (each.0, with_below a s zs h each.1)) (λ _. each))

with_rising : (s : Standing) (list : List Standing) → IsRisingBy standing_lt list → IsRisingBy standing_lt (rising_with standing_lt s list)
with_rising s [] h = (tt, tt)
with_rising s (z ∷ zs) h =
    cond_both (standing_lt s z) (s ∷ z ∷ zs) (cond (standing_lt z s) (z ∷ rising_with standing_lt s zs) (z ∷ zs)) (IsRisingBy standing_lt)
    (λ before. ((before, below_more s z zs before h.0), h))
    (λ _. cond_both (standing_lt z s) (z ∷ rising_with standing_lt s zs) (z ∷ zs) (IsRisingBy standing_lt)
    (λ behind. (with_below z s zs behind h.0, with_rising s zs h.1)) (λ _. h))

in_turn-rising : (list : List Standing) → IsRisingBy standing_lt (in_turn list)
in_turn-rising [] = tt
in_turn-rising (s ∷ rest) = with_rising s (in_turn rest) (in_turn-rising rest)

-- a list without some of its elements
data PartOf : List Standing → List Standing → Type 0 where
  Empty : PartOf [] []
  With : (s : Standing) (part list : List Standing) → PartOf part list → PartOf (s ∷ part) (s ∷ list)
  Without : (s : Standing) (part list : List Standing) → PartOf part list → PartOf part (s ∷ list)

part-each : (P : Standing → Type 0) (part list : List Standing) → PartOf part list → AllByRecursion P list → AllByRecursion P part
part-each P part list Empty each = tt
part-each P part list (With s some rest h) each = (each.0, part-each P some rest h each.1)
part-each P part list (Without s some rest h) each = part-each P some rest h each.1

part-rising : (part list : List Standing) → PartOf part list → IsRisingBy standing_lt list → IsRisingBy standing_lt part
part-rising part list Empty rising = tt
part-rising part list (With s some rest h) rising = (part-each (λ z. standing_lt s z ≡ true) some rest h rising.0, part-rising some rest h rising.1)
part-rising part list (Without s some rest h) rising = part-rising some rest h rising.1

-- ---- changes

bools_same : (a b : Bool) → (a ≡ true → b ≡ true) → (b ≡ true → a ≡ true) → a ≡ b
bools_same true b h k = sym (h refl)
bools_same false true h k = k refl
bools_same false false h k = refl

-- what a list of changes opens
opens_in-opened_by : (x : TxnId) (changes : List Change) → opens_in x changes ≡ id_among x (opened_by changes)
opens_in-opened_by x [] = refl
opens_in-opened_by x (c ∷ changes) = by c.opens refl (opens_in-opened_by x changes)
  where
    by : (b : Bool) → c.opens ≡ b → opens_in x changes ≡ id_among x (opened_by changes)
        → ((id_eq c.id x && c.opens) || opens_in x changes) ≡ id_among x (cond c.opens (c.id ∷ opened_by changes) (opened_by changes))
    by true is rest =
        subst (λ b. ((id_eq c.id x && b) || opens_in x changes) ≡ id_among x (cond b (c.id ∷ opened_by changes) (opened_by changes))) (sym is)
        (ap (λ b. b || opens_in x changes) (and_true (id_eq c.id x)) ∙ ap (λ b. id_eq c.id x || b) rest)
      where
        and_true : (a : Bool) → (a && true) ≡ a
        and_true true = refl
        and_true false = refl
    by false is rest =
        subst (λ b. ((id_eq c.id x && b) || opens_in x changes) ≡ id_among x (cond b (c.id ∷ opened_by changes) (opened_by changes))) (sym is)
        (ap (λ b. b || opens_in x changes) (and_false (id_eq c.id x)) ∙ rest)
      where
        and_false : (a : Bool) → (a && false) ≡ false
        and_false true = refl
        and_false false = refl

applies_more : (y : TxnId) (done : List Change) (c : Change) → applies_in y done ≡ true → applies_in y (done ++ c ∷ []) ≡ true
applies_more y done c h = list_any-append (λ (c : Change). id_eq c.id y && c.applies) done (c ∷ []) ∙ or_left (applies_in y done) _ h

applies_last : (y : TxnId) (done : List Change) (c : Change) → id_eq c.id y ≡ true → c.applies ≡ true → applies_in y (done ++ c ∷ []) ≡ true
applies_last y done c same applies =
    list_any-append (λ (c : Change). id_eq c.id y && c.applies) done (c ∷ [])
    ∙ or_right (applies_in y done) _ (or_left (id_eq c.id y && c.applies) false (and_from (id_eq c.id y) c.applies same applies))

changed_by : (was ready outcome applied : Bool) → ((not was && ready) || (((was || ready) && outcome) && not applied)) ≡ true → (was || ready) ≡ true
changed_by true ready outcome applied h = refl
changed_by false true outcome applied h = refl
changed_by false false outcome applied h = h

not_true : (b : Bool) → not b ≡ true → b ≡ false
not_true true h = absurd (true≢false (sym h))
not_true false h = refl

filter_changes : (P : List Change → Type 0) (c : Change) (rest : List Change) → (is_change c ≡ true → P (c ∷ filter is_change rest))
    → (is_change c ≡ false → P (filter is_change rest)) → P (filter is_change (c ∷ rest))
filter_changes P c rest = cond_both (is_change c) (c ∷ filter is_change rest) (filter is_change rest) P

module _ (shard : ℕ) (step : Taken) (past : List Taken) where
  abbrev history : List Taken
  history = step ∷ past

  abbrev before : List TxnId
  before = opened_of shard past

  abbrev applied_before : List TxnId
  applied_before = applied_of shard past

  -- the turn of a stable transaction
  abbrev turn : List TxnId → Standing → Turn
  turn applied s =
      turn_of s.id (id_among s.id before) (id_among s.id applied_before) (is_ready shard history applied s.settled) (is_some (kept_outcome history s.id))

  abbrev passed : List TxnId → List Standing → List Change
  passed applied list = pass shard history before applied_before applied list

  -- ---- each is a change

  each_changes : (changes : List Change) → AllByRecursion (λ (c : Change). is_change c ≡ true) (filter is_change changes)
  each_changes [] = tt
  each_changes (c ∷ rest) =
      filter_changes (λ list. AllByRecursion (λ (d : Change). is_change d ≡ true) list) c rest (λ is. (is, each_changes rest)) (λ _. each_changes rest)

  -- ---- the order

  abbrev Ordered : List Change → List Standing → Type 0
  Ordered changes standings = map (λ (s : Standing). s.id) standings ≡ map (λ (c : Change). c.id) changes

  -- standings from a list
  record Chosen (list : List Standing) (changes : List Change) : Type 0 where
    pub standings : List Standing
    pub same : Ordered changes standings
    pub part : PartOf standings list

  chosen_some : (s : Standing) (rest : List Standing) (c : Change) (changes : List Change) → s.id ≡ c.id → Chosen rest changes → Chosen (s ∷ rest) (c ∷ changes)
  chosen_some s rest c changes same h =
      record {
        standings = s ∷ h.standings;
        same = ap (λ id. id ∷ map (λ (s : Standing). s.id) h.standings) same ∙ ap (λ ids. c.id ∷ ids) h.same;
        part = With s h.standings rest h.part;
      }

  chosen_none : (s : Standing) (rest : List Standing) (changes : List Change) → Chosen rest changes → Chosen (s ∷ rest) changes
  chosen_none s rest changes h = record { standings = h.standings; same = h.same; part = Without s h.standings rest h.part }

  chosen : (applied : List TxnId) (list : List Standing) → Chosen list (filter is_change (passed applied list))
  chosen applied [] = record { standings = []; same = refl; part = Empty }
  chosen applied (s ∷ rest) =
      let t : Turn = turn applied s in
      let h = chosen (with_applied t.is_applied s.id applied) rest in
      filter_changes (Chosen (s ∷ rest)) t.change (passed (with_applied t.is_applied s.id applied) rest)
      (λ _. chosen_some s rest t.change (filter is_change (passed (with_applied t.is_applied s.id applied) rest)) refl h)
      (λ _. chosen_none s rest (filter is_change (passed (with_applied t.is_applied s.id applied) rest)) h)

  abbrev all_standings : List Standing
  all_standings = in_turn (stable_ones history (known history))

  in_order : AreInOrder history (changes_of shard step past)
  in_order =
      let c = chosen [] all_standings in
      record {
        standings = c.standings;
        same = c.same;
        truly = part-each (λ (s : Standing). stable_of history s.id ≡ Some s.settled) c.standings all_standings c.part (turns-Truly history);
        rising = part-rising c.standings all_standings c.part (in_turn-rising (stable_ones history (known history)));
      }

  -- ---- when they are due

  abbrev Done : List Change → List TxnId → Type 0
  Done done applied = (y : TxnId) → id_among y applied ≡ true → AppliedBy shard past done y

  was_applied : (y : TxnId) → id_among y applied_before ≡ true → is_applied shard past y ≡ true
  was_applied y h = sym (applied_is shard past y) ∙ h

  due_ready : (done : List Change) (applied : List TxnId) (s : Standing) → Done done applied → stable_of history s.id ≡ Some s.settled
      → is_ready shard history applied s.settled ≡ true → IsDue shard step past done (turn applied s).change
  due_ready done applied s h stable ready =
      let at : (y : TxnId) → id_among y (of_shard s.settled.deps shard) ≡ true → is_past s.settled.t (id_among y applied) (stable_of history y) ≡ true =
      λ y k. all_at (λ y. is_past s.settled.t (id_among y applied) (stable_of history y)) (of_shard s.settled.deps shard) y ready k in
      record {
        settled = s.settled;
        settled_is = stable;
        stable = λ y k. past_is_stable shard history before s.settled.t (id_among y applied) (stable_of history y) (at y k);
        applied = λ y theirs k is first. h y (past_is_applied shard history before s.settled.t (id_among y applied) theirs (stable_of history y) is first (at y k));
      }

  due_opened : (done : List Change) (applied : List TxnId) (s : Standing) → stable_of history s.id ≡ Some s.settled
      → id_among s.id before ≡ true → IsDue shard step past done (turn applied s).change
  due_opened done applied s stable was =
      let held = opened_holds shard past s.id was in
      record {
        settled = held.settled;
        settled_is = stable_stays step past s.id held.settled held.settled_is;
        stable = λ y k. some_stays (stable_of past y) (settled_in y step.message) (held.stable y k);
        applied = λ y theirs k is first.
            inl (held.applied y theirs k (same_record step past y theirs (stable_of past y) refl (held.stable y k) is) first);
      }

  -- the transaction of a turn in which it is applied was applied before, or the turn's change applies it
  applied_in_turn : (applied : List TxnId) (s : Standing) → (turn applied s).is_applied ≡ true
      → (is_applied shard past s.id ≡ true) ⊎ ((turn applied s).change.applies ≡ true)
  applied_in_turn applied s is =
      ⊎_elim (λ was. inl (was_applied s.id was))
      (λ new. inr (and_from (turn applied s).is_applied (not (id_among s.id applied_before)) is (not_from_false (id_among s.id applied_before) new)))
      (cases_Bool (id_among s.id applied_before))

  done_more : (done : List Change) (c : Change) (y : TxnId) → AppliedBy shard past done y → AppliedBy shard past (done ++ c ∷ []) y
  done_more done c y h = ⊎_elim inl (λ applies. inr (applies_more y done c applies)) h

  -- what is applied by then, after a turn with a change
  done_changed : (done : List Change) (applied : List TxnId) (s : Standing) (b : Bool) → (turn applied s).is_applied ≡ b → Done done applied
      → Done (done ++ (turn applied s).change ∷ []) (with_applied b s.id applied)
  done_changed done applied s false is h y there = done_more done (turn applied s).change y (h y there)
  done_changed done applied s true is h y there =
      ⊎_elim
      (λ same.
      ⊎_elim (λ was. inl (subst (λ z. is_applied shard past z ≡ true) ((id_order.decides s.id y).0 same) was))
      (λ applies. inr (applies_last y done (turn applied s).change same applies))
      (applied_in_turn applied s is))
      (λ rest. done_more done (turn applied s).change y (h y rest))
      (or_cases (id_eq s.id y) (id_among y applied) there)

  -- and after one without
  done_unchanged : (done : List Change) (applied : List TxnId) (s : Standing) (b : Bool) → (turn applied s).is_applied ≡ b → is_change (turn applied s).change ≡ false
      → Done done applied → Done done (with_applied b s.id applied)
  done_unchanged done applied s false is none h y there = h y there
  done_unchanged done applied s true is none h y there =
      ⊎_elim
      (λ same.
      ⊎_elim (λ was. inl (subst (λ z. is_applied shard past z ≡ true) ((id_order.decides s.id y).0 same) was))
      (λ applies. absurd (true≢false (sym applies ∙ (or_parts (turn applied s).change.opens (turn applied s).change.applies none).1)))
      (applied_in_turn applied s is))
      (h y)
      (or_cases (id_eq s.id y) (id_among y applied) there)

  due_turn : (done : List Change) (applied : List TxnId) (s : Standing) → Done done applied → stable_of history s.id ≡ Some s.settled
      → is_change (turn applied s).change ≡ true → IsDue shard step past done (turn applied s).change
  due_turn done applied s h stable is =
      ⊎_elim (due_opened done applied s stable) (due_ready done applied s h stable)
      (or_cases (id_among s.id before) (is_ready shard history applied s.settled)
      (changed_by (id_among s.id before) (is_ready shard history applied s.settled) (is_some (kept_outcome history s.id)) (id_among s.id applied_before) is))

  each_due : (done : List Change) (applied : List TxnId) (list : List Standing) → Done done applied → Truly history list
      → EachDue shard step past done (filter is_change (passed applied list))
  each_due done applied [] h truly = tt
  each_due done applied (s ∷ rest) h truly =
      let t : Turn = turn applied s in
      filter_changes (EachDue shard step past done) t.change (passed (with_applied t.is_applied s.id applied) rest)
      (λ is. (
        due_turn done applied s h truly.0 is,
        each_due (done ++ t.change ∷ []) (with_applied t.is_applied s.id applied) rest (done_changed done applied s t.is_applied refl h) truly.1,
      ))
      (λ isnt. each_due done (with_applied t.is_applied s.id applied) rest (done_unchanged done applied s t.is_applied refl isnt h) truly.1)

  -- ---- what is opened

  opens_new : (x : TxnId) (applied : List TxnId) (list : List Standing) → opens_in x (filter is_change (passed applied list)) ≡ true → id_among x before ≡ false
  opens_new x applied [] = λ h. absurd (true≢false (sym h))
  opens_new x applied (s ∷ rest) =
      let t : Turn = turn applied s in
      filter_changes (λ list. opens_in x list ≡ true → id_among x before ≡ false) t.change (passed (with_applied t.is_applied s.id applied) rest)
      (λ _ h.
      ⊎_elim
      (λ here.
      let parts = and_parts (id_eq s.id x) t.change.opens here in
      not_true (id_among x before)
      (ap (λ y. not (id_among y before)) (sym ((id_order.decides s.id x).0 parts.0))
      ∙ (and_parts (not (id_among s.id before)) (is_ready shard history applied s.settled) parts.1).0))
      (opens_new x (with_applied t.is_applied s.id applied) rest)
      (or_cases (id_eq s.id x && t.change.opens) (opens_in x (filter is_change (passed (with_applied t.is_applied s.id applied) rest))) h))
      (λ _. opens_new x (with_applied t.is_applied s.id applied) rest)

  only_new : (opens was : Bool) → (opens ≡ true → was ≡ false) → opens ≡ ((opens || was) && not was)
  only_new true true h = absurd (true≢false (h refl))
  only_new true false h = refl
  only_new false true h = refl
  only_new false false h = refl

  opens_just : (x : TxnId) → opens_in x (changes_of shard step past) ≡ (is_opened shard history x && not (is_opened shard past x))
  opens_just x =
      let opens : Bool = opens_in x (changes_of shard step past) in
      only_new opens (id_among x before) (opens_new x [] all_standings)
      ∙ ap (λ b. (b || id_among x before) && not (id_among x before)) (opens_in-opened_by x (changes_of shard step past))
      ∙ ap (λ b. b && not (id_among x before)) (sym (is_among-append id_eq x (opened_by (changes_of shard step past)) before))

  -- ---- what is applied

  applies_sound : (x : TxnId) (applied : List TxnId) (list : List Standing) → AreApplied shard history before applied → Truly history list
      → applies_in x (filter is_change (passed applied list)) ≡ true
      → (Opened shard history before x × HasOutcome shard history before x) × (id_among x applied_before ≡ false)
  applies_sound x applied [] are truly = λ h. absurd (true≢false (sym h))
  applies_sound x applied (s ∷ rest) are truly =
      let t : Turn = turn applied s in
      let later = applies_sound x (with_applied t.is_applied s.id applied) rest
      (more_applied shard history before t.is_applied s.id applied (applied_now shard history before applied s are truly.0) are) truly.1 in
      filter_changes
      (λ list. applies_in x list ≡ true → (Opened shard history before x × HasOutcome shard history before x) × (id_among x applied_before ≡ false))
      t.change (passed (with_applied t.is_applied s.id applied) rest)
      (λ _ h.
      ⊎_elim
      (λ here.
      let parts = and_parts (id_eq s.id x) t.change.applies here in
      let more = and_parts t.is_applied (not (id_among s.id applied_before)) parts.1 in
      subst (λ y. (Opened shard history before y × HasOutcome shard history before y) × (id_among y applied_before ≡ false))
      ((id_order.decides s.id x).0 parts.0)
      (applied_now shard history before applied s are truly.0 more.0, not_true (id_among s.id applied_before) more.1))
      later
      (or_cases (id_eq s.id x && t.change.applies) (applies_in x (filter is_change (passed (with_applied t.is_applied s.id applied) rest))) h))
      (λ _. later)

  applies_here : (x : TxnId) (c : Change) (rest : List Change) → id_eq c.id x ≡ true → c.applies ≡ true → applies_in x (filter is_change (c ∷ rest)) ≡ true
  applies_here x c rest same applies =
      filter_changes (λ list. applies_in x list ≡ true) c rest
      (λ _. or_left (id_eq c.id x && c.applies) (applies_in x (filter is_change rest)) (and_from (id_eq c.id x) c.applies same applies))
      (λ isnt. absurd (true≢false (sym applies ∙ (or_parts c.opens c.applies isnt).1)))

  applies_there : (x : TxnId) (c : Change) (rest : List Change) → applies_in x (filter is_change rest) ≡ true → applies_in x (filter is_change (c ∷ rest)) ≡ true
  applies_there x c rest h =
      filter_changes (λ list. applies_in x list ≡ true) c rest (λ _. or_right (id_eq c.id x && c.applies) (applies_in x (filter is_change rest)) h) (λ _. h)

  applies_complete : (x : TxnId) (applied : List TxnId) (list : List Standing) → Sorted list → Truly history list → Covers shard history before applied list
      → stands x list ≡ true → Opened shard history before x → HasOutcome shard history before x → id_among x applied_before ≡ false
      → applies_in x (filter is_change (passed applied list)) ≡ true
  applies_complete x applied [] sorted truly covers h opened outcome new = absurd (true≢false (sym h))
  applies_complete x applied (s ∷ rest) sorted truly covers h opened outcome new =
      ⊎_elim
      (λ same.
      let is = sym ((id_order.decides s.id x).0 same) in
      applies_here x t.change (passed (with_applied t.is_applied s.id applied) rest) same
      (and_from t.is_applied (not (id_among s.id applied_before))
      (applies (subst (Opened shard history before) is opened) (subst (HasOutcome shard history before) is outcome))
      (not_from_false (id_among s.id applied_before) (ap (λ y. id_among y applied_before) (sym is) ∙ new))))
      (λ later.
      applies_there x t.change (passed (with_applied t.is_applied s.id applied) rest)
      (applies_complete x (with_applied t.is_applied s.id applied) rest sorted.1 truly.1
      (covers_next shard history before t.is_applied applied s rest covers applies) later opened outcome new))
      (or_cases (id_eq s.id x) (stands x rest) h)
    where
      t : Turn
      t = turn applied s

      applies : Opened shard history before s.id → HasOutcome shard history before s.id → (turn applied s).is_applied ≡ true
      applies is has =
          and_from (id_among s.id before || is_ready shard history applied s.settled) (is_some (kept_outcome history s.id))
          (or_of shard history before (id_among s.id before) (is_ready shard history applied s.settled)
          (ready_by shard history before applied s rest sorted truly covers is)) has

  applied_then : (x : TxnId) → applies_in x (changes_of shard step past) ≡ true → (is_applied shard history x && not (is_applied shard past x)) ≡ true
  applied_then x h =
      let parts = applies_sound x [] all_standings tt (turns-Truly history) h in
      and_from (is_applied shard history x) (not (is_applied shard past x))
      (and_from (is_opened shard history x) (is_some (kept_outcome history x)) (opened_of-complete shard step past x parts.0.0) parts.0.1)
      (not_from_false (is_applied shard past x) (sym (applied_is shard past x) ∙ parts.1))

  applied_new : (x : TxnId) → (is_applied shard history x && not (is_applied shard past x)) ≡ true → applies_in x (changes_of shard step past) ≡ true
  applied_new x h =
      let parts = and_parts (is_applied shard history x) (not (is_applied shard past x)) h in
      let now = and_parts (is_opened shard history x) (is_some (kept_outcome history x)) parts.0 in
      let held = opened_holds shard history x now.0 in
      applies_complete x [] all_standings (in_turn-Sorted (stable_ones history (known history))) (turns-Truly history)
      (λ y theirs is opened has. inr (turns-stands history y theirs is))
      (turns-stands history x held.settled held.settled_is) (opened_of-sound shard step past x now.0) now.1
      (applied_is shard past x ∙ not_true (is_applied shard past x) parts.1)

  pub opens_in_order : OpensInOrder shard step past
  opens_in_order =
      record {
        opened = opens_just;
        applied = λ x. bools_same (applies_in x (changes_of shard step past)) (is_applied shard history x && not (is_applied shard past x)) (applied_then x) (applied_new x);
        each = each_changes (passed [] all_standings);
        order = in_order;
        due = each_due [] [] all_standings (λ y there. absurd (true≢false (sym there))) (turns-Truly history);
      }
