-- A plan is what the rules open and apply.
use Rattle.std.proofs.Common.{◌≡◌, ℕ, Bool, true, false, not, ◌&&◌, ◌||◌, List, [], ◌∷◌, ◌++◌, Option, None, Some, is_some, map, refl, sym, ◌∙◌, ap, subst, ◌⊎◌, inl, inr, ⊎_elim}
use Rattle.std.specs.List.{AllByRecursion, list_any, list_all}
use Rattle.std.proofs.lemmas.Bool.{true≢false, or_left, or_right, or_cases, and_parts, and_from, not_from_false, cases_Bool}
use Rattle.std.proofs.lemmas.List.Folds.{list_any-append}
use Rattle.acc_stamp.specs.declared.stamps.Stamp.{Stamp}
use Rattle.acc_stamp.specs.declared.stamps.TxnId.{TxnId}
use Rattle.acc_stamp.specs.Stamp.{id_eq}
use Rattle.acc_stamp.specs.Rising.{IsRisingBy, id_among}
use Rattle.acc_stamp.proofs.Order.{id_order}
use Rattle.acc_deps.specs.Deps.{of_shard}
use Rattle.acc_deps.specs.declared.records.Settled.{Settled}
use Rattle.acc_message.specs.Taken.{Taken}
use Rattle.acc_base.specs.Faults.{or_else}
use Rattle.acc_message.specs.BallotRules.{stable_of, kept_outcome, outcome_in as outcome_of_message}
use Rattle.acc_message.specs.Opening.{IsOpened, Stays, Opens, comes_first, is_past, Standing, standing_lt, Change, changes_of, opened_of, is_opened, is_applied}
use Rattle.acc_actor_laws.specs.OpeningOrder.{opens_in, applies_in}
use Rattle.acc_actor_laws.proofs.Standing.{not_none}
use Rattle.acc_actor_laws.proofs.OpeningFacts.{all_at, past_is_stable, past_is_applied, opened_of-sound, opened_of-complete}
use Rattle.acc_actor_laws.proofs.OpeningOrder.{opens_in_order}
use Rattle.acc_record.specs.declared.record.Record.{Record}
use Rattle.acc_opening.specs.Plan.{Lookup, settled_in, outcome_in, is_opened_in, is_applied_in, is_applied_behind, is_past_behind, is_ready_behind, IsRight, EachRight, t_of, change_lt, IsPlan, IsTaking}
use Rattle.acc_opening.proofs.TurnOrder.{comes_before, bools_same, EachChanges, same_changes}

-- ---- tests of all elements, and of options

all_from : (test : TxnId → Bool) (xs : List TxnId) → ((y : TxnId) → id_among y xs ≡ true → test y ≡ true) → list_all test xs ≡ true
all_from test [] h = refl
all_from test (x ∷ xs) h =
    and_from (test x) (list_all test xs) (h x (or_left (id_eq x x) _ ((id_order.decides x x).1 refl)))
    (all_from test xs (λ y k. h y (or_right (id_eq x y) _ k)))

past_from : (t : Stamp) (b : Bool) (o : Option Settled) → is_some o ≡ true → ((s : Settled) → o ≡ Some s → comes_first t s ≡ true → b ≡ true) → is_past t b o ≡ true
past_from t b None stable h = stable
past_from t b (Some s) stable h =
    ⊎_elim (λ first. or_right (not (comes_first t s)) b (h s refl first)) (λ late. or_left (not (comes_first t s)) b (not_from_false (comes_first t s) late))
    (cases_Bool (comes_first t s))

some_stays : {T : Type 0} (o other : Option T) → is_some o ≡ true → is_some (or_else o other) ≡ true
some_stays None other h = absurd (true≢false (sym h))
some_stays (Some x) other h = refl

not_true : (b : Bool) → not b ≡ true → b ≡ false
not_true true h = absurd (true≢false (sym h))
not_true false h = refl

-- a transaction with a stable record has a record
record Stable (o : Option Record) (s : Settled) : Type 0 where
  pub there : Record
  pub is : o ≡ Some there
  pub stable : there.stable ≡ Some s

stable_there : (o : Option Record) (s : Settled) → settled_in o ≡ Some s → Stable o s
stable_there None s e = absurd (not_none s e)
stable_there (Some r) s e = record { there = r; is = refl; stable = e }

module _ (shard : ℕ) (step : Taken) (past : List Taken) (at : Lookup) (taking : IsTaking shard step past at) where
  abbrev history : List Taken
  history = step ∷ past

  abbrev Opened : TxnId → Type 0
  Opened x = IsOpened shard history (opened_of shard past) x

  abbrev HasOutcome : TxnId → Type 0
  HasOutcome x = is_some (kept_outcome history x) ≡ true

  -- ---- what the records say

  was_opened : (x : TxnId) (r : Record) → at x ≡ Some r → is_opened shard past x ≡ r.opened
  was_opened x r is = sym (taking.opened x) ∙ ap is_opened_in is

  was_applied : (x : TxnId) (r : Record) → at x ≡ Some r → is_applied shard past x ≡ r.applied
  was_applied x r is = sym (taking.applied x) ∙ ap is_applied_in is

  has_outcome : (x : TxnId) (r : Record) → at x ≡ Some r → is_some (kept_outcome history x) ≡ is_some r.outcome
  has_outcome x r is = ap is_some (sym (taking.outcome x) ∙ ap outcome_in is)

  is_stable : (x : TxnId) (r : Record) → at x ≡ Some r → stable_of history x ≡ r.stable
  is_stable x r is = sym (taking.stable x) ∙ ap settled_in is

  -- what was applied is opened, with an outcome
  applied_is_done : (y : TxnId) → is_applied shard past y ≡ true → Opened y × HasOutcome y
  applied_is_done y h =
      let parts = and_parts (is_opened shard past y) (is_some (kept_outcome past y)) h in
      (Stays y parts.0, some_stays (kept_outcome past y) (outcome_of_message y step.message) parts.1)

  -- ---- what a plan opens is opened, and what it applies is applied

  abbrev AreDone : List Change → Type 0
  AreDone done = (y : TxnId) → applies_in y done ≡ true → Opened y × HasOutcome y

  behind_is_done : (done : List Change) → AreDone done → (y : TxnId) → is_applied_behind at done y ≡ true → Opened y × HasOutcome y
  behind_is_done done are y h =
      ⊎_elim (λ was. applied_is_done y (sym (taking.applied y) ∙ was)) (are y) (or_cases (is_applied_in (at y)) (applies_in y done) h)

  ready_opens : (done : List Change) (x : TxnId) (s : Settled) → AreDone done → stable_of history x ≡ Some s → is_ready_behind shard at done s ≡ true → Opened x
  ready_opens done x s are stable ready =
      Opens x s stable
      (λ y there. ap is_some (sym (taking.stable y)) ∙ past_is_stable shard history (opened_of shard past) s.t (is_applied_behind at done y) (settled_in (at y)) (past_at y there))
      (λ y theirs there is first. (behind_is_done done are y (applied_at y theirs there is first)).1)
      (λ y theirs there is first. (behind_is_done done are y (applied_at y theirs there is first)).0)
    where
      past_at : (y : TxnId) → id_among y (of_shard s.deps shard) ≡ true → is_past_behind at done s.t y ≡ true
      past_at y there = all_at (is_past_behind at done s.t) (of_shard s.deps shard) y ready there

      applied_at : (y : TxnId) (theirs : Settled) → id_among y (of_shard s.deps shard) ≡ true → stable_of history y ≡ Some theirs → comes_first s.t theirs ≡ true
          → is_applied_behind at done y ≡ true
      applied_at y theirs there is first =
          past_is_applied shard history (opened_of shard past) s.t (is_applied_behind at done y) theirs (settled_in (at y)) (taking.stable y ∙ is) first (past_at y there)

  right_opened : (done : List Change) (c : Change) → AreDone done → IsRight shard at done c → Opened c.id
  right_opened done c are right =
      ⊎_elim
      (λ opens. ready_opens done c.id right.settled are (is_stable c.id right.there right.there_is ∙ right.stable) (right.ready opens))
      (λ doesnt. Stays c.id (was_opened c.id right.there right.there_is ∙ not_from_not right.there.opened (sym right.opens ∙ doesnt)))
      (cases_Bool c.opens)
    where
      not_from_not : (b : Bool) → not b ≡ false → b ≡ true
      not_from_not true h = refl
      not_from_not false h = absurd (true≢false h)

  right_has_outcome : (done : List Change) (c : Change) → IsRight shard at done c → c.applies ≡ true → HasOutcome c.id
  right_has_outcome done c right applies =
      has_outcome c.id right.there right.there_is ∙ (and_parts (is_some right.there.outcome) (not right.there.applied) (sym right.applies ∙ applies)).0

  done_next : (done : List Change) (c : Change) → AreDone done → IsRight shard at done c → AreDone (done ++ c ∷ [])
  done_next done c are right y h =
      ⊎_elim (are y)
      (λ last. ⊎_elim here (λ none. absurd (true≢false (sym none))) (or_cases (id_eq c.id y && c.applies) false last))
      (or_cases (applies_in y done) (applies_in y (c ∷ [])) (sym (list_any-append (λ (c : Change). id_eq c.id y && c.applies) done (c ∷ [])) ∙ h))
    where
      here : (id_eq c.id y && c.applies) ≡ true → Opened y × HasOutcome y
      here both =
          let parts = and_parts (id_eq c.id y) c.applies both in
          subst (λ z. Opened z × HasOutcome z) ((id_order.decides c.id y).0 parts.0) (right_opened done c are right, right_has_outcome done c right parts.1)

  -- ---- a change of a plan

  -- what is known of a change, wherever it stands
  record Placed (c : Change) : Type 0 where
    pub there : Record
    pub there_is : at c.id ≡ Some there
    pub opens : c.opens ≡ not there.opened
    pub applies : c.applies ≡ (is_some there.outcome && not there.applied)
    pub opened : Opened c.id

  -- the change of x in a list that passes a test
  record Found (test : Change → Bool) (x : TxnId) (list : List Change) : Type 0 where
    pub change : Change
    pub placed : Placed change
    pub same : change.id ≡ x
    pub passes : test change ≡ true
    pub among : (p : Change → Bool) → p change ≡ true → list_any p list ≡ true

  found_later : (test : Change → Bool) (x : TxnId) (c : Change) (rest : List Change) → Found test x rest → Found test x (c ∷ rest)
  found_later test x c rest f =
      record { change = f.change; placed = f.placed; same = f.same; passes = f.passes; among = λ p h. or_right (p c) _ (f.among p h) }

  found : (test : Change → Bool) (done rest : List Change) (x : TxnId) → AreDone done → EachRight shard at done rest
      → list_any (λ (c : Change). id_eq c.id x && test c) rest ≡ true → Found test x rest
  found test done [] x are each h = absurd (true≢false (sym h))
  found test done (c ∷ rest) x are each h =
      ⊎_elim
      (λ here.
      let parts = and_parts (id_eq c.id x) (test c) here in
      record {
        change = c;
        placed = record { there = each.0.there; there_is = each.0.there_is; opens = each.0.opens; applies = each.0.applies; opened = right_opened done c are each.0 };
        same = (id_order.decides c.id x).0 parts.0;
        passes = parts.1;
        among = λ p h. or_left (p c) (list_any p rest) h;
      })
      (λ later. found_later test x c rest (found test (done ++ c ∷ []) rest x (done_next done c are each.0) each.1 later))
      (or_cases (id_eq c.id x && test c) (list_any (λ (c : Change). id_eq c.id x && test c) rest) h)

  each_changes : (done rest : List Change) → EachRight shard at done rest → EachChanges at rest
  each_changes done [] each = tt
  each_changes done (c ∷ rest) each = (each.0.changes, each_changes (done ++ c ∷ []) rest each.1)

  nothing_done : AreDone []
  nothing_done y h = absurd (true≢false (sym h))

  module _ (changes : List Change) (plan : IsPlan shard at changes) where
    opening_change : (x : TxnId) → opens_in x changes ≡ true → Found (λ (c : Change). c.opens) x changes
    opening_change x h = found (λ (c : Change). c.opens) [] changes x nothing_done plan.each h

    applying_change : (x : TxnId) → applies_in x changes ≡ true → Found (λ (c : Change). c.applies) x changes
    applying_change x h = found (λ (c : Change). c.applies) [] changes x nothing_done plan.each h

    -- ---- opened

    opens_new : (x : TxnId) → opens_in x changes ≡ true → (is_opened shard history x && not (is_opened shard past x)) ≡ true
    opens_new x h =
        let f = opening_change x h in
        subst (λ z. (is_opened shard history z && not (is_opened shard past z)) ≡ true) f.same
        (and_from (is_opened shard history f.change.id) (not (is_opened shard past f.change.id))
        (opened_of-complete shard step past f.change.id f.placed.opened)
        (ap not (was_opened f.change.id f.placed.there f.placed.there_is) ∙ sym f.placed.opens ∙ f.passes))

    -- what is opened by now and has an outcome is applied after the plan
    applied_if_opened : (y : TxnId) (o : Option Record) → at y ≡ o → is_opened_in o ≡ true → is_some (outcome_in o) ≡ true
        → (is_applied_in o || applies_in y changes) ≡ true
    applied_if_opened y None is opened has = absurd (true≢false (sym opened))
    applied_if_opened y (Some r) is opened has =
        ⊎_elim (λ was. or_left r.applied _ was) (λ wasnt. or_right r.applied _ (plan.applied y r is opened has wasnt)) (cases_Bool r.applied)

    applied_by_change : (x : TxnId) (test : Change → Bool) (f : Found test x changes) → is_some f.placed.there.outcome ≡ true
        → (f.placed.there.applied || applies_in f.change.id changes) ≡ true
    applied_by_change x test f has =
        ⊎_elim (λ was. or_left f.placed.there.applied _ was)
        (λ wasnt. or_right f.placed.there.applied _
        (f.among (λ (c : Change). id_eq c.id f.change.id && c.applies)
        (and_from (id_eq f.change.id f.change.id) f.change.applies ((id_order.decides f.change.id f.change.id).1 refl)
        (f.placed.applies ∙ and_from (is_some f.placed.there.outcome) (not f.placed.there.applied) has (not_from_false f.placed.there.applied wasnt)))))
        (cases_Bool f.placed.there.applied)

    applied_if_opening : (y : TxnId) → HasOutcome y → Found (λ (c : Change). c.opens) y changes → is_applied_behind at changes y ≡ true
    applied_if_opening y has f =
        subst (λ z. is_applied_behind at changes z ≡ true) f.same
        (ap (λ o. is_applied_in o || applies_in f.change.id changes) f.placed.there_is
        ∙ applied_by_change y (λ (c : Change). c.opens) f
        (sym (has_outcome f.change.id f.placed.there f.placed.there_is) ∙ subst (λ z. is_some (kept_outcome history z) ≡ true) (sym f.same) has))

    abbrev OpenedByNow : TxnId → Type 0
    OpenedByNow x = (is_opened shard past x ≡ true) ⊎ (opens_in x changes ≡ true)

    applied_by_now : (y : TxnId) → OpenedByNow y → HasOutcome y → is_applied_behind at changes y ≡ true
    applied_by_now y opened has =
        ⊎_elim (λ was. applied_if_opened y (at y) refl (taking.opened y ∙ was) (ap is_some (taking.outcome y) ∙ has))
        (λ now. applied_if_opening y has (opening_change y now)) opened

    opened_now : (x : TxnId) (r : Record) (s : Settled) → at x ≡ Some r → r.stable ≡ Some s → is_ready_behind shard at changes s ≡ true → OpenedByNow x
    opened_now x r s is stable ready =
        ⊎_elim (λ was. inl (was_opened x r is ∙ was))
        (λ wasnt. ⊎_elim inr (λ doesnt. absurd (true≢false (sym ready ∙ plan.opened x r s is stable wasnt doesnt))) (cases_Bool (opens_in x changes)))
        (cases_Bool r.opened)

    opened_by_plan : (x : TxnId) → Opened x → OpenedByNow x
    opened_by_plan _ (Stays x was) = inl was
    opened_by_plan _ (Opens x s is stable outcome opened) =
        let found = stable_there (at x) s (taking.stable x ∙ is) in
        opened_now x found.there s found.is found.stable
        (all_from (is_past_behind at changes s.t) (of_shard s.deps shard)
        (λ y there. past_from s.t (is_applied_behind at changes y) (settled_in (at y)) (ap is_some (taking.stable y) ∙ stable y there)
        (λ theirs e first.
        let known = sym (taking.stable y) ∙ e in
        applied_by_now y (opened_by_plan y (opened y theirs there known first)) (outcome y theirs there known first))))

    opens_all : (x : TxnId) → (is_opened shard history x && not (is_opened shard past x)) ≡ true → opens_in x changes ≡ true
    opens_all x h =
        let parts = and_parts (is_opened shard history x) (not (is_opened shard past x)) h in
        ⊎_elim (λ was. absurd (true≢false (sym was ∙ not_true (is_opened shard past x) parts.1))) (λ now. now)
        (opened_by_plan x (opened_of-sound shard step past x parts.0))

    -- ---- applied

    applies_new : (x : TxnId) → applies_in x changes ≡ true → (is_applied shard history x && not (is_applied shard past x)) ≡ true
    applies_new x h =
        let f = applying_change x h in
        let parts = and_parts (is_some f.placed.there.outcome) (not f.placed.there.applied) (sym f.placed.applies ∙ f.passes) in
        subst (λ z. (is_applied shard history z && not (is_applied shard past z)) ≡ true) f.same
        (and_from (is_applied shard history f.change.id) (not (is_applied shard past f.change.id))
        (and_from (is_opened shard history f.change.id) (is_some (kept_outcome history f.change.id))
        (opened_of-complete shard step past f.change.id f.placed.opened)
        (has_outcome f.change.id f.placed.there f.placed.there_is ∙ parts.0))
        (ap not (was_applied f.change.id f.placed.there f.placed.there_is) ∙ parts.1))

    applies_all : (x : TxnId) → (is_applied shard history x && not (is_applied shard past x)) ≡ true → applies_in x changes ≡ true
    applies_all x h =
        let parts = and_parts (is_applied shard history x) (not (is_applied shard past x)) h in
        let now = and_parts (is_opened shard history x) (is_some (kept_outcome history x)) parts.0 in
        ⊎_elim (λ was. absurd (true≢false (sym was ∙ taking.applied x ∙ not_true (is_applied shard past x) parts.1))) (λ by. by)
        (or_cases (is_applied_in (at x)) (applies_in x changes)
        (applied_by_now x (opened_by_plan x (opened_of-sound shard step past x now.0)) now.1))

  -- ---- the order of the rules

  record Same (changes : List Change) (standings : List Standing) : Type 0 where
    pub ids : map (λ (s : Standing). s.id) standings ≡ map (λ (c : Change). c.id) changes
    pub truly : AllByRecursion (λ (s : Standing). stable_of history s.id ≡ Some s.settled) standings

  cons_head : (x y : TxnId) (xs ys : List TxnId) → x ∷ xs ≡ y ∷ ys → x ≡ y
  cons_head x y xs ys e = cc

  cons_tail : (x y : TxnId) (xs ys : List TxnId) → x ∷ xs ≡ y ∷ ys → xs ≡ ys
  cons_tail x y xs ys e = cc

  nil_cons : (x : TxnId) (xs : List TxnId) → [] ≡ x ∷ xs → ⊥
  nil_cons x xs e = cc

  t_is : (c : Change) (s : Standing) → s.id ≡ c.id → stable_of history s.id ≡ Some s.settled → t_of (settled_in (at c.id)) ≡ s.settled.t
  t_is c s same stable = ap t_of (taking.stable c.id ∙ ap (stable_of history) (sym same) ∙ stable)

  change_below : (c d : Change) (s u : Standing) → s.id ≡ c.id → u.id ≡ d.id → stable_of history s.id ≡ Some s.settled → stable_of history u.id ≡ Some u.settled
      → standing_lt s u ≡ true → change_lt at c d ≡ true
  change_below c d s u same same' stable stable' h =
      ap (λ t. comes_before t c.id (t_of (settled_in (at d.id))) d.id) (t_is c s same stable)
      ∙ ap (λ t. comes_before s.settled.t c.id t d.id) (t_is d u same' stable')
      ∙ ap (λ x. comes_before s.settled.t x u.settled.t d.id) (sym same) ∙ ap (λ x. comes_before s.settled.t s.id u.settled.t x) (sym same') ∙ h

  changes_below : (c : Change) (s : Standing) (changes : List Change) (standings : List Standing) → s.id ≡ c.id → stable_of history s.id ≡ Some s.settled
      → Same changes standings → AllByRecursion (λ u. standing_lt s u ≡ true) standings → AllByRecursion (λ d. change_lt at c d ≡ true) changes
  changes_below c s [] standings same stable are below = tt
  changes_below c s (d ∷ changes) [] same stable are below = absurd (nil_cons d.id (map (λ (c : Change). c.id) changes) are.ids)
  changes_below c s (d ∷ changes) (u ∷ standings) same stable are below = (
    change_below c d s u same (cons_head u.id d.id (map (λ (s : Standing). s.id) standings) (map (λ (c : Change). c.id) changes) are.ids) stable are.truly.0 below.0,
    changes_below c s changes standings same stable
        (record { ids = cons_tail u.id d.id (map (λ (s : Standing). s.id) standings) (map (λ (c : Change). c.id) changes) are.ids; truly = are.truly.1 }) below.1,
  )

  changes_rise : (changes : List Change) (standings : List Standing) → Same changes standings → IsRisingBy standing_lt standings → IsRisingBy (change_lt at) changes
  changes_rise [] standings are rising = tt
  changes_rise (c ∷ changes) [] are rising = absurd (nil_cons c.id (map (λ (c : Change). c.id) changes) are.ids)
  changes_rise (c ∷ changes) (s ∷ standings) are rising =
      let rest : Same changes standings =
      record { ids = cons_tail s.id c.id (map (λ (s : Standing). s.id) standings) (map (λ (c : Change). c.id) changes) are.ids; truly = are.truly.1 } in (
        changes_below c s changes standings (cons_head s.id c.id (map (λ (s : Standing). s.id) standings) (map (λ (c : Change). c.id) changes) are.ids) are.truly.0 rest rising.0,
        changes_rise changes standings rest rising.1,
      )

  -- ---- the law

  pub plan_is : (changes : List Change) → IsPlan shard at changes → changes ≡ changes_of shard step past
  plan_is changes plan =
      let rules = opens_in_order shard step past in
      same_changes at changes (changes_of shard step past)
      (record {
        opens = λ x.
            bools_same (opens_in x changes) (is_opened shard history x && not (is_opened shard past x)) (opens_new changes plan x) (opens_all changes plan x)
            ∙ sym (rules.opened x);
        applies = λ x.
            bools_same (applies_in x changes) (is_applied shard history x && not (is_applied shard past x)) (applies_new changes plan x) (applies_all changes plan x)
            ∙ sym (rules.applied x);
      })
      plan.rising
      (changes_rise (changes_of shard step past) rules.order.standings (record { ids = rules.order.same; truly = rules.order.truly }) rules.order.rising)
      (each_changes [] changes plan.each)
      rules.each
