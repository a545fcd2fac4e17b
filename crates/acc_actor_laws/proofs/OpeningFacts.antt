-- One pass over the stable transactions opens just the least set.
use Rattle.std.proofs.Common.{◌≡◌, ℕ, Bool, true, false, not, ◌&&◌, ◌||◌, cond, List, [], ◌∷◌, Option, None, Some, is_some, filter, refl, sym, ◌∙◌, ap, subst, ◌⊎◌, inl, inr, ⊎_elim}
use Rattle.std.specs.List.{AllByRecursion, list_all}
use Rattle.std.proofs.lemmas.Bool.{true≢false, or_left, or_right, or_cases, and_parts, and_from, not_from_false, cond_both, cases_Bool}
use Rattle.acc_stamp.specs.declared.stamps.Stamp.{Stamp}
use Rattle.acc_stamp.specs.declared.stamps.TxnId.{TxnId}
use Rattle.acc_stamp.specs.Stamp.{id_eq, stamp_lt}
use Rattle.acc_stamp.specs.Rising.{id_among}
use Rattle.acc_stamp.proofs.Order.{stamp_order, id_order}
use Rattle.acc_stamp.proofs.Rising.{each_at, is_among-append}
use Rattle.acc_deps.specs.Deps.{of_shard}
use Rattle.acc_deps.specs.declared.records.Settled.{Settled}
use Rattle.acc_message.specs.Taken.{Taken, known}
use Rattle.acc_message.specs.BallotRules.{stable_of, kept_outcome}
use Rattle.acc_message.specs.Opening.{IsOpened, Stays, Opens, comes_first, Standing, stable_ones, in_turn, is_past, is_ready, Change, Turn, turn_of, with_applied, pass, is_change, changes_from, opened_by, with_outcome, opened_of}
use Rattle.acc_actor_laws.proofs.Standing.{not_none, stands, Truly, Sorted, in_turn-Sorted, turns-stands, turns-Truly}

-- ---- tests of all elements

pub all_at : (test : TxnId → Bool) (xs : List TxnId) (y : TxnId) → list_all test xs ≡ true → id_among y xs ≡ true → test y ≡ true
all_at test [] y h k = absurd (true≢false (sym k))
all_at test (x ∷ xs) y h k =
    let parts = and_parts (test x) (list_all test xs) h in
    ⊎_elim (λ same. subst (λ z. test z ≡ true) ((id_order.decides x y).0 same) parts.0) (all_at test xs y parts.1)
    (or_cases (id_eq x y) (id_among y xs) k)

all_from : (test : TxnId → Bool) (xs : List TxnId) → ((y : TxnId) → id_among y xs ≡ true → test y ≡ true) → list_all test xs ≡ true
all_from test [] h = refl
all_from test (x ∷ xs) h =
    and_from (test x) (list_all test xs) (h x (or_left (id_eq x x) _ ((id_order.decides x x).1 refl)))
    (all_from test xs (λ y k. h y (or_right (id_eq x y) _ k)))

pub some_is : {T : Type 0} (x y : T) → Some x ≡ Some y → x ≡ y
some_is x y e = cc

module _ (shard : ℕ) (history : List Taken) (before : List TxnId) where
  abbrev pub Opened : TxnId → Type 0
  Opened x = IsOpened shard history before x

  abbrev pub HasOutcome : TxnId → Type 0
  HasOutcome x = is_some (kept_outcome history x) ≡ true

  -- ---- readiness

  pub past_is_stable : (t : Stamp) (b : Bool) (o : Option Settled) → is_past t b o ≡ true → is_some o ≡ true
  past_is_stable t b None h = h
  past_is_stable t b (Some s) h = refl

  pub past_is_applied : (t : Stamp) (b : Bool) (s : Settled) (o : Option Settled) → o ≡ Some s → comes_first t s ≡ true → is_past t b o ≡ true → b ≡ true
  past_is_applied t b s None e first h = absurd (not_none s e)
  past_is_applied t b s (Some u) e first h =
      ⊎_elim (λ late. absurd (true≢false (sym late ∙ ap not (ap (λ (v : Settled). comes_first t v) (some_is u s e) ∙ first)))) (λ is. is)
      (or_cases (not (comes_first t u)) b h)

  past_from : (t : Stamp) (b : Bool) (o : Option Settled) → is_some o ≡ true
      → ((s : Settled) → o ≡ Some s → comes_first t s ≡ true → b ≡ true) → is_past t b o ≡ true
  past_from t b None stable h = stable
  past_from t b (Some s) stable h =
      ⊎_elim (λ first. or_right (not (comes_first t s)) b (h s refl first)) (λ late. or_left (not (comes_first t s)) b (not_from_false (comes_first t s) late))
      (cases_Bool (comes_first t s))

  -- ---- soundness

  abbrev pub AreApplied : List TxnId → Type 0
  AreApplied ids = AllByRecursion (λ y. Opened y × HasOutcome y) ids

  pub ready-Opened : (applied : List TxnId) (x : TxnId) (mine : Settled) → AreApplied applied → stable_of history x ≡ Some mine
      → is_ready shard history applied mine ≡ true → Opened x
  ready-Opened applied x mine are stable ready =
      Opens x mine stable
      (λ y k. past_is_stable mine.t (id_among y applied) (stable_of history y) (at y k))
      (λ y theirs k e first. (each_at id_order (λ y. Opened y × HasOutcome y) y applied are (is y theirs k e first)).1)
      (λ y theirs k e first. (each_at id_order (λ y. Opened y × HasOutcome y) y applied are (is y theirs k e first)).0)
    where
      at : (y : TxnId) → id_among y (of_shard mine.deps shard) ≡ true → is_past mine.t (id_among y applied) (stable_of history y) ≡ true
      at y k = all_at (λ y. is_past mine.t (id_among y applied) (stable_of history y)) (of_shard mine.deps shard) y ready k

      is : (y : TxnId) (theirs : Settled) → id_among y (of_shard mine.deps shard) ≡ true → stable_of history y ≡ Some theirs
          → comes_first mine.t theirs ≡ true → id_among y applied ≡ true
      is y theirs k e first = past_is_applied mine.t (id_among y applied) theirs (stable_of history y) e first (at y k)

  pub opens-Opened : (applied : List TxnId) (x : TxnId) (mine : Settled) → AreApplied applied → stable_of history x ≡ Some mine
      → (id_among x before || is_ready shard history applied mine) ≡ true → Opened x
  opens-Opened applied x mine are stable h =
      ⊎_elim (Stays x) (ready-Opened applied x mine are stable) (or_cases (id_among x before) (is_ready shard history applied mine) h)

  pub more_applied : (b : Bool) (x : TxnId) (applied : List TxnId) → (b ≡ true → Opened x × HasOutcome x) → AreApplied applied → AreApplied (with_applied b x applied)
  more_applied true x applied h are = (h refl, are)
  more_applied false x applied h are = are

  pub applied_now : (applied : List TxnId) (s : Standing) → AreApplied applied → stable_of history s.id ≡ Some s.settled
      → ((id_among s.id before || is_ready shard history applied s.settled) && is_some (kept_outcome history s.id)) ≡ true
      → Opened s.id × HasOutcome s.id
  applied_now applied s are stable h =
      let parts = and_parts (id_among s.id before || is_ready shard history applied s.settled) (is_some (kept_outcome history s.id)) h in
      (opens-Opened applied s.id s.settled are stable parts.0, parts.1)

  abbrev OpensTruly : List Change → Type 0
  OpensTruly changes = AllByRecursion (λ (c : Change). c.opens ≡ true → Opened c.id) changes

  pass-sound : (applied_before applied : List TxnId) (list : List Standing) → AreApplied applied → Truly history list
      → OpensTruly (pass shard history before applied_before applied list)
  pass-sound applied_before applied [] are truly = tt
  pass-sound applied_before applied (s ∷ rest) are truly = (
    (λ opens. opens-Opened applied s.id s.settled are truly.0
        (or_right (id_among s.id before) _ (and_parts (not (id_among s.id before)) (is_ready shard history applied s.settled) opens).1)),
    pass-sound applied_before (with_applied _ s.id applied) rest
        (more_applied _ s.id applied (applied_now applied s are truly.0) are) truly.1,
  )

  opened_one : (x : TxnId) (c : Change) (rest : List TxnId) → (c.opens ≡ true → Opened c.id) → (id_among x rest ≡ true → Opened x)
      → id_among x (cond c.opens (c.id ∷ rest) rest) ≡ true → Opened x
  opened_one x c rest truly later =
      cond_both c.opens (c.id ∷ rest) rest (λ list. id_among x list ≡ true → Opened x)
      (λ opens h. ⊎_elim (λ same. subst Opened ((id_order.decides c.id x).0 same) (truly opens)) later (or_cases (id_eq c.id x) (id_among x rest) h))
      (λ _ h. later h)

  opened_by-sound : (x : TxnId) (changes : List Change) → OpensTruly changes → id_among x (opened_by (filter is_change changes)) ≡ true → Opened x
  opened_by-sound x [] truly = λ h. absurd (true≢false (sym h))
  opened_by-sound x (c ∷ changes) truly =
      let later : id_among x (opened_by (filter is_change changes)) ≡ true → Opened x = opened_by-sound x changes truly.1 in
      cond_both (is_change c) (c ∷ filter is_change changes) (filter is_change changes) (λ list. id_among x (opened_by list) ≡ true → Opened x)
      (λ _. opened_one x c (opened_by (filter is_change changes)) truly.0 later)
      (λ _. later)

  -- ---- completeness

  -- of those that stand from here on, none has a smaller timestamp than the first
  not_earlier : (s : Standing) (rest : List Standing) → Sorted (s ∷ rest) → Truly history (s ∷ rest) → (y : TxnId) (theirs : Settled)
      → stands y (s ∷ rest) ≡ true → stable_of history y ≡ Some theirs → stamp_lt theirs.t s.settled.t ≡ false
  not_earlier s rest sorted truly y theirs h e =
      ⊎_elim
      (λ same. ap (λ (u : Settled). stamp_lt u.t s.settled.t)
      (sym (some_is s.settled theirs (sym truly.0 ∙ ap (stable_of history) ((id_order.decides s.id y).0 same) ∙ e)))
      ∙ stamp_order.irrefl s.settled.t)
      (among rest sorted.0 truly.1)
      (or_cases (id_eq s.id y) (stands y rest) h)
    where
      among : (list : List Standing) → AllByRecursion (λ (r : Standing). stamp_lt r.settled.t s.settled.t ≡ false) list
          → Truly history list → stands y list ≡ true → stamp_lt theirs.t s.settled.t ≡ false
      among [] late true_ones k = absurd (true≢false (sym k))
      among (r ∷ list) late true_ones k =
          ⊎_elim
          (λ same. ap (λ (u : Settled). stamp_lt u.t s.settled.t)
          (sym (some_is r.settled theirs (sym true_ones.0 ∙ ap (stable_of history) ((id_order.decides r.id y).0 same) ∙ e)))
          ∙ late.0)
          (among list late.1 true_ones.1)
          (or_cases (id_eq r.id y) (stands y list) k)

  -- each opened stable transaction with an outcome was applied by now, or stands from here on
  abbrev pub Covers : List TxnId → List Standing → Type 0
  Covers applied list =
      (y : TxnId) (theirs : Settled) → stable_of history y ≡ Some theirs → Opened y → HasOutcome y
      → (id_among y applied ≡ true) ⊎ (stands y list ≡ true)

  pub ready_by : (applied : List TxnId) (s : Standing) (rest : List Standing) → Sorted (s ∷ rest) → Truly history (s ∷ rest)
      → Covers applied (s ∷ rest) → Opened s.id → (id_among s.id before ≡ true) ⊎ (is_ready shard history applied s.settled ≡ true)
  ready_by applied s rest sorted truly covers opened = by opened refl
    where
      ready_with : (mine : Settled) → mine ≡ s.settled
          → ((y : TxnId) → id_among y (of_shard mine.deps shard) ≡ true → is_some (stable_of history y) ≡ true)
          → ((y : TxnId) (theirs : Settled) → id_among y (of_shard mine.deps shard) ≡ true → stable_of history y ≡ Some theirs
          → comes_first mine.t theirs ≡ true → HasOutcome y)
          → ((y : TxnId) (theirs : Settled) → id_among y (of_shard mine.deps shard) ≡ true → stable_of history y ≡ Some theirs
          → comes_first mine.t theirs ≡ true → Opened y)
          → is_ready shard history applied mine ≡ true
      ready_with mine e stable outcome opens =
          all_from (λ y. is_past mine.t (id_among y applied) (stable_of history y)) (of_shard mine.deps shard)
          (λ y k. past_from mine.t (id_among y applied) (stable_of history y) (stable y k)
          (λ theirs is first. ⊎_elim (λ done. done)
          (λ later. absurd (true≢false (sym first ∙ ap (λ (u : Settled). stamp_lt theirs.t u.t) e ∙ not_earlier s rest sorted truly y theirs later is)))
          (covers y theirs is (opens y theirs k is first) (outcome y theirs k is first))))

      by : {x : TxnId} → Opened x → x ≡ s.id → (id_among s.id before ≡ true) ⊎ (is_ready shard history applied s.settled ≡ true)
      by (Stays x h) e = inl (subst (λ z. id_among z before ≡ true) e h)
      by (Opens x mine is stable outcome opens) e =
          let same : mine ≡ s.settled = some_is mine s.settled (sym is ∙ ap (stable_of history) e ∙ truly.0) in
          inr (subst (λ (u : Settled). is_ready shard history applied u ≡ true) same (ready_with mine same stable outcome opens))

  pub or_of : (a b : Bool) → (a ≡ true) ⊎ (b ≡ true) → (a || b) ≡ true
  or_of a b h = ⊎_elim (or_left a b) (or_right a b) h

  pub covers_next : (b : Bool) (applied : List TxnId) (s : Standing) (rest : List Standing) → Covers applied (s ∷ rest)
      → (Opened s.id → HasOutcome s.id → b ≡ true) → Covers (with_applied b s.id applied) rest
  covers_next true applied s rest covers turn y theirs e opened outcome =
      ⊎_elim (λ done. inl (or_right (id_eq s.id y) _ done))
      (λ h. ⊎_elim (λ same. inl (or_left (id_eq s.id y) _ same)) inr (or_cases (id_eq s.id y) (stands y rest) h))
      (covers y theirs e opened outcome)
  covers_next false applied s rest covers turn y theirs e opened outcome =
      ⊎_elim inl
      (λ h. ⊎_elim (λ same. absurd (true≢false (sym (turn (subst Opened (sym ((id_order.decides s.id y).0 same)) opened) (subst HasOutcome (sym ((id_order.decides s.id y).0 same)) outcome)))))
      inr (or_cases (id_eq s.id y) (stands y rest) h))
      (covers y theirs e opened outcome)

  -- what a change opens is among the opened ones, whatever stands after it
  opened_first : (c : Change) (changes : List Change) → c.opens ≡ true → id_among c.id (opened_by (filter is_change (c ∷ changes))) ≡ true
  opened_first c changes opens =
      subst (λ list. id_among c.id (opened_by list) ≡ true)
      (ap (λ b. cond b (c ∷ filter is_change changes) (filter is_change changes)) (sym (or_left c.opens c.applies opens)))
      (subst (λ list. id_among c.id list ≡ true)
      (ap (λ b. cond b (c.id ∷ opened_by (filter is_change changes)) (opened_by (filter is_change changes))) (sym opens))
      (or_left (id_eq c.id c.id) _ ((id_order.decides c.id c.id).1 refl)))

  opened_later : (x : TxnId) (c : Change) (changes : List Change) → id_among x (opened_by (filter is_change changes)) ≡ true
      → id_among x (opened_by (filter is_change (c ∷ changes))) ≡ true
  opened_later x c changes h =
      cond_both (is_change c) (c ∷ filter is_change changes) (filter is_change changes) (λ list. id_among x (opened_by list) ≡ true)
      (λ _. cond_both c.opens (c.id ∷ opened_by (filter is_change changes)) (opened_by (filter is_change changes)) (λ list. id_among x list ≡ true)
      (λ _. or_right (id_eq c.id x) _ h) (λ _. h))
      (λ _. h)

  pass-complete : (applied_before applied : List TxnId) (list : List Standing) → Sorted list → Truly history list → Covers applied list
      → (x : TxnId) → stands x list ≡ true → Opened x
      → (id_among x before ≡ true) ⊎ (id_among x (opened_by (filter is_change (pass shard history before applied_before applied list))) ≡ true)
  pass-complete applied_before applied [] sorted truly covers x h opened = absurd (true≢false (sym h))
  pass-complete applied_before applied (s ∷ rest) sorted truly covers x h opened =
      ⊎_elim
      (λ same. subst Found ((id_order.decides s.id x).0 same) (found (subst Opened (sym ((id_order.decides s.id x).0 same)) opened)))
      (λ later. ⊎_elim inl (λ k. inr (opened_later x (turn.change) behind k))
      (pass-complete applied_before (with_applied turn.is_applied s.id applied) rest sorted.1 truly.1
      (covers_next turn.is_applied applied s rest covers applies) x later opened))
      (or_cases (id_eq s.id x) (stands x rest) h)
    where
      turn : Turn
      turn = turn_of s.id (id_among s.id before) (id_among s.id applied_before) (is_ready shard history applied s.settled) (is_some (kept_outcome history s.id))

      behind : List Change
      behind = pass shard history before applied_before (with_applied turn.is_applied s.id applied) rest

      Found : TxnId → Type 0
      Found y = (id_among y before ≡ true) ⊎ (id_among y (opened_by (filter is_change (turn.change ∷ behind))) ≡ true)

      by_then : Opened s.id → (id_among s.id before || is_ready shard history applied s.settled) ≡ true
      by_then is = or_of _ _ (ready_by applied s rest sorted truly covers is)

      applies : Opened s.id → HasOutcome s.id → turn.is_applied ≡ true
      applies is outcome = and_from _ _ (by_then is) outcome

      found : Opened s.id → Found s.id
      found is =
          ⊎_elim inl
          (λ new. ⊎_elim (λ ready. inr (opened_first turn.change behind (and_from _ _ (not_from_false (id_among s.id before) new) ready)))
          (λ unready. absurd (true≢false (sym (by_then is) ∙ ap (λ b. b || is_ready shard history applied s.settled) new ∙ unready)))
          (cases_Bool (is_ready shard history applied s.settled)))
          (cases_Bool (id_among s.id before))

-- ---- the least set

pub opened_of-sound : (shard : ℕ) (step : Taken) (past : List Taken) (x : TxnId)
    → id_among x (opened_of shard (step ∷ past)) ≡ true → IsOpened shard (step ∷ past) (opened_of shard past) x
opened_of-sound shard step past x h =
    let history : List Taken = step ∷ past in
    let before : List TxnId = opened_of shard past in
    ⊎_elim
    (opened_by-sound shard history before x (pass shard history before (with_outcome past before) [] (in_turn (stable_ones history (known history))))
    (pass-sound shard history before (with_outcome past before) [] (in_turn (stable_ones history (known history))) tt (turns-Truly history)))
    (Stays x)
    (or_cases (id_among x (opened_by (changes_from shard history before (with_outcome past before)))) (id_among x before)
    (sym (is_among-append id_eq x (opened_by (changes_from shard history before (with_outcome past before))) before) ∙ h))

opened_is_among : (shard : ℕ) (step : Taken) (past : List Taken) (x : TxnId)
    → (id_among x (opened_of shard past) ≡ true)
    ⊎ (id_among x (opened_by (changes_from shard (step ∷ past) (opened_of shard past) (with_outcome past (opened_of shard past)))) ≡ true)
    → id_among x (opened_of shard (step ∷ past)) ≡ true
opened_is_among shard step past x h =
    is_among-append id_eq x (opened_by (changes_from shard (step ∷ past) (opened_of shard past) (with_outcome past (opened_of shard past)))) (opened_of shard past)
    ∙ ⊎_elim (or_right _ _) (or_left _ _) h

is_standing : (shard : ℕ) (history : List Taken) (before : List TxnId) (x : TxnId) → IsOpened shard history before x
    → (id_among x before ≡ true) ⊎ (stands x (in_turn (stable_ones history (known history))) ≡ true)
is_standing shard history before x (Stays y h) = inl h
is_standing shard history before x (Opens y mine is stable outcome opens) = inr (turns-stands history y mine is)

pub opened_of-complete : (shard : ℕ) (step : Taken) (past : List Taken) (x : TxnId)
    → IsOpened shard (step ∷ past) (opened_of shard past) x → id_among x (opened_of shard (step ∷ past)) ≡ true
opened_of-complete shard step past x opened =
    let history : List Taken = step ∷ past in
    let before : List TxnId = opened_of shard past in
    opened_is_among shard step past x
    (⊎_elim inl
    (λ stands. pass-complete shard history before (with_outcome past before) [] (in_turn (stable_ones history (known history)))
    (in_turn-Sorted (stable_ones history (known history))) (turns-Truly history)
    (λ y theirs e is outcome. inr (turns-stands history y theirs e)) x stands opened)
    (is_standing shard history before x opened))
