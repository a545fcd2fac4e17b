-- The changes of a store over its whole history: they come in their turn, and tell what is opened and applied.
use Rattle.std.proofs.Common.{◌≡◌, ℕ, true, List, [], ◌∷◌, Option, None, Some, is_some, refl, sym, ◌∙◌, ap, subst, ◌⊎◌, inl, inr, ⊎_elim, filter}
use Rattle.std.specs.List.{AllByRecursion}
use Rattle.std.proofs.lemmas.Bool.{true≢false, or_left, or_right, or_cases, and_parts, and_from, cond_both}
use Rattle.acc_stamp.specs.declared.stamps.TxnId.{TxnId}
use Rattle.acc_stamp.specs.Stamp.{id_eq}
use Rattle.acc_stamp.specs.Rising.{id_among}
use Rattle.acc_stamp.proofs.Order.{id_order}
use Rattle.acc_stamp.proofs.Rising.{each_filter, is_among-append, is_among-filter}
use Rattle.acc_base.specs.Faults.{or_else}
use Rattle.acc_message.specs.Taken.{Taken, known}
use Rattle.acc_message.specs.BallotRules.{stable_of, kept_outcome, settled_in, outcome_in}
use Rattle.acc_message.specs.Opening.{IsOpened, Stays, Opens, Standing, stable_ones, in_turn, Change, pass, is_change, opened_by, with_outcome, opened_of, changes_of}
use Rattle.acc_actor_laws.proofs.Standing.{stands, turns-stands, turns-Truly}
use Rattle.acc_actor_laws.proofs.OpeningFacts.{opened_of-sound}
use Rattle.acc_safety_laws.proofs.Apart.{turns-apart}
use Rattle.acc_safety_laws.proofs.Timeline.{AppliedIn, OpenedIn, behind, AllInTurn, OpenedIn-behind}
use Rattle.acc_safety_laws.proofs.Pass.{Midway, Covered, Passed, passed}

-- all changes of a store, the newest first
abbrev pub timeline : ℕ → List Taken → List Change
timeline shard [] = []
timeline shard (step ∷ past) = behind (changes_of shard step past) (timeline shard past)

abbrev pub EachCovered : ℕ → (TxnId → TxnId → Type 0) → List Taken → Type 0
EachCovered shard below [] = Unit {0}
EachCovered shard below (step ∷ past) = Covered shard (step ∷ past) below × EachCovered shard below past

-- ---- small facts

pub kept_some : {T : Type 0} (o other : Option T) → is_some o ≡ true → is_some (or_else o other) ≡ true
kept_some None other h = absurd (true≢false (sym h))
kept_some (Some x) other h = refl

pub some_value : {T : Type 0} (o : Option T) → is_some o ≡ true → (x : T) × (o ≡ Some x)
some_value None h = absurd (true≢false (sym h))
some_value (Some x) h = (x, refl)

some_from : {T : Type 0} (o : Option T) (x : T) → o ≡ Some x → is_some o ≡ true
some_from o x e = ap is_some e

each_holds : {K : Type 0} (P : K → Type 0) (xs : List K) → ((x : K) → P x) → AllByRecursion P xs
each_holds P [] h = tt
each_holds P (x ∷ xs) h = (h x, each_holds P xs h)

each_standing : (P : TxnId → Type 0) (list : List Standing) (x : TxnId) → AllByRecursion (λ (s : Standing). P s.id) list → stands x list ≡ true → P x
each_standing P [] x h k = absurd (true≢false (sym k))
each_standing P (s ∷ list) x h k =
    ⊎_elim (λ same. subst P ((id_order.decides s.id x).0 same) h.0) (each_standing P list x h.1) (or_cases (id_eq s.id x) (stands x list) k)

-- ---- what a list of changes opens and applies

pub applied_split : (changes earlier : List Change) (x : TxnId) → AppliedIn (behind changes earlier) x → AppliedIn earlier x ⊎ AppliedIn changes x
applied_split [] earlier x h = inl h
applied_split (c ∷ changes) earlier x h =
    ⊎_elim (λ k. ⊎_elim (λ now. inr (inl now)) inl k) (λ k. inr (inr k)) (applied_split changes (c ∷ earlier) x h)

opened_by-among : (c : Change) (changes : List Change) (x : TxnId) → id_among x (opened_by (c ∷ changes)) ≡ true
    → ((c.opens ≡ true) × (c.id ≡ x)) ⊎ (id_among x (opened_by changes) ≡ true)
opened_by-among c changes x =
    cond_both c.opens (c.id ∷ opened_by changes) (opened_by changes)
    (λ ids. id_among x ids ≡ true → ((c.opens ≡ true) × (c.id ≡ x)) ⊎ (id_among x (opened_by changes) ≡ true))
    (λ is h. ⊎_elim (λ same. inl (is, (id_order.decides c.id x).0 same)) inr (or_cases (id_eq c.id x) (id_among x (opened_by changes)) h))
    (λ _ h. inr h)

pub opened_by-first : (c : Change) (changes : List Change) → c.opens ≡ true → id_among c.id (opened_by (c ∷ changes)) ≡ true
opened_by-first c changes is =
    cond_both c.opens (c.id ∷ opened_by changes) (opened_by changes) (λ ids. id_among c.id ids ≡ true)
    (λ _. or_left (id_eq c.id c.id) _ ((id_order.decides c.id c.id).1 refl)) (λ no. absurd (true≢false (sym is ∙ no)))

pub opened_by-later : (c : Change) (changes : List Change) (x : TxnId) → id_among x (opened_by changes) ≡ true → id_among x (opened_by (c ∷ changes)) ≡ true
opened_by-later c changes x h =
    cond_both c.opens (c.id ∷ opened_by changes) (opened_by changes) (λ ids. id_among x ids ≡ true) (λ _. or_right (id_eq c.id x) _ h) (λ _. h)

opened_by-in : (changes earlier : List Change) (x : TxnId) → id_among x (opened_by changes) ≡ true → OpenedIn (behind changes earlier) x
opened_by-in [] earlier x h = absurd (true≢false (sym h))
opened_by-in (c ∷ changes) earlier x h =
    ⊎_elim (λ now. OpenedIn-behind (λ y z. ⊥) changes (c ∷ earlier) x (inl now)) (opened_by-in changes (c ∷ earlier) x) (opened_by-among c changes x h)

opened_by-each : (P : TxnId → Type 0) (changes : List Change) (x : TxnId) → AllByRecursion (λ (c : Change). c.opens ≡ true → P c.id) changes
    → id_among x (opened_by changes) ≡ true → P x
opened_by-each P [] x each h = absurd (true≢false (sym h))
opened_by-each P (c ∷ changes) x each h =
    ⊎_elim (λ now. subst P now.1 (each.0 now.0)) (opened_by-each P changes x each.1) (opened_by-among c changes x h)

applied_tells : (before : List TxnId) (Q : TxnId → Type 0) (changes : List Change) (x : TxnId)
    → AllByRecursion (λ (c : Change). c.applies ≡ true → ((id_among c.id before ≡ true) ⊎ (c.opens ≡ true)) × Q c.id) changes
    → AppliedIn changes x → ((id_among x (opened_by changes) ≡ true) ⊎ (id_among x before ≡ true)) × Q x
applied_tells before Q [] x each h = absurd h
applied_tells before Q (c ∷ changes) x each h =
    ⊎_elim
    (λ now. let t = each.0 now.0 in (
      subst (λ y. (id_among y (opened_by (c ∷ changes)) ≡ true) ⊎ (id_among y before ≡ true)) now.1
          (⊎_elim inr (λ opens. inl (opened_by-first c changes opens)) t.0),
      subst Q now.1 t.1,
    ))
    (λ later. let t = applied_tells before Q changes x each.1 later in (⊎_elim (λ k. inl (opened_by-later c changes x k)) inr t.0, t.1)) h

-- ---- a history

pub record Told (shard : ℕ) (below : TxnId → TxnId → Type 0) (history : List Taken) : Type 0 where
  pub turns : AllInTurn below (timeline shard history)
  pub stable : (y : TxnId) → id_among y (opened_of shard history) ≡ true → is_some (stable_of history y) ≡ true
  pub opened : (y : TxnId) → id_among y (opened_of shard history) ≡ true → OpenedIn (timeline shard history) y
  pub applied : (y : TxnId) → id_among y (opened_of shard history) ≡ true → is_some (kept_outcome history y) ≡ true → AppliedIn (timeline shard history) y
  pub tells : (y : TxnId) → AppliedIn (timeline shard history) y → (id_among y (opened_of shard history) ≡ true) × (is_some (kept_outcome history y) ≡ true)

opened_is_stable : (shard : ℕ) (history : List Taken) (before : List TxnId) (x : TxnId) → ((y : TxnId) → id_among y before ≡ true → is_some (stable_of history y) ≡ true)
    → IsOpened shard history before x → is_some (stable_of history x) ≡ true
opened_is_stable shard history before x was (Stays y h) = was y h
opened_is_stable shard history before x was (Opens y mine is stable outcome opens) = some_from (stable_of history y) mine is

module _ (shard : ℕ) (below : TxnId → TxnId → Type 0) (step : Taken) (past : List Taken) (covered : Covered shard (step ∷ past) below)
    (told : Told shard below past) where
  abbrev list : List Standing
  list = in_turn (stable_ones (step ∷ past) (known (step ∷ past)))

  abbrev made : List Change
  made = pass shard (step ∷ past) (opened_of shard past) (with_outcome past (opened_of shard past)) [] list

  applied_before : (y : TxnId) → id_among y (with_outcome past (opened_of shard past)) ≡ true
      → (is_some (kept_outcome past y) ≡ true) × (id_among y (opened_of shard past) ≡ true)
  applied_before y h =
      and_parts (is_some (kept_outcome past y)) (id_among y (opened_of shard past))
      (sym (is_among-filter id_order y (λ z. is_some (kept_outcome past z)) (opened_of shard past)) ∙ h)

  start : Midway (opened_of shard past) (with_outcome past (opened_of shard past)) [] list (timeline shard past)
  start =
      record {
        applied_is = λ y h. absurd (true≢false (sym h));
        opened_is = told.opened;
        was_applied = λ y h. let parts = applied_before y h in told.applied y parts.1 parts.0;
        only = each_holds (λ (s : Standing). AppliedIn (timeline shard past) s.id → id_among s.id (with_outcome past (opened_of shard past)) ≡ true) list
            (λ s h. let t = told.tells s.id h in
            is_among-filter id_order s.id (λ z. is_some (kept_outcome past z)) (opened_of shard past)
            ∙ and_from (is_some (kept_outcome past s.id)) (id_among s.id (opened_of shard past)) t.1 t.0);
      }

  done : Passed shard (step ∷ past) below covered (opened_of shard past) (with_outcome past (opened_of shard past)) (λ y h. (applied_before y h).1)
      list made (behind (filter is_change made) (timeline shard past))
  done =
      passed shard (step ∷ past) below covered (opened_of shard past) (with_outcome past (opened_of shard past)) (λ y h. (applied_before y h).1)
      [] list (timeline shard past) (turns-Truly (step ∷ past)) (turns-apart (step ∷ past)) start told.turns

  stable_more : (y : TxnId) → id_among y (opened_of shard (step ∷ past)) ≡ true → is_some (stable_of (step ∷ past) y) ≡ true
  stable_more y h =
      opened_is_stable shard (step ∷ past) (opened_of shard past) y
      (λ z k. kept_some (stable_of past z) (settled_in z step.message) (told.stable z k)) (opened_of-sound shard step past y h)

  split : (y : TxnId) → id_among y (opened_of shard (step ∷ past)) ≡ true
      → (id_among y (opened_by (changes_of shard step past)) ≡ true) ⊎ (id_among y (opened_of shard past) ≡ true)
  split y h =
      or_cases (id_among y (opened_by (changes_of shard step past))) (id_among y (opened_of shard past))
      (sym (is_among-append id_eq y (opened_by (changes_of shard step past)) (opened_of shard past)) ∙ h)

  opened_more : (y : TxnId) → id_among y (opened_of shard (step ∷ past)) ≡ true → OpenedIn (timeline shard (step ∷ past)) y
  opened_more y h =
      ⊎_elim (opened_by-in (changes_of shard step past) (timeline shard past) y)
      (λ was. OpenedIn-behind below (changes_of shard step past) (timeline shard past) y (told.opened y was)) (split y h)

  applied_more : (y : TxnId) → id_among y (opened_of shard (step ∷ past)) ≡ true → is_some (kept_outcome (step ∷ past) y) ≡ true
      → AppliedIn (timeline shard (step ∷ past)) y
  applied_more y h has =
      ⊎_elim
      (λ now. opened_by-each (λ z. is_some (kept_outcome (step ∷ past) z) ≡ true → AppliedIn (timeline shard (step ∷ past)) z)
      (changes_of shard step past) y
      (each_filter (λ (c : Change). c.opens ≡ true → is_some (kept_outcome (step ∷ past) c.id) ≡ true → AppliedIn (timeline shard (step ∷ past)) c.id)
      is_change made done.opened_now) now has)
      (λ was. let s = some_value (stable_of (step ∷ past) y) (kept_some (stable_of past y) (settled_in y step.message) (told.stable y was)) in
      each_standing (λ z. id_among z (opened_of shard past) ≡ true → is_some (kept_outcome (step ∷ past) z) ≡ true → AppliedIn (timeline shard (step ∷ past)) z)
      list y done.opened_before (turns-stands (step ∷ past) y s.0 s.1) was has)
      (split y h)

  tells_more : (y : TxnId) → AppliedIn (timeline shard (step ∷ past)) y
      → (id_among y (opened_of shard (step ∷ past)) ≡ true) × (is_some (kept_outcome (step ∷ past) y) ≡ true)
  tells_more y h =
      ⊎_elim
      (λ was. let t = told.tells y was in (among (inr t.0), kept_some (kept_outcome past y) (outcome_in y step.message) t.1))
      (λ now. let t = applied_tells (opened_of shard past) (λ z. is_some (kept_outcome (step ∷ past) z) ≡ true) (changes_of shard step past) y
      (each_filter (λ (c : Change). c.applies ≡ true → ((id_among c.id (opened_of shard past) ≡ true) ⊎ (c.opens ≡ true)) × (is_some (kept_outcome (step ∷ past) c.id) ≡ true))
      is_change made done.truly) now in (among t.0, t.1))
      (applied_split (changes_of shard step past) (timeline shard past) y h)
    where
      among : (id_among y (opened_by (changes_of shard step past)) ≡ true) ⊎ (id_among y (opened_of shard past) ≡ true)
          → id_among y (opened_of shard (step ∷ past)) ≡ true
      among k =
          is_among-append id_eq y (opened_by (changes_of shard step past)) (opened_of shard past)
          ∙ ⊎_elim (or_left (id_among y (opened_by (changes_of shard step past))) _) (or_right (id_among y (opened_by (changes_of shard step past))) _) k

  told_more : Told shard below (step ∷ past)
  told_more =
      record { turns = done.turns; stable = stable_more; opened = opened_more; applied = applied_more; tells = tells_more }

pub history_told : (shard : ℕ) (below : TxnId → TxnId → Type 0) (history : List Taken) → EachCovered shard below history → Told shard below history
history_told shard below [] covered =
    record {
      turns = tt;
      stable = λ y h. absurd (true≢false (sym h));
      opened = λ y h. absurd (true≢false (sym h));
      applied = λ y h. absurd (true≢false (sym h));
      tells = λ y h. absurd h;
    }
history_told shard below (step ∷ past) covered =
    told_more shard below step past covered.0 (history_told shard below past covered.1)
