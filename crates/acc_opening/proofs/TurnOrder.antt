-- Lists of changes that rise by their turns: two of them that open and apply the same are the same.
use Rattle.std.proofs.Common.{◌≡◌, Bool, true, false, ◌&&◌, ◌||◌, List, [], ◌∷◌, refl, sym, ◌∙◌, ap, subst, ⊎_elim, arith}
use Rattle.std.specs.List.{AllByRecursion, list_any}
use Rattle.std.specs.Ordering.{ordering_then, is_lt}
use Rattle.std.proofs.lemmas.Bool.{true≢false, or_left, or_right, or_cases, and_parts, and_from, cases_Bool}
use Rattle.std.proofs.lemmas.Bool.Decides.{nat_tests}
use Rattle.acc_stamp.specs.declared.stamps.Stamp.{Stamp}
use Rattle.acc_stamp.specs.declared.stamps.TxnId.{TxnId}
use Rattle.acc_stamp.specs.Stamp.{stamp_cmp, id_cmp, id_eq}
use Rattle.acc_stamp.specs.Rising.{IsRisingBy}
use Rattle.acc_stamp.proofs.Order.{id_order}
use Rattle.acc_message.specs.Opening.{Change, is_change}
use Rattle.acc_actor_laws.specs.OpeningOrder.{opens_in, applies_in}
use Rattle.acc_opening.specs.Plan.{Lookup, t_of, settled_in, change_lt}

abbrev pub comes_before : Stamp → TxnId → Stamp → TxnId → Bool
comes_before t x u y = is_lt (ordering_then (stamp_cmp t u) (id_cmp x y))

before_not_itself : (t : Stamp) (x : TxnId) → comes_before t x t x ≡ false
before_not_itself t x = grind (arith, nat_tests)

before_asym : (t u : Stamp) (x y : TxnId) → comes_before t x u y ≡ true → comes_before u y t x ≡ false
before_asym t u x y h = grind (arith, nat_tests)

pub bools_same : (a b : Bool) → (a ≡ true → b ≡ true) → (b ≡ true → a ≡ true) → a ≡ b
bools_same true b h k = sym (h refl)
bools_same false true h k = k refl
bools_same false false h k = refl

module _ (at : Lookup) where
  -- the turn of x comes before that of y
  abbrev turn_lt : TxnId → TxnId → Bool
  turn_lt x y = comes_before (t_of (settled_in (at x))) x (t_of (settled_in (at y))) y

  abbrev Above : TxnId → List Change → Type 0
  Above x changes = AllByRecursion (λ (c : Change). turn_lt x c.id ≡ true) changes

  -- some change is that of x
  abbrev concerns : TxnId → List Change → Bool
  concerns x changes = list_any (λ (c : Change). id_eq c.id x) changes

  opens-concerns : (x : TxnId) (changes : List Change) → opens_in x changes ≡ true → concerns x changes ≡ true
  opens-concerns x [] h = h
  opens-concerns x (c ∷ rest) h =
      ⊎_elim (λ here. or_left (id_eq c.id x) _ (and_parts (id_eq c.id x) c.opens here).0) (λ later. or_right (id_eq c.id x) _ (opens-concerns x rest later))
      (or_cases (id_eq c.id x && c.opens) (opens_in x rest) h)

  applies-concerns : (x : TxnId) (changes : List Change) → applies_in x changes ≡ true → concerns x changes ≡ true
  applies-concerns x [] h = h
  applies-concerns x (c ∷ rest) h =
      ⊎_elim (λ here. or_left (id_eq c.id x) _ (and_parts (id_eq c.id x) c.applies here).0) (λ later. or_right (id_eq c.id x) _ (applies-concerns x rest later))
      (or_cases (id_eq c.id x && c.applies) (applies_in x rest) h)

  above_at : (x y : TxnId) (changes : List Change) → Above x changes → concerns y changes ≡ true → turn_lt x y ≡ true
  above_at x y [] above h = absurd (true≢false (sym h))
  above_at x y (c ∷ rest) above h =
      ⊎_elim (λ here. subst (λ z. turn_lt x z ≡ true) ((id_order.decides c.id y).0 here) above.0) (above_at x y rest above.1)
      (or_cases (id_eq c.id y) (concerns y rest) h)

  -- x isn't among what comes after it
  not_above_itself : (x : TxnId) (changes : List Change) → Above x changes → concerns x changes ≡ false
  not_above_itself x changes above =
      ⊎_elim (λ there. absurd (true≢false (sym (above_at x x changes above there) ∙ before_not_itself (t_of (settled_in (at x))) x))) (λ isnt. isnt)
      (cases_Bool (concerns x changes))

  opens_none : (x : TxnId) (changes : List Change) → concerns x changes ≡ false → opens_in x changes ≡ false
  opens_none x changes h =
      ⊎_elim (λ there. absurd (true≢false (sym (opens-concerns x changes there) ∙ h))) (λ isnt. isnt) (cases_Bool (opens_in x changes))

  applies_none : (x : TxnId) (changes : List Change) → concerns x changes ≡ false → applies_in x changes ≡ false
  applies_none x changes h =
      ⊎_elim (λ there. absurd (true≢false (sym (applies-concerns x changes there) ∙ h))) (λ isnt. isnt) (cases_Bool (applies_in x changes))

  -- the two lists open and apply the same
  pub record DoTheSame (one other : List Change) : Type 0 where
    pub opens : (x : TxnId) → opens_in x one ≡ opens_in x other
    pub applies : (x : TxnId) → applies_in x one ≡ applies_in x other

  abbrev pub EachChanges : List Change → Type 0
  EachChanges changes = AllByRecursion (λ (c : Change). is_change c ≡ true) changes

  -- what the first change of one list concerns, the other list concerns as well
  concerns_too : (c : Change) (rest other : List Change) → DoTheSame (c ∷ rest) other → is_change c ≡ true → concerns c.id other ≡ true
  concerns_too c rest other same is =
      ⊎_elim
      (λ opens. opens-concerns c.id other
      (sym (same.opens c.id) ∙ or_left (id_eq c.id c.id && c.opens) (opens_in c.id rest) (and_from (id_eq c.id c.id) c.opens (itself c.id) opens)))
      (λ applies. applies-concerns c.id other
      (sym (same.applies c.id) ∙ or_left (id_eq c.id c.id && c.applies) (applies_in c.id rest) (and_from (id_eq c.id c.id) c.applies (itself c.id) applies)))
      (or_cases c.opens c.applies is)
    where
      itself : (x : TxnId) → id_eq x x ≡ true
      itself x = (id_order.decides x x).1 refl

  abbrev Rises : List Change → Type 0
  Rises changes = IsRisingBy (change_lt at) changes

  same_heads : (c d : Change) (rest other : List Change) → DoTheSame (c ∷ rest) (d ∷ other) → Rises (c ∷ rest) → Rises (d ∷ other)
      → EachChanges (c ∷ rest) → EachChanges (d ∷ other) → c.id ≡ d.id
  same_heads c d rest other same rises rises' each each' =
      ⊎_elim (λ here. sym ((id_order.decides d.id c.id).0 here))
      (λ later. ⊎_elim (λ here. (id_order.decides c.id d.id).0 here)
      (λ later'. absurd (true≢false (sym (above_at c.id d.id rest rises.0 later')
      ∙ before_asym (t_of (settled_in (at d.id))) (t_of (settled_in (at c.id))) d.id c.id (above_at d.id c.id other rises'.0 later))))
      (or_cases (id_eq c.id d.id) (concerns d.id rest) (concerns_too d other (c ∷ rest) (record { opens = λ x. sym (same.opens x); applies = λ x. sym (same.applies x) }) each'.0)))
      (or_cases (id_eq d.id c.id) (concerns c.id other) (concerns_too c rest (d ∷ other) same each.0))

  -- a change in front of those above it
  head_flag : (a b : Bool) → a ≡ true → b ≡ false → (c : Bool) → ((a && c) || b) ≡ c
  head_flag a b e f true = ap (λ a. (a && true) || b) e
  head_flag a b e f false = ap (λ a. (a && false) || b) e ∙ f

  opens_head : (c : Change) (rest : List Change) → Above c.id rest → opens_in c.id (c ∷ rest) ≡ c.opens
  opens_head c rest above =
      head_flag (id_eq c.id c.id) (opens_in c.id rest) ((id_order.decides c.id c.id).1 refl) (opens_none c.id rest (not_above_itself c.id rest above)) c.opens

  applies_head : (c : Change) (rest : List Change) → Above c.id rest → applies_in c.id (c ∷ rest) ≡ c.applies
  applies_head c rest above =
      head_flag (id_eq c.id c.id) (applies_in c.id rest) ((id_order.decides c.id c.id).1 refl) (applies_none c.id rest (not_above_itself c.id rest above)) c.applies

  same_change : (c d : Change) → c.id ≡ d.id → c.opens ≡ d.opens → c.applies ≡ d.applies → c ≡ d
  same_change c d e f g =
      ap (λ x. record { id = x; opens = c.opens; applies = c.applies }) e ∙ ap (λ b. record { id = d.id; opens = b; applies = c.applies }) f
      ∙ ap (λ b. record { id = d.id; opens = d.opens; applies = b }) g

  same_first : (c d : Change) (rest other : List Change) → DoTheSame (c ∷ rest) (d ∷ other) → Rises (c ∷ rest) → Rises (d ∷ other) → c.id ≡ d.id → c ≡ d
  same_first c d rest other same rises rises' e =
      same_change c d e
      (sym (opens_head c rest rises.0) ∙ same.opens c.id ∙ ap (λ x. opens_in x (d ∷ other)) e ∙ opens_head d other rises'.0)
      (sym (applies_head c rest rises.0) ∙ same.applies c.id ∙ ap (λ x. applies_in x (d ∷ other)) e ∙ applies_head d other rises'.0)

  drop_flag : (a b c f : Bool) → a ≡ false → ((a && f) || b) ≡ ((a && f) || c) → b ≡ c
  drop_flag a b c f e h = ap (λ a. (a && f) || b) (sym e) ∙ h ∙ ap (λ a. (a && f) || c) e

  same_rest : (c : Change) (rest other : List Change) → DoTheSame (c ∷ rest) (c ∷ other) → Above c.id rest → Above c.id other → DoTheSame rest other
  same_rest c rest other same above above' = record { opens = opens; applies = applies }
    where
      none : (x : TxnId) (list : List Change) → Above c.id list → id_eq c.id x ≡ true → concerns x list ≡ false
      none x list above is = ap (λ y. concerns y list) (sym ((id_order.decides c.id x).0 is)) ∙ not_above_itself c.id list above

      opens : (x : TxnId) → opens_in x rest ≡ opens_in x other
      opens x =
          ⊎_elim (λ is. opens_none x rest (none x rest above is) ∙ sym (opens_none x other (none x other above' is)))
          (λ isnt. drop_flag (id_eq c.id x) (opens_in x rest) (opens_in x other) c.opens isnt (same.opens x))
          (cases_Bool (id_eq c.id x))

      applies : (x : TxnId) → applies_in x rest ≡ applies_in x other
      applies x =
          ⊎_elim (λ is. applies_none x rest (none x rest above is) ∙ sym (applies_none x other (none x other above' is)))
          (λ isnt. drop_flag (id_eq c.id x) (applies_in x rest) (applies_in x other) c.applies isnt (same.applies x))
          (cases_Bool (id_eq c.id x))

  nothing_else : (c : Change) (rest : List Change) → DoTheSame (c ∷ rest) [] → is_change c ≡ true → ⊥
  nothing_else c rest same is = true≢false (sym (concerns_too c rest [] same is))

  pub same_changes : (one other : List Change) → DoTheSame one other → Rises one → Rises other → EachChanges one → EachChanges other → one ≡ other
  same_changes [] [] same rises rises' each each' = refl
  same_changes [] (d ∷ other) same rises rises' each each' =
      absurd (nothing_else d other (record { opens = λ x. sym (same.opens x); applies = λ x. sym (same.applies x) }) each'.0)
  same_changes (c ∷ rest) [] same rises rises' each each' = absurd (nothing_else c rest same each.0)
  same_changes (c ∷ rest) (d ∷ other) same rises rises' each each' =
      let e = same_first c d rest other same rises rises' (same_heads c d rest other same rises rises' each each') in
      let same' = subst (λ z. DoTheSame (c ∷ rest) (z ∷ other)) (sym e) same in
      let above' = subst (λ (z : Change). Above z.id other) (sym e) rises'.0 in
      ap (λ z. z ∷ rest) e
      ∙ ap (λ list. d ∷ list) (same_changes rest other (same_rest c rest other same' rises.0 above') rises.1 rises'.1 each.1 each'.1)
