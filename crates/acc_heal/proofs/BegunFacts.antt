-- The transactions that a run has begun, rising by id, with their numbers.
use Rattle.std.proofs.Common.{◌≡◌, ℕ, Bool, true, false, ◌||◌, cond, List, [], ◌∷◌, Option, None, Some, is_some, refl, sym, ◌∙◌, ap, arith}
use Rattle.std.specs.declared.cmp.Ordering.TheVariants.{Less}
use Rattle.std.specs.List.{list_any, flat_map, AllByRecursion}
use Rattle.std.specs.List.Sorted.{IsStrictlySortedBy}
use Rattle.std.specs.Map.{keys_of}
use Rattle.std.specs.BTreeMap.{is_at}
use Rattle.std.specs.Ordering.{is_lt}
use Rattle.std.proofs.lemmas.Bool.Decides.{nat_tests}
use Rattle.std.proofs.lemmas.Bool.{true≢false, or_left, or_right}
use Rattle.std.proofs.lemmas.List.Folds.{list_any-append}
use Rattle.acc_base.specs.Faults.{or_else}
use Rattle.acc_stamp.specs.declared.stamps.TxnId.{TxnId}
use Rattle.acc_stamp.specs.Stamp.{id_cmp, id_eq, id_lt}
use Rattle.acc_stamp.specs.Rising.{IsRisingBy, id_among}
use Rattle.acc_stamp.proofs.Order.{id_order, eq_itself}
use Rattle.acc_stamp.proofs.Rising.{each_weaker, IsRisingBy-union, same_from_among}
use Rattle.acc_message.specs.declared.item.Item.{Item}
use Rattle.acc_message.specs.declared.item.Item.TheVariants.{Step, Skipped, Down}
use Rattle.acc_message.specs.Items.{begins, noted_in, notes_of, txn_begun, txn_in, txn_of}
use Rattle.acc_message.specs.Run.{Cluster, EachStands}
use Rattle.acc_actor_laws.proofs.Standing.{not_none}
use Rattle.acc_safety.specs.Decisions.{body_at}
use Rattle.acc_report.specs.Known.{Numbers, number_at}
use Rattle.acc_heal_laws.specs.Healed.{was_begun}
use Rattle.acc_heal_laws.specs.Stages.{begun_ids, id_begun_by}
use Rattle.acc_heal_laws.proofs.TurnFacts.{begun_has_body}
use Rattle.acc_heal_laws.proofs.Turns.{among_begun}

-- ---- what has a number was begun

txn_noted : (x : TxnId) (item : Item) (txn : ℕ) → txn_in x item ≡ Some txn → list_any (begins x) (noted_in item) ≡ true
txn_noted x (Step e) txn is = by (list_any (begins x) e.emitted.notes) refl is
  where
    by : (o : Bool) → list_any (begins x) e.emitted.notes ≡ o → cond o (txn_begun e.event) None ≡ Some txn → list_any (begins x) e.emitted.notes ≡ true
    by true now k = now
    by false none k = absurd (not_none txn k)
txn_noted x (Skipped step cause) txn is = absurd (not_none txn is)
txn_noted x (Down actor) txn is = absurd (not_none txn is)

txn_was_begun : (x : TxnId) (items : List Item) (txn : ℕ) → txn_of items x ≡ Some txn → was_begun x items ≡ true
txn_was_begun x [] txn is = absurd (not_none txn is)
txn_was_begun x (item ∷ earlier) txn is = list_any-append (begins x) (notes_of earlier) (noted_in item) ∙ by (txn_of earlier x) refl is (txn_was_begun x earlier)
  where
    by : (o : Option ℕ) → txn_of earlier x ≡ o → or_else o (txn_in x item) ≡ Some txn → ((k : ℕ) → txn_of earlier x ≡ Some k → was_begun x earlier ≡ true)
        → (list_any (begins x) (notes_of earlier) || list_any (begins x) (noted_in item)) ≡ true
    by None none now old = or_right (list_any (begins x) (notes_of earlier)) (list_any (begins x) (noted_in item)) (txn_noted x item txn now)
    by (Some k) was now old = or_left (list_any (begins x) (notes_of earlier)) (list_any (begins x) (noted_in item)) (old k was)

-- in a run what was begun has a number, and nothing else
numbered_is_begun : (cluster : Cluster) (items : List Item) (x : TxnId) → EachStands cluster items → is_some (txn_of items x) ≡ was_begun x items
numbered_is_begun cluster items x h = by (txn_of items x) (was_begun x items) refl refl
  where
    by : (o : Option ℕ) (b : Bool) → txn_of items x ≡ o → was_begun x items ≡ b → is_some o ≡ b
    by (Some txn) true is begun = refl
    by (Some txn) false is begun = absurd (true≢false (sym (txn_was_begun x items txn is) ∙ begun))
    by None false is begun = refl
    by None true is begun =
        let body = begun_has_body cluster items x h begun in
        absurd (not_none body.0 (sym (ap (body_at cluster) is) ∙ body.1))

-- ---- the entries of a map

among_keys : (x : TxnId) (entries : Numbers) → id_among x (keys_of entries) ≡ is_some (number_at entries x)
among_keys x [] = refl
among_keys x (e ∷ entries) = ap (λ o. o || id_among x (keys_of entries)) (at_back e.0) ∙ by (is_at (id_cmp x) e.0) (among_keys x entries)
  where
    at_back : (y : TxnId) → id_eq y x ≡ is_at (id_cmp x) y
    at_back y = grind (arith, nat_tests)

    by : (o : Bool) → id_among x (keys_of entries) ≡ is_some (number_at entries x)
        → (o || id_among x (keys_of entries)) ≡ is_some (cond o (Some e.1) (number_at entries x))
    by true rest = refl
    by false rest = rest

rising_keys : (ids : List TxnId) → IsStrictlySortedBy id_cmp ids → IsRisingBy id_lt ids
unfolding IsStrictlySortedBy
rising_keys [] h = tt
rising_keys (x ∷ ids) h = (each_weaker (λ y. id_cmp x y ≡ Less) (λ y. id_lt x y ≡ true) ids (λ y less. ap is_lt less) h.0, rising_keys ids h.1)

-- each entry is found at its key
each_found : (entries : Numbers) → IsStrictlySortedBy id_cmp (keys_of entries) → AllByRecursion (λ (e : TxnId × ℕ). number_at entries e.0 ≡ Some e.1) entries
unfolding IsStrictlySortedBy
each_found [] h = tt
each_found (e ∷ entries) h =
    (ap (λ o. cond o (Some e.1) (number_at entries e.0)) (at_itself e.0), later entries h.0 (each_found entries h.1))
  where
    at_itself : (y : TxnId) → is_at (id_cmp y) y ≡ true
    at_itself y = at_id y y ∙ eq_itself id_order y
      where
        at_id : (x y : TxnId) → is_at (id_cmp x) y ≡ id_eq x y
        at_id x y = grind (arith, nat_tests)

    not_first : (y : TxnId) → id_cmp e.0 y ≡ Less → is_at (id_cmp y) e.0 ≡ false
    not_first y less = grind (arith, nat_tests)

    later : (more : Numbers) → AllByRecursion (λ y. id_cmp e.0 y ≡ Less) (keys_of more) → AllByRecursion (λ (k : TxnId × ℕ). number_at entries k.0 ≡ Some k.1) more
        → AllByRecursion (λ (k : TxnId × ℕ). number_at (e ∷ entries) k.0 ≡ Some k.1) more
    later [] less found = tt
    later (k ∷ more) less found =
        (ap (λ o. cond o (Some e.1) (number_at entries k.0)) (not_first k.0 less.0) ∙ found.0, later more less.1 found.1)

module _ (cluster : Cluster) (items : List Item) (entries : Numbers) (h : EachStands cluster items) (sorted : IsStrictlySortedBy id_cmp (keys_of entries))
    (numbers : (x : TxnId) → number_at entries x ≡ txn_of items x) where
  -- the keys are the ids that are begun
  pub keys_are_begun : begun_ids items ≡ keys_of entries
  keys_are_begun =
      same_from_among id_order (begun_ids items) (keys_of entries) (IsRisingBy-union id_order [] (flat_map id_begun_by (notes_of items)) tt)
      (rising_keys (keys_of entries) sorted)
      (λ x. among_begun x items ∙ sym (numbered_is_begun cluster items x h) ∙ sym (ap is_some (numbers x)) ∙ sym (among_keys x entries))

  -- and each has its number
  pub each_numbered : AllByRecursion (λ (e : TxnId × ℕ). txn_of items e.0 ≡ Some e.1) entries
  each_numbered =
      each_weaker (λ (e : TxnId × ℕ). number_at entries e.0 ≡ Some e.1) (λ (e : TxnId × ℕ). txn_of items e.0 ≡ Some e.1) entries
      (λ e is. sym (numbers e.0) ∙ is) (each_found entries sorted)
