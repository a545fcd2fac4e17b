-- The keys of the maps, by their tests; what is put and taken out again.
use Rattle.std.proofs.Common.{◌≡◌, Bool, true, false, cond, Option, None, Some, is_some, refl, sym, ap, ◌∙◌, arith}
use Rattle.std.proofs.lemmas.Bool.{true≢false}
use Rattle.std.proofs.lemmas.Bool.Decides.{nat_tests}
use Rattle.std.specs.Ordering.{is_eq}
use Rattle.std.specs.Map.{lookup, set_value}
use Rattle.std.proofs.lemmas.Map.Steps.{set_value_same}
use Rattle.std.specs.BTreeMap.{BTreeMap, get, is_at}
use Rattle.acc_stamp.specs.declared.stamps.TxnId.{TxnId}
use Rattle.acc_stamp.specs.Stamp.{id_cmp, id_eq}
use Rattle.acc_stamp.proofs.Order.{id_order}

id_test : (a b : TxnId) → is_eq (id_cmp a b) ≡ id_eq a b
id_test a b = grind (arith, nat_tests)

module _ {X : Type 0} where
  -- a map after a put or a remove, with the test of keys
  pub at_id : (old new : BTreeMap TxnId X) (x : TxnId) (w : Option X) → ((q : TxnId) → get id_cmp new q ≡ cond (is_at (id_cmp x) q) w (get id_cmp old q))
      → (q : TxnId) → get id_cmp new q ≡ cond (id_eq x q) w (get id_cmp old q)
  at_id old new x w h q = h q ∙ ap (λ b. cond b w (get id_cmp old q)) (id_test x q)

  -- what was put where there was nothing, and taken out again
  undone : (b : Bool) (w o m n : Option X) → (b ≡ true → o ≡ None) → m ≡ cond b w o → n ≡ cond b None m → n ≡ o
  undone true w o m n absent e f = f ∙ sym (absent refl)
  undone false w o m n absent e f = f ∙ e

  pub none_if : (o : Option X) → is_some o ≡ false → o ≡ None
  none_if None h = refl
  none_if (Some v) h = absurd (true≢false h)

  is_some-kept : (b : Bool) (w : X) (o p : Option X) → (b ≡ true → is_some o ≡ true) → p ≡ cond b (Some w) o → is_some p ≡ is_some o
  is_some-kept true w o p had e = ap is_some e ∙ sym (had refl)
  is_some-kept false w o p had e = ap is_some e

  -- the keys of a map, with one put that was there
  pub keys_same : (old new : BTreeMap TxnId X) (x : TxnId) (w : X) → is_some (get id_cmp old x) ≡ true
      → ((q : TxnId) → get id_cmp new q ≡ cond (is_at (id_cmp x) q) (Some w) (get id_cmp old q)) → (q : TxnId) → is_some (get id_cmp new q) ≡ is_some (get id_cmp old q)
  keys_same old new x w had h q =
      is_some-kept (id_eq x q) w (get id_cmp old q) (get id_cmp new q) (λ e. ap (λ z. is_some (get id_cmp old z)) (sym ((id_order.decides x q).0 e)) ∙ had)
      (at_id old new x (Some w) h q)

  -- a map with one that was put and taken out again
  pub keys_undone : (old middle new : BTreeMap TxnId X) (x : TxnId) (w : X) → is_some (get id_cmp old x) ≡ false
      → ((q : TxnId) → get id_cmp middle q ≡ cond (is_at (id_cmp x) q) (Some w) (get id_cmp old q))
      → ((q : TxnId) → get id_cmp new q ≡ cond (is_at (id_cmp x) q) None (get id_cmp middle q)) → (q : TxnId) → get id_cmp new q ≡ get id_cmp old q
  keys_undone old middle new x w had put out q =
      undone (id_eq x q) (Some w) (get id_cmp old q) (get id_cmp middle q) (get id_cmp new q)
      (λ e. ap (get id_cmp old) (sym ((id_order.decides x q).0 e)) ∙ none_if (get id_cmp old x) had)
      (at_id old middle x (Some w) put q) (at_id middle new x None out q)

-- what was found, written back, changes nothing
pub written_same : {X : Type 0} (old new : BTreeMap TxnId X) (x : TxnId) (w : X) → new.entries ≡ set_value (is_at (id_cmp x)) old.entries w
    → lookup (is_at (id_cmp x)) old.entries ≡ Some w → (q : TxnId) → get id_cmp new q ≡ get id_cmp old q
written_same old new x w e found q = ap (lookup (is_at (id_cmp q))) (e ∙ set_value_same (is_at (id_cmp x)) old.entries w found)
