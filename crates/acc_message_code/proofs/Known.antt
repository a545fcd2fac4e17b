-- Values that are made of several fields, one after the other.
use Rattle.std.proofs.Common.{◌≡◌, ℕ, List, ◌++◌, Ok, refl, sym, ap, subst}
use Rattle.acc_wire.specs.Reading.{Unread, Read, ◌>>=◌}
use Rattle.acc_wire.proofs.Fields.{IsField}
use Rattle.acc_code.proofs.Formats.{IsThen, then_field, made_field, made_of_two, same_field}

module _ {A C : Type 0} {FitsA : A → Type 0} {a_bytes : A → List ℕ} {at : Unread → Read A} (part : C → A) (field : IsField FitsA a_bytes at) {Known : C → Type 0} where
  -- the part of a value is read, and the rest of the value after it, where this part is known
  pub known_then : {Rest : C → Type 0} {tail : C → List ℕ} {k : A → Unread → Read C} → ((x : A) → FitsA x → IsField (λ c. Rest c × (Known c × (part c ≡ x))) tail (k x)) → IsField (λ c. (FitsA (part c) × Rest c) × Known c) (λ c. a_bytes (part c) ++ tail c) (λ u. at u >>= λ x. k x.0 x.1)
  known_then {Rest} {tail} rest =
      let then : IsThen FitsA a_bytes (λ x c. Rest c × (Known c × (part c ≡ x))) (λ x c. tail c) (λ c. (FitsA (part c) × Rest c) × Known c) (λ c. a_bytes (part c) ++ tail c) = record {
        fits = λ x c fits h. ((subst FitsA (sym h.1.1) fits, h.0), h.1.0);
        bytes = λ x c h. ap (λ (y : A). a_bytes y ++ tail c) h.1.1;
        parts = λ c h. (part c, h.0.0, (h.0.1, (h.1, refl)));
      } in
      then_field field rest then

  -- the last part of a value, where the others are known
  pub known_last : (make : A → C) → ((x : A) → part (make x) ≡ x) → ((x : A) → Known (make x)) → ((c : C) → Known c → c ≡ make (part c)) → IsField (λ c. FitsA (part c) × Known c) (λ c. a_bytes (part c)) (λ u. at u >>= λ x. Ok (make x.0, x.1))
  known_last make back known whole = same_field (made_field make (λ c. a_bytes (part c)) (λ x fits. ap a_bytes (back x)) field) (record {
    to = λ c m. subst (λ (y : C). FitsA (part y) × Known y) (sym m.2) (subst FitsA (sym (back m.0)) m.1, known m.0);
    from = λ c h. (part c, h.0, whole c h.1);
    bytes_are = λ c h. refl;
  })

abbrev make_pair : {A B : Type 0} → A → B → A × B
make_pair x y = (x, y)

-- two fields
pub pair_field : {A B : Type 0} {FitsA : A → Type 0} {a_bytes : A → List ℕ} {at : Unread → Read A} {FitsB : B → Type 0} {b_bytes : B → List ℕ} {behind : Unread → Read B} → IsField FitsA a_bytes at → IsField FitsB b_bytes behind → IsField (λ (p : A × B). FitsA p.0 × FitsB p.1) (λ p. a_bytes p.0 ++ b_bytes p.1) (λ u. at u >>= λ x. behind x.1 >>= λ y. Ok ((x.0, y.0), y.1))
pair_field {A} {B} {FitsA} {a_bytes} {at} {FitsB} {b_bytes} a b = same_field (made_of_two make_pair (λ p. a_bytes p.0 ++ b_bytes p.1) (λ x y f g. refl) a (λ _ _. b)) (record {
  to = λ p m. subst (λ (q : A × B). FitsA q.0 × FitsB q.1) (sym m.4) (m.2, m.3);
  from = λ p h. (p.0, p.1, h.0, h.1, refl);
  bytes_are = λ p h. refl;
})
