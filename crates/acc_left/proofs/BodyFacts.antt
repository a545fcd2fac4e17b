-- Bodies by their bytes.
use Rattle.std.proofs.Common.{◌≡◌, List, [], ◌++◌, Bool, true, ℕ, Option, None, Some, sym, ap, ◌∙◌}
use Rattle.std.specs.Prelude.{◌↔◌}
use Rattle.std.specs.Str.{bytes_eq}
use Rattle.std.proofs.lemmas.Option.{none-some, same_Some}
use Rattle.std.proofs.lemmas.Slice.Eq.{bytes_eq-Decides}
use Rattle.acc_wire.proofs.Fields.{field_once}
use Rattle.acc_txn.specs.declared.parts.BodyParts.{BodyParts}
use Rattle.acc_txn.specs.BodySpelling.{body_bytes}
use Rattle.acc_txn.specs.Short.{IsNumberedBody}
use Rattle.acc_code.proofs.PartsFormat.{body_field}
use Rattle.acc_code.proofs.RulesGiven.{rules_given}

-- bodies with equal bytes are equal
pub same_code : (a b : BodyParts) (equal : Bool) → IsNumberedBody a → IsNumberedBody b → equal ≡ bytes_eq (body_bytes a) (body_bytes b) → (equal ≡ true) ↔ (a ≡ b)
same_code a b equal na nb is = (
  λ e.
      (field_once body_field a b [] [] (rules_given a na) (rules_given b nb) (ap (λ (l : List ℕ). l ++ []) ((bytes_eq-Decides (body_bytes a) (body_bytes b)).0 (sym is ∙ e)))).0,
  λ same. is ∙ (bytes_eq-Decides (body_bytes a) (body_bytes b)).1 (ap body_bytes same),
)

pub body_is : (brought : Option BodyParts) (a b : BodyParts) (equal : Bool) → brought ≡ Some a → (equal ≡ true) ↔ (a ≡ b) → (equal ≡ true) ↔ (brought ≡ Some b)
body_is brought a b equal is same = (λ e. is ∙ ap Some (same.0 e), λ there. same.1 (same_Some a b (sym is ∙ there)))

pub body_none : (brought : Option BodyParts) (b : BodyParts) (equal : Bool) → brought ≡ None → (equal ≡ true → ⊥) → (equal ≡ true) ↔ (brought ≡ Some b)
body_none brought b equal none never = (λ e. absurd (never e), λ there. absurd (none-some b (sym none ∙ there)))
