use Rattle.std.proofs.Common.{◌≡◌, ℕ, List, [], ◌∷◌, ◌++◌, false, not, Some, cond, is_some, position, sym, ap, subst, ◌∙◌}
use Rattle.std.specs.List.{list_any}
use Rattle.std.specs.Str.{bytes_eq}
use Rattle.acc_document_fields.specs.Names.{AreOnce}
use Rattle.acc_document_fields.proofs.PlaceFacts.{fresh_is, known_is, once_push, placed}
use Rattle.acc_document_fields.proofs.names.NameTable.add.Goals as goal

pub invariant_of-self-in-Ok-true : goal.invariant_of-self-in-Ok-true
invariant_of-self-in-Ok-true c =
    let name : List ℕ = c.args.name.now in
    let names : List (List ℕ) = c.self.inside.names in
    let place : ℕ = c.len-place.result in
    let fresh : list_any (bytes_eq name) names ≡ false =
    fresh_is names name c.in-Ok-true.field-0 (c.in-Ok-true.ensures.fresh ∙ ap not (ap is_some (c.self.invariant.0 name))) c.in-Ok-true.field-0-test in
    let grown : c.push.new.self ≡ names ++ name ∷ [] = c.in_ok-push.ensures.ok ∙ ap (λ (n : List ℕ). names ++ n ∷ []) c.in_ok-from_slice.ensures in (
      (λ (other : List ℕ).
          c.in-Ok-true.ensures.added c.in-Ok-true.field-0-test other ∙ (λ i. cond (bytes_eq name other) (Some place) (c.self.invariant.0 other i)) ∙ placed names name place other c.len-place.ensures fresh
          ∙ ap (position (bytes_eq other)) (sym grown)),
      subst AreOnce (sym grown) (once_push names name c.self.invariant.1 fresh),
    )

pub returns-in-Ok-true-clause-added : goal.returns-in-Ok-true-clause-added
returns-in-Ok-true-clause-added c =
    let name = c.args.name.now in
    sym c.in-Ok-true.field-0-test ∙ c.in-Ok-true.ensures.fresh
    ∙ ap not (ap is_some (c.self.invariant.0 name) ∙ sym (known_is c.self.inside.names name) ∙ ap (list_any (bytes_eq name)) c.self.view_is)

pub returns-in-Ok-false-clause-added : goal.returns-in-Ok-false-clause-added
returns-in-Ok-false-clause-added c =
    let name = c.args.name.now in
    sym c.in-Ok-false.field-0-test ∙ c.in-Ok-false.ensures.fresh
    ∙ ap not (ap is_some (c.self.invariant.0 name) ∙ sym (known_is c.self.inside.names name) ∙ ap (list_any (bytes_eq name)) c.self.view_is)
