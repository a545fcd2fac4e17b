use Rattle.std.proofs.Common.{◌≡◌, ℕ, List, Some, cond, sym, ap, subst, ◌∙◌}
use Rattle.std.specs.Str.{bytes_eq}
use Rattle.acc_document_fields.specs.Names.{place_in}
use Rattle.acc_document_fields.proofs.PlaceFacts.{place_after, as_before}
use Rattle.acc_document_fields.proofs.names.enter.Goals as goal

pub returns-in-None-clause-added : goal.returns-in-None-clause-added
returns-in-None-clause-added c = λ _. λ (other : List ℕ).
    let places = c.args.places.now in
    place_after c.in_ok-from_slice.field-0.items places c.insert.new.self (Some c.args.place) c.in_ok-insert.ensures.updates other
    ∙ ap (λ (name : List ℕ). cond (bytes_eq name other) (Some c.args.place) (place_in places other)) c.in_ok-from_slice.ensures.items

pub returns-in-Some-clause-known : goal.returns-in-Some-clause-known
returns-in-Some-clause-known c = λ _. λ (other : List ℕ).
    let places = c.args.places.now in
    as_before c.args.name.now c.in-Some.before (Some c.args.place) (place_in places) (place_in c.insert.new.self) (place_in c.put_back.new.places)
    (subst (λ (name : List ℕ). place_in places name ≡ Some c.in-Some.before) c.in_ok-from_slice.ensures.items (sym c.in_ok-insert.ensures.old ∙ c.in-Some.is))
    (λ (name : List ℕ).
    place_after c.in_ok-from_slice.field-0.items places c.insert.new.self (Some c.args.place) c.in_ok-insert.ensures.updates name
    ∙ ap (λ (added : List ℕ). cond (bytes_eq added name) (Some c.args.place) (place_in places name)) c.in_ok-from_slice.ensures.items) c.put_back.ensures other
