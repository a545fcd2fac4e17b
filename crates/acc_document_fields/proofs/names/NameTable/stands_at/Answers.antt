use Rattle.std.proofs.Common.{◌≡◌, ℕ, List, Some, length, position, subst, sym}
use Rattle.std.specs.Str.{bytes_eq}
use Rattle.std.proofs.lemmas.Bool.{ltb-true}
use Rattle.acc_document_fields.proofs.PlaceFacts.{place_tested}
use Rattle.acc_document_fields.proofs.names.NameTable.stands_at.Goals as goal

pub returns-in-Some : goal.returns-in-Some
returns-in-Some c = λ same.
    let items : List (List ℕ) = c.as_slice.result.now in
    subst (λ (names : List (List ℕ)). position (bytes_eq c.args.name.now) names ≡ Some c.args.place) c.self.view_is
    (place_tested items c.self.inside.names c.args.place c.in-Some.found.now c.as_slice-in-Some.result.now c.args.name.now c.eq.result c.self.invariant.1 c.as_slice.ensures
    (ltb-true c.args.place (length items) (sym c.in-Some.ensures.lookup.0)) c.in-Some.ensures.lookup.1 c.as_slice-in-Some.ensures c.eq.ensures same)
