use Rattle.std.proofs.Common.{◌≡◌, List, [], ◌∷◌, ℕ, false, codes, sym, ap, subst, ◌∙◌}
use Rattle.std.specs.List.{list_any}
use Rattle.std.specs.Str.{bytes_eq}
use Rattle.serde_json.specs.View.{view}
use Rattle.acc_schedule.specs.Document.{needed_fields}
use Rattle.acc_schedule.specs.Faults.{Fault, Gives, IsFault}
use Rattle.acc_schedule.specs.Fields.{object_fault}
use Rattle.acc_schedule.proofs.ApartFacts.{object_fault-lacks, object_fault-without}
use Rattle.acc_schedule.proofs.FieldFacts.{list_any-map}
use Rattle.acc_schedule.proofs.document.object_without.Goals as goal

pub returns-then-is_among : goal.returns-then-is_among
returns-then-is_among c =
    let apart : List ℕ = c.args.apart.now in
    let among = ap (list_any (bytes_eq apart)) (sym c.needed.ensures) ∙ list_any-map (bytes_eq apart) (λ name. name.now) c.needed.result ∙ sym c.if-is_among.ensures in
    subst (λ (f : Fault). IsFault f c.wrong.result) (sym (object_fault-lacks apart needed_fields (codes "print" ∷ []) (view c.args.root.now) among)) c.wrong.ensures

pub returns : goal.returns
returns c =
    let apart : List ℕ = c.args.apart.now in
    let d = view c.args.root.now in
    let among : list_any (bytes_eq apart) needed_fields ≡ false = ap (list_any (bytes_eq apart)) (sym c.needed.ensures) ∙ list_any-map (bytes_eq apart) (λ name. name.now) c.needed.result ∙ sym c.if-is_among.ensures in
    let same = ap (λ (needed : List (List ℕ)). object_fault needed (codes "print" ∷ apart ∷ []) [] d) c.needed-2.ensures ∙ sym (object_fault-without apart needed_fields (codes "print" ∷ []) d among) in
    subst (λ (f : Fault). Gives f (λ x. Unit {0}) c.object.result) same c.object.ensures
