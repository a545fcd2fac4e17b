use Rattle.std.proofs.Common.{List, ℕ, Bool, cond, codes, None, sym, ap, ◌∙◌}
use Rattle.serde_json.specs.Find.{get}
use Rattle.serde_json.specs.View.{view}
use Rattle.acc_schedule.proofs.ApartFacts.{get-without, same_back}
use Rattle.acc_schedule.proofs.document.print_without.Goals as goal

pub returns-then-eq : goal.returns-then-eq
returns-then-eq c =
    let name : List ℕ = codes "print" in
    let d = view c.args.root.now in
    sym (get-without c.args.apart.now name d ∙ ap (λ (b : Bool). cond b None (get name d)) (same_back c.args.apart.now name _ (sym c.if-eq.ensures)))

pub returns-else-eq : goal.returns-else-eq
returns-else-eq c =
    let name : List ℕ = codes "print" in
    let d = view c.args.root.now in
    c.get.ensures ∙ sym (get-without c.args.apart.now name d ∙ ap (λ (b : Bool). cond b None (get name d)) (same_back c.args.apart.now name _ (sym c.if-eq.ensures)))
