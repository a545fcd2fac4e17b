use Rattle.std.proofs.Common.{◌≡◌, true, rules, ◌<◌, ◌-◌, length, refl, sym, ap, ◌∙◌, arith}
use Rattle.acc_stamp.specs.Stamp.{id_lt}
use Rattle.acc_stamp.proofs.Order.{id_order, id_cmp_total, id_cmp_exact}
use Rattle.acc_stamp.proofs.Places.{searched, IsGapFor-behind}
use Rattle.acc_deps.proofs.ids.place_of_id.Goals as goal

pub returns-in_default : goal.returns-in_default
returns-in_default c =
    searched id_cmp_total id_cmp_exact (λ a b. refl) (λ y. y) c.args.ids.now c.args.id _ c.requires c.binary_search.ensures.bound c.binary_search.ensures.position

pub returns-in-Some : goal.returns-in-Some
returns-in-Some c =
    let ids = c.args.ids.now in
    let last = c.in-Some.last.now in
    let item = c.in-Some.ensures.item in
    let some : 0 < length ids = item.3.0 in
    let less : id_lt last c.args.id ≡ true = search (rules, c.if-lt.ensures) in
    IsGapFor-behind id_order ids (length ids - 1) last c.args.id c.requires (omega arith)
    (ap (λ y. id_lt y c.args.id) (sym item.1) ∙ less)
