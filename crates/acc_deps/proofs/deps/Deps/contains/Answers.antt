use Rattle.std.proofs.Common.{refl, ap, ◌∙◌}
use Rattle.acc_stamp.specs.Rising.{id_among}
use Rattle.acc_stamp.proofs.Order.{id_order, id_cmp_total, id_cmp_exact}
use Rattle.acc_stamp.proofs.Places.{searched, is_ok-searched}
use Rattle.acc_deps.proofs.deps.Deps.contains.Goals as goal

pub returns : goal.returns
returns c =
    let ids = c.of_shard.result.now in
    let found = searched id_cmp_total id_cmp_exact (λ a b. refl) (λ y. y) ids c.args.id _ c.of_shard.ensures.rises c.binary_search.ensures.bound c.binary_search.ensures.position in
    c.is_ok.ensures.value ∙ is_ok-searched id_order ids c.args.id _ found ∙ ap (id_among c.args.id) c.of_shard.ensures.ids
