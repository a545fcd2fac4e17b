use Rattle.std.proofs.Common.{sym, subst, ◌∙◌}
use Rattle.std.proofs.lemmas.List.Filters.{dedup_is}
use Rattle.std.proofs.lemmas.List.Sorted.{Contains-permutation, IsPermutation-sym}
use Rattle.acc_stamp.specs.Stamp.{id_eq}
use Rattle.acc_stamp.specs.Rising.{IsRising}
use Rattle.acc_index.proofs.Ids.{sorted_names, IsRising-names}
use Rattle.acc_index.proofs.order.rising.Goals as goal

found_names : goal.returns-clause-ids
found_names c =
    c.from_vec.ensures ∙ c.shrink_to_fit.ensures.items ∙ dedup_is id_eq _ _ c.dedup.ensures.filtered
    ∙ sorted_names c.args.found.items c.sort.new.self.items
    (λ x. Contains-permutation _ _ x c.sort.ensures.permutation) (λ x. Contains-permutation _ _ x (IsPermutation-sym _ _ c.sort.ensures.permutation)) c.in_ok-sort.ensures.sorted

pub returns-clause-ids : goal.returns-clause-ids
returns-clause-ids c = found_names c

pub returns-clause-rises : goal.returns-clause-rises
returns-clause-rises c = subst IsRising (sym (found_names c)) (IsRising-names c.args.found.items)
