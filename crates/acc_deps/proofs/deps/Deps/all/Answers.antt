use Rattle.std.proofs.Common.{◌≡◌, sym, ap, ◌∙◌, subst}
use Rattle.std.proofs.lemmas.Result.{IfOk-weaker}
use Rattle.acc_stamp.specs.Rising.{IsRising}
use Rattle.acc_deps.specs.Deps.{all_ids}
use Rattle.acc_deps.proofs.ByShard.{IsRising-all_ids}
use Rattle.acc_deps.proofs.deps.Deps.all.Goals as goal

pub returns-clause-rises : goal.returns-clause-rises
returns-clause-rises c =
    IfOk-weaker _ (λ ids. ids ≡ all_ids c.by_shard.result.now) IsRising
    (λ ids e. subst IsRising (sym (e ∙ ap all_ids c.by_shard.ensures.shards)) (IsRising-all_ids _ c.by_shard.ensures.stands.ids)) c.merged_all.ensures
