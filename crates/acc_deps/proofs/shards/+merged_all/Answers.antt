use Rattle.std.proofs.Common.{◌≡◌, ℕ, List, ◌++◌, sym, ap, ◌∙◌, subst, take, drop}
use Rattle.std.specs.List.{AllByRecursion}
use Rattle.std.proofs.lemmas.List.{take-append-drop}
use Rattle.std.proofs.lemmas.Result.{IfOk-weaker}
use Rattle.acc_stamp.proofs.Rising.{each_parts}
use Rattle.acc_stamp.specs.Rising.{IsRising, ids_union}
use Rattle.acc_deps.specs.declared.shards.ShardDeps.{ShardDeps}
use Rattle.acc_deps.specs.Deps.{all_ids}
use Rattle.acc_deps.proofs.ByShard.{IsRising-all_ids, all_ids-append}
use Rattle.acc_deps.proofs.shards.+merged_all.Goals as goal

abbrev Rise : List ShardDeps → Type 0
Rise ds = AllByRecursion (λ d. IsRising d.ids) ds

halves_rise : (ds front back : List ShardDeps) (n : ℕ) → Rise ds → front ≡ take n ds → back ≡ drop n ds → Rise front × Rise back
halves_rise ds front back n h e f =
    let parts = each_parts (λ d. IsRising d.ids) (take n ds) (drop n ds) (subst Rise (sym (take-append-drop n ds)) h) in
    (subst Rise (sym e) parts.0, subst Rise (sym f) parts.1)

all_of_halves : (ds front back : List ShardDeps) (n : ℕ) → Rise ds → front ≡ take n ds → back ≡ drop n ds → ids_union (all_ids front) (all_ids back) ≡ all_ids ds
all_of_halves ds front back n h e f =
    let rise = halves_rise ds front back n h e f in
    sym (all_ids-append front back rise.0 rise.1) ∙ ap all_ids (ap (λ zs. zs ++ back) e ∙ ap (λ zs. take n ds ++ zs) f ∙ take-append-drop n ds)

pub merged_ids-requires-clause-left_rises : goal.merged_ids-requires-clause-left_rises
merged_ids-requires-clause-left_rises t c =
    let rise = halves_rise c.args.shards.now _ _ _ c.requires c.split_at.ensures.front c.split_at.ensures.back in
    subst IsRising (sym (c.as_slice.ensures ∙ c.in_ok-front-in_default.ensures)) (IsRising-all_ids _ rise.0)

pub merged_ids-requires-clause-right_rises : goal.merged_ids-requires-clause-right_rises
merged_ids-requires-clause-right_rises t c =
    let rise = halves_rise c.args.shards.now _ _ _ c.requires c.split_at.ensures.front c.split_at.ensures.back in
    subst IsRising (sym (c.as_slice-in_default.ensures ∙ c.in_ok-back-in_default.ensures)) (IsRising-all_ids _ rise.1)

pub returns-in_ok-back-in_default : goal.returns-in_ok-back-in_default
returns-in_ok-back-in_default t c =
    let left = c.as_slice.ensures ∙ c.in_ok-front-in_default.ensures in
    let right = c.as_slice-in_default.ensures ∙ c.in_ok-back-in_default.ensures in
    let whole = all_of_halves c.args.shards.now _ _ _ c.requires c.split_at.ensures.front c.split_at.ensures.back in
    IfOk-weaker _ (λ ids. ids ≡ ids_union c.as_slice.result.now c.as_slice-in_default.result.now) (λ ids. ids ≡ all_ids c.args.shards.now)
    (λ ids e. e ∙ ap (λ xs. ids_union xs c.as_slice-in_default.result.now) left ∙ ap (ids_union (all_ids c.split_at.result.0.now)) right ∙ whole)
    c.merged_ids.ensures
