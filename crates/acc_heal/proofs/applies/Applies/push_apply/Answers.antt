use Rattle.std.proofs.Common.{◌≤◌, [], ◌∷◌, ◌++◌, length, map, Some, sym, ◌∙◌, ap, subst}
use Rattle.std.specs.List.{AllByRecursion}
use Rattle.acc_heal.specs.Applies.{marked}
use Rattle.acc_heal.proofs.Marks.{all_within, all_within_more, marked_more}
use Rattle.acc_heal.proofs.applies.Applies.push_apply.Goals as goal

pub invariant_of-self : goal.invariant_of-self
invariant_of-self c = all_within c.self.inside.ids.items c.mark_last.new.ids.items c.mark_last.ensures.kept c.self.inside.marks c.self.invariant

pub invariant_of-self-in_err-push : goal.invariant_of-self-in_err-push
invariant_of-self-in_err-push c =
    let ids = c.mark_last.new.ids.items in
    subst (AllByRecursion (λ m. m ≤ length ids)) (sym c.in_err-push.ensures.err)
    (all_within c.self.inside.ids.items ids c.mark_last.ensures.kept c.self.inside.marks c.self.invariant)

pub invariant_of-self-2 : goal.invariant_of-self-2
invariant_of-self-2 c =
    let ids = c.mark_last.new.ids.items in
    subst (AllByRecursion (λ m. m ≤ length ids)) (sym c.in_ok-push.ensures.ok)
    (all_within_more c.self.inside.ids.items ids c.mark_last.ensures.kept c.self.inside.marks c.in_ok-mark.mark c.in_ok-mark.ensures.last c.self.invariant)

pub returns : goal.returns
returns c =
    let ids = c.mark_last.new.ids.items in
    ap (map (marked ids)) c.in_ok-push.ensures.ok
    ∙ marked_more c.self.inside.ids.items ids c.mark_last.ensures.kept c.self.inside.marks c.in_ok-mark.mark c.args.id c.in_ok-mark.ensures.points c.self.invariant
    ∙ ap (λ l. l ++ Some c.args.id ∷ []) c.self.view_is
