use Rattle.std.proofs.Common.{rules, ◌≡◌, Bool, true, cond, Some, sym, ap, ◌∙◌}
use Rattle.std.specs.BTreeMap as tree
use Rattle.acc_value.specs.declared.key.Key.{Key}
use Rattle.acc_value.specs.Key.{key_cmp, key_eq}
use Rattle.acc_value.proofs.KeyOrder.{key_eq-symm, key_eq-true}
use Rattle.acc_audit.proofs.UserFacts.{pushed_at}
use Rattle.acc_audit.proofs.users.add.Goals as goal

pub returns-in_ok-push-in-Some : goal.returns-in_ok-push-in-Some
returns-in_ok-push-in-Some c = λ (k : Key) (w : Bool).
    let old = c.args.users.now in
    let was : key_eq k c.args.key.now ≡ true → tree.get key_cmp old k ≡ Some c.in-Some.found.now =
    λ same. ap (tree.get key_cmp old) (key_eq-true k c.args.key.now same) ∙ sym c.in-Some.ensures.value in
    let set : tree.get key_cmp (c.get_mut.follows.lender c.push.new.self) k ≡ cond (key_eq c.args.key.now k) (Some c.push.new.self) (tree.get key_cmp old k) = search rules in
    pushed_at (key_eq k c.args.key.now) w c.args.writes c.args.entry c.in-Some.found.now c.push.new.self (tree.get key_cmp old k) (tree.get key_cmp (c.get_mut.follows.lender c.push.new.self) k) c.in_ok-push-in-Some.ensures.all c.in_ok-push-in-Some.ensures.writers was
    (set ∙ ap (λ (b : Bool). cond b (Some c.push.new.self) (tree.get key_cmp old k)) (key_eq-symm c.args.key.now k))
