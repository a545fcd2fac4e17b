use Rattle.std.proofs.Common.{Bool, cond, Some, ap, ◌∙◌}
use Rattle.std.specs.BTreeMap as tree
use Rattle.acc_value.specs.declared.key.Key.{Key}
use Rattle.acc_value.specs.Key.{key_cmp, key_eq}
use Rattle.acc_value.proofs.KeyOrder.{key_eq-symm, key_eq-true}
use Rattle.acc_audit.specs.declared.users.Users.{Users}
use Rattle.acc_audit.proofs.UserFacts.{begun_at, missing}
use Rattle.acc_audit.proofs.users.begin.Goals as goal

pub returns : goal.returns
returns c = λ (k : Key) (w : Bool).
    let old = c.args.users.now in
    let none : Users = record { all = c.new.result; writers = c.new-2.result } in
    begun_at (key_eq k c.args.key.now) w c.args.writes c.args.entry none c.push.new.self (tree.get key_cmp old k) (tree.get key_cmp c.insert.new.self k) c.new.ensures.items c.new-2.ensures.items
    c.in_ok-push.ensures.all c.in_ok-push.ensures.writers
    (λ same. ap (tree.get key_cmp old) (key_eq-true k c.args.key.now same) ∙ missing (tree.get key_cmp old c.args.key.now) c.requires)
    (c.in_ok-insert.ensures.updates.0 k ∙ ap (λ (key : Key). cond (key_eq key k) (Some c.push.new.self) (tree.get key_cmp old k)) c.in_ok-copy.ensures
    ∙ ap (λ (b : Bool). cond b (Some c.push.new.self) (tree.get key_cmp old k)) (key_eq-symm c.args.key.now k))
