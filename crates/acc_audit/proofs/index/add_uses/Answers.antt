use Rattle.std.proofs.Common.{ℕ, Bool}
use Rattle.acc_stamp.specs.declared.stamps.Stamp.{Stamp}
use Rattle.acc_value.specs.declared.key.Key.{Key}
use Rattle.acc_audit.specs.Users.{users_at}
use Rattle.acc_audit.proofs.UserFacts.{one_use_more, rise_more, use_at}
use Rattle.acc_audit.proofs.index.add_uses.Goals as goal

pub loop-used-preserved : goal.loop-used-preserved
loop-used-preserved c =
    let d = c.used-item.result in
    let i = c.loop-used.used-index in
    let added = use_at c.args.uses.now i d c.args.entry c.loop-used.users c.add.new.users c.used-item.is c.in_ok-add.ensures in
    record {
      users = λ (key : Key) (writes : Bool) (test : Stamp × ℕ → Bool).
          one_use_more key writes test c.args.uses.now i d c.args.entry (users_at c.args.users.now key writes) (users_at c.loop-used.users key writes) (users_at c.add.new.users key writes) c.loop-used-test.true
          (added key writes) (c.loop-used.invariant.users key writes test);
      rise = λ rise none.
          let before = c.loop-used.invariant.rise rise none in
          let both = λ (key : Key) (writes : Bool). rise_more _ c.args.entry (users_at c.loop-used.users key writes) (users_at c.add.new.users key writes) (added key writes) (before.0 key writes) (before.1 key writes) in
          (λ key writes. (both key writes).0, λ key writes. (both key writes).1);
    }
