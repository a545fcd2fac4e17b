-- The entry stands by the keys so far.
use Rattle.std.proofs.Common.{◌≡◌, ℕ, Bool, ◌&&◌, ◌||◌, take}
use Rattle.std.specs.List.{list_any}
use Rattle.acc_stamp.specs.declared.stamps.Stamp.{Stamp}
use Rattle.acc_value.specs.declared.key.Key.{Key}
use Rattle.acc_audit.specs.Users.{touches, users_at, AllRise, NoneAbove}
use Rattle.acc_audit.proofs.index.add_uses.Given as goal

abbrev pub invariant-loop-used : goal.invariant-loop-used
invariant-loop-used l = record {
  users : (key : Key) (writes : Bool) (test : Stamp × ℕ → Bool) → list_any test (users_at l.users key writes) ≡ (list_any test (users_at l.initial.users key writes) || (touches key writes (take l.used-index l.uses) && test l.entry));
  rise : AllRise l.initial.users → NoneAbove l.entry.0 l.initial.users → AllRise l.users × NoneAbove l.entry.0 l.users;
}
