-- What the laws of strict disks speak of.
use Rattle.std.specs.Prelude.{◌≡◌, ℕ, zero, suc, true, false, Option}
use Rattle.acc_stamp.specs.declared.actors.Actor.{Actor}
use Rattle.acc_schedule.specs.declared.plan.Step.{Step}
use Rattle.acc_schedule.specs.declared.plan.Step.TheVariants.{Begin, Deliver, Drop, Recover, Slow, Restart, Fail, Drain}
use Rattle.acc_schedule_runs.specs.Moves.{Answers}
use Rattle.acc_payloads.specs.Appends.{after_append}
use Rattle.acc_schedule_runs.specs.Disks.{Disks, after_step}

-- the armed call after so many appends
abbrev pub after_appends : ℕ → Option ℕ → Option ℕ
after_appends zero armed = armed
after_appends (suc appends) armed = after_append (after_appends appends armed)

-- the disks after so many journalled steps of the actor
abbrev pub after_steps : ℕ → Actor → Disks → Disks
after_steps zero a disks = disks
after_steps (suc steps) a disks = after_step true a (after_steps steps a disks)

-- what the disks have of one actor is as before
pub record IsAsBefore (b : Actor) (old new : Disks) : Type 0 where
  pub armed : new.armed b ≡ old.armed b
  pub passed : new.passed b ≡ old.passed b

-- any step but one that arms a disk
abbrev pub ArmsNothing : Step → Type 0
ArmsNothing (Begin txn) = Unit {0}
ArmsNothing (Deliver message) = Unit {0}
ArmsNothing (Drop message) = Unit {0}
ArmsNothing (Recover txn node) = Unit {0}
ArmsNothing (Slow txn) = Unit {0}
ArmsNothing (Restart actor choice) = Unit {0}
ArmsNothing (Fail actor calls) = ⊥
ArmsNothing Drain = Unit {0}

-- the answers of disks of which none fails and none keeps what was stopped
abbrev pub no_faults : Answers
no_faults = record { fails = λ place. false; keeps = λ place. false }
