-- The logical clock of a node.
use Rattle.std.specs.Prelude.{ℕ, ◌+◌, ◌*◌, max}
use Rattle.acc_stamp.specs.declared.stamps.Stamp.{Stamp}

-- its node and its start, the greatest h that it drew, and the greatest that it saw
pub record ClockState : Type 0 where
  pub node : ℕ
  pub start : ℕ
  pub drawn : ℕ
  pub seen : ℕ

abbrev pub new_clock : ℕ → ℕ → ClockState
new_clock node start = record { node = node; start = start; drawn = start; seen = start }

-- what it draws next
abbrev pub next_stamp : ClockState → Stamp
next_stamp c = record { h = 1 + max c.drawn c.seen; origin = c.node * 64 }

abbrev pub after_draw : ClockState → ClockState
after_draw c = record c { drawn = (next_stamp c).h }

abbrev pub after_seeing : ClockState → ℕ → ClockState
after_seeing c h = record c { seen = max c.seen h }

abbrev pub after_restart : ClockState → ClockState
after_restart c = record c { seen = c.drawn }
