-- Draws from a seed, by a linear congruence.
use Rattle.std.specs.Prelude.{ℕ, zero, suc, ◌+◌, ◌*◌, ◌/◌, ◌%◌, ◌^◌}

abbrev pub next_state : ℕ → ℕ
next_state state = (state * 6364136223846793005 + 1442695040888963407) % 2 ^ 64

-- the state after so many draws
abbrev pub state_after : ℕ → ℕ → ℕ
state_after state zero = state
state_after state (suc count) = next_state (state_after state count)

-- the number that is drawn after so many draws
abbrev pub draw_after : ℕ → ℕ → ℕ
draw_after state count = state_after state (suc count) / 2 ^ 33
