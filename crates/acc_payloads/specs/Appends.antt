-- What an append of a journal makes of the armed call of its strict disk. It is four calls: a write, a sync, the open gate, a sync. It fails
-- at the armed call.
use Rattle.std.specs.Prelude.{ℕ, nat_lt, cond, Bool, false, Option, None, Some}
use Rattle.acc_ports.specs.Strict.{after_call}

-- the armed call after an append, which makes four calls, or as many as come before it and itself
abbrev pub after_append : Option ℕ → Option ℕ
after_append armed = after_call (after_call (after_call (after_call armed)))

-- one of the four calls is the armed one
abbrev pub fails_append : Option ℕ → Bool
fails_append None = false
fails_append (Some calls) = nat_lt calls 4

-- how many calls of the append passed, where one failed
abbrev pub passed_in : Option ℕ → Option ℕ
passed_in None = None
passed_in (Some calls) = cond (nat_lt calls 4) (Some calls) None
