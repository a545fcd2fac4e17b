-- The texts of generated transactions. The first 64 set a key each; each later one takes three draws.
use Rattle.std.specs.Prelude.{ℕ, ◌-◌, ◌*◌, ◌/◌, ◌%◌, nat_lt, if◌then◌else◌, List, ◌++◌, codes, decimal}
use Rattle.acc_generator.specs.Draws.{draw_after, state_after}

-- a number below 100 in two digits
abbrev pub two_digits : ℕ → List ℕ
two_digits n = decimal (n / 10) ++ decimal (n % 10)

-- the end of an update of a key, and of its transaction
abbrev pub end_text : ℕ → List ℕ
end_text key = codes " WHERE k = 'k" ++ two_digits key ++ codes "'; COMMIT TRANSACTION"

-- sets a key to its number
abbrev pub first_text : ℕ → List ℕ
first_text key = codes "BEGIN TRANSACTION UPDATE t SET v = " ++ decimal key ++ end_text key

-- sets a key to the cell of another one, and a number more
abbrev pub later_text : ℕ → ℕ → ℕ → List ℕ
later_text read written added =
    codes "BEGIN TRANSACTION LET r = (SELECT v FROM t WHERE k = 'k" ++ two_digits read
    ++ codes "'); SELECT r.v; UPDATE t SET v = r.v + " ++ decimal added ++ end_text written

-- the text of the transaction of this number, with the draws that follow on a state
unfoldable pub text_from : ℕ → ℕ → List ℕ
text_from state number =
    if nat_lt number 64 then first_text number
    else later_text (draw_after state 0 % 64) (draw_after state 1 % 64) (draw_after state 2 % 100)

-- the state after these draws
unfoldable pub state_behind : ℕ → ℕ → ℕ
state_behind state number = if nat_lt number 64 then state else state_after state 3

-- the state in front of a transaction's draws
unfoldable pub state_before : ℕ → ℕ → ℕ
state_before seed number = state_after seed (3 * (number - 64))

abbrev pub text_of : ℕ → ℕ → List ℕ
text_of seed number = text_from (state_before seed number) number
