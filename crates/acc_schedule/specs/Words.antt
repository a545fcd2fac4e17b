-- The words with which steps begin.
use Rattle.std.specs.Prelude.{ℕ, List, codes, Option, Some, None, if◌then◌else◌}
use Rattle.std.specs.Str.{bytes_eq}
use Rattle.acc_schedule.specs.declared.words.Word.{Word}
use Rattle.acc_schedule.specs.declared.words.Word.TheVariants.{Begin, Deliver, Drop, Recover, Slow, Restart, Fail, Drain}

abbrev pub word_of : List ℕ → Option Word
word_of text =
    if bytes_eq text (codes "begin") then Some Begin
    else if bytes_eq text (codes "deliver") then Some Deliver
    else if bytes_eq text (codes "drop") then Some Drop
    else if bytes_eq text (codes "recover") then Some Recover
    else if bytes_eq text (codes "slow") then Some Slow
    else if bytes_eq text (codes "restart") then Some Restart
    else if bytes_eq text (codes "fail") then Some Fail
    else if bytes_eq text (codes "drain") then Some Drain
    else None
