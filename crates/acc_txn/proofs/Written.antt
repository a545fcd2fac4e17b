-- Writes that follow on others.
use Rattle.std.proofs.Common.{◌≡◌, List, [], Option, Result, Ok, Err, refl}
use Rattle.acc_value.specs.declared.value.Value.{Value}
use Rattle.std.specs.List.{fold}
use Rattle.acc_value.specs.declared.key.Key.{Key}
use Rattle.acc_value.specs.Pairs.{put}
use Rattle.acc_txn.specs.declared.evaluate.Overflow.{Overflow}
use Rattle.acc_txn.specs.Meaning.{in_front, final}

-- the writes so far with later ones
abbrev pub after : List (Key × Option Value) → Result (List (Key × Option Value)) Overflow → Result (List (Key × Option Value)) Overflow
after so_far (Err error) = Err error
after so_far (Ok later) = Ok (fold (λ writes write. put writes write.0 write.1) so_far later)

pub after-in_front : (so_far : List (Key × Option Value)) (write : Key × Option Value) (later : Result (List (Key × Option Value)) Overflow) → after so_far (in_front (Ok write) later) ≡ after (put so_far write.0 write.1) later
after-in_front so_far write (Err error) = refl
after-in_front so_far write (Ok later) = refl

pub after-none : (writes : Result (List (Key × Option Value)) Overflow) → after [] writes ≡ final writes
after-none (Err error) = refl
after-none (Ok writes) = refl
