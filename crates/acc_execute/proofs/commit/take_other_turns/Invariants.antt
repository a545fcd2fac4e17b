-- The turns so far are taken.
use Rattle.std.proofs.Common.{◌≡◌, cond, take}
use Rattle.std.specs.Option.{option_map}
use Rattle.acc_stamp.specs.declared.stamps.TxnId.{TxnId}
use Rattle.acc_stamp.specs.Stamp.{id_eq}
use Rattle.acc_record.specs.Shelf.{record_at}
use Rattle.acc_opening.specs.Turns.{changes_in}
use Rattle.acc_execute.specs.Opened.{executed}
use Rattle.acc_execute.proofs.commit.take_other_turns.Given as goal

abbrev pub invariant-loop-turn : goal.invariant-loop-turn
invariant-loop-turn l =
    (y : TxnId) → record_at l.records y ≡ cond (id_eq l.id y) (record_at l.initial.records y) (option_map (executed (changes_in (take l.turn-index l.turns)) y) (record_at l.initial.records y))
