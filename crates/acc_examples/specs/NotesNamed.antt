-- The transaction that a note is about, for each of the seven kinds.
use Rattle.std.specs.Prelude.{List, [], ◌∷◌}
use Rattle.acc_stamp.specs.declared.stamps.TxnId.{TxnId}
use Rattle.acc_message.specs.declared.note.Path.TheVariants.{Slow}
use Rattle.acc_message.specs.declared.note.Note.{Note}
use Rattle.acc_message.specs.declared.note.Note.TheVariants.{Begin, Recover, Blocked, Ended, Decide, Outcome, Reply}
use Rattle.acc_examples.specs.Clusters.{stamp, id, ballot, deps_in, ok}

abbrev pub notes : List Note
notes =
    Begin (id 1 64)
    ∷ Recover (id 2 64) (ballot 1 64)
    ∷ Blocked (id 3 64) (ballot 1 64) (id 1 64 ∷ [])
    ∷ Ended (id 4 64) (ballot 1 64) (ballot 2 64)
    ∷ Decide (id 5 64) (stamp 1 64) Slow (deps_in 1 (id 1 64 ∷ []))
    ∷ Outcome (id 6 64) (ok [])
    ∷ Reply (id 7 64) (ok [])
    ∷ []

abbrev pub ids : List TxnId
ids = id 1 64 ∷ id 2 64 ∷ id 3 64 ∷ id 4 64 ∷ id 5 64 ∷ id 6 64 ∷ id 7 64 ∷ []
