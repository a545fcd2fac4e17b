-- The chair is one of the tape's.
use Rattle.std.proofs.Common.{sym, subst}
use Rattle.acc_tape_tables.specs.Halls.{IsChair}
use Rattle.acc_tape_tables.proofs.case.act_at.Goals as goal

pub take-requires : goal.take-requires
take-requires g c =
    subst (IsChair c.args.tape.now) (sym c.index_mut.ensures.value) (c.requires.chairs c.args.place c.index_mut.result.now c.requires.place)
