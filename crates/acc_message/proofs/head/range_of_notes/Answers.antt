-- The notes of a head stand within all of them.
use Rattle.std.proofs.Common.{length, arith}
use Rattle.acc_message.specs.Joined.{noted_of}
use Rattle.acc_message.proofs.Joined.{within_read, ends_read}
use Rattle.acc_message.proofs.head.range_of_notes.Goals as goal

pub returns-clause-ordered : goal.returns-clause-ordered
returns-clause-ordered c =
    omega (arith, c.begin_notes.ensures, (within_read noted_of c.args.heads.now _ (length c.args.notes.now) c.args.place c.noted-noted.result c.requires.noted c.requires.place c.noted-noted.ensures).0)

pub returns-clause-within : goal.returns-clause-within
returns-clause-within c = (within_read noted_of c.args.heads.now _ (length c.args.notes.now) c.args.place c.noted-noted.result c.requires.noted c.requires.place c.noted-noted.ensures).1

pub returns-clause-range : goal.returns-clause-range
returns-clause-range c = λ head at. (c.begin_notes.ensures, ends_read noted_of c.args.heads.now _ head c.args.place c.noted-noted.result c.requires.place at c.noted-noted.ensures)
