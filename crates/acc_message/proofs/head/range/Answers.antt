-- The messages of a head stand within all of them.
use Rattle.std.proofs.Common.{length, arith}
use Rattle.acc_message.specs.Joined.{until_of}
use Rattle.acc_message.proofs.Joined.{within_read, ends_read}
use Rattle.acc_message.proofs.head.range.Goals as goal

pub returns-clause-ordered : goal.returns-clause-ordered
returns-clause-ordered c =
    omega (arith, c.begin.ensures, (within_read until_of c.args.heads.now _ (length c.args.messages.now) c.args.place c.until-until.result c.requires.stretch c.requires.place c.until-until.ensures).0)

pub returns-clause-within : goal.returns-clause-within
returns-clause-within c = (within_read until_of c.args.heads.now _ (length c.args.messages.now) c.args.place c.until-until.result c.requires.stretch c.requires.place c.until-until.ensures).1

pub returns-clause-range : goal.returns-clause-range
returns-clause-range c = λ head at. (c.begin.ensures, ends_read until_of c.args.heads.now _ head c.args.place c.until-until.result c.requires.place at c.until-until.ensures)
