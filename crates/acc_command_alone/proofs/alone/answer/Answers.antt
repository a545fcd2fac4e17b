-- A document was read and answered, or none was read.
use Rattle.std.proofs.Common.{refl, inl}
use Rattle.acc_command_alone.specs.Streams.{streams_of}
use Rattle.acc_command_alone.specs.Command.{DoesOn, IsDue, OverDisks}
use Rattle.acc_command_alone.proofs.CommandFacts.{due_told}
use Rattle.acc_command_alone.proofs.RespondFacts.{answered, long_so}
use Rattle.acc_command_alone.proofs.alone.answer.Goals as goal

pub returns-in-Ok-clause-responds : goal.returns-in-Ok-clause-responds
returns-in-Ok-clause-responds g c =
    answered (IsDue (OverDisks g.M.D.Disk (g.M.DiskMaker.strict c.args.disks.now) (g.M.DiskMaker.given c.args.disks.now) (g.M.DiskMaker.given c.reply.new.disks)) c.args.command) (DoesOn c.args.command) (due_told _ c.args.command) (streams_of g.S.Source g.K.Sink c.args.source.now c.args.sink.now)
    (streams_of g.S.Source g.K.Sink c.read_document.new.source c.read_document.new.sink) (streams_of g.S.Source g.K.Sink c.read_document.new.source c.tell.new.sink)
    c.in-Ok.bytes c.reply.result c.tell.result c.in-Ok.ensures.read c.reply.ensures.due c.tell.ensures.said c.tell.ensures.cause c.tell.ensures.still refl refl refl

pub returns-in-Err-clause-responds : goal.returns-in-Err-clause-responds
returns-in-Err-clause-responds g c = long_so (IsDue (OverDisks g.M.D.Disk (g.M.DiskMaker.strict c.args.disks.now) (g.M.DiskMaker.given c.args.disks.now) (g.M.DiskMaker.given c.args.disks.now)) c.args.command) (DoesOn c.args.command) _ _ c.in-Err.status (λ bytes text long. inl long) (λ bytes given. tt) c.in-Err.ensures.unread
