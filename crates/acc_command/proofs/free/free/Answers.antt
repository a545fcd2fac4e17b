-- A document was read and its actors took their turns, or none was read.
use Rattle.std.proofs.Common.{inl, refl}
use Rattle.acc_command_alone.specs.declared.words.Command.TheVariants.{Run}
use Rattle.acc_command_alone.specs.Streams.{streams_of}
use Rattle.acc_command_alone.specs.Command.{DoesOn, IsDue}
use Rattle.acc_command_alone.proofs.CommandFacts.{due_told}
use Rattle.acc_command_alone.proofs.RespondFacts.{answered, long_so}
use Rattle.acc_command.specs.Free.{OverThreads}
use Rattle.acc_command.proofs.free.free.Goals as goal

pub returns-in-Ok : goal.returns-in-Ok
returns-in-Ok g c =
    answered (IsDue (OverThreads g.M.D.Disk (g.M.DiskMaker.strict c.args.disks.now) (g.M.DiskMaker.given c.args.disks.now) (g.M.DiskMaker.given c.reply.new.disks)) Run)
    (DoesOn Run) (due_told _ Run) (streams_of g.S.Source g.K.Sink c.args.source.now c.args.sink.now) (streams_of g.S.Source g.K.Sink c.read_document.new.source c.read_document.new.sink) (streams_of g.S.Source g.K.Sink c.read_document.new.source c.tell.new.sink)
    c.in-Ok.bytes c.reply.result c.tell.result c.in-Ok.ensures.read c.reply.ensures c.tell.ensures.said c.tell.ensures.cause c.tell.ensures.still refl refl refl

pub returns-in-Err : goal.returns-in-Err
returns-in-Err g c =
    long_so (IsDue (OverThreads g.M.D.Disk (g.M.DiskMaker.strict c.args.disks.now) (g.M.DiskMaker.given c.args.disks.now) (g.M.DiskMaker.given c.args.disks.now)) Run)
    (DoesOn Run) _ _ c.in-Err.status (λ bytes text long. inl long) (λ bytes accepted. tt) c.in-Err.ensures.unread
