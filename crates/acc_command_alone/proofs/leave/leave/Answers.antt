-- A document was read and the journals of its run written, or none was read.
use Rattle.std.proofs.Common.{refl, inl}
use Rattle.acc_command_alone.specs.Streams.{streams_of}
use Rattle.acc_command_alone.specs.declared.words.Command.TheVariants.{Run}
use Rattle.acc_command_alone.specs.Command.{DoesOn, OverDisks}
use Rattle.acc_command_alone.specs.Leaving.{IsLeaveDue}
use Rattle.acc_command_alone.proofs.LeavingFacts.{leave_told}
use Rattle.acc_command_alone.proofs.RespondFacts.{answered, long_so}
use Rattle.acc_command_alone.proofs.leave.leave.Goals as goal

pub returns-in-Ok : goal.returns-in-Ok
returns-in-Ok g c =
    answered (IsLeaveDue (OverDisks g.M.D.Disk (g.M.DiskMaker.strict c.args.disks.now) (g.M.DiskMaker.given c.args.disks.now) (g.M.DiskMaker.given c.reply.new.disks))) (DoesOn Run) (leave_told _) (streams_of g.S.Source g.K.Sink c.args.source.now c.args.sink.now)
    (streams_of g.S.Source g.K.Sink c.read_document.new.source c.read_document.new.sink) (streams_of g.S.Source g.K.Sink c.read_document.new.source c.tell.new.sink)
    c.in-Ok.bytes c.reply.result c.tell.result c.in-Ok.ensures.read c.reply.ensures c.tell.ensures.said c.tell.ensures.cause c.tell.ensures.still refl refl refl

pub returns-in-Err : goal.returns-in-Err
returns-in-Err g c = long_so (IsLeaveDue (OverDisks g.M.D.Disk (g.M.DiskMaker.strict c.args.disks.now) (g.M.DiskMaker.given c.args.disks.now) (g.M.DiskMaker.given c.args.disks.now))) (DoesOn Run) _ _ c.in-Err.status (λ bytes text long. inl long) (λ bytes given. tt) c.in-Err.ensures.unread
