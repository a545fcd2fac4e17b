-- A case was read and judged, or none was read.
use Rattle.std.proofs.Common.{refl}
use Rattle.acc_command_alone.specs.Streams.{streams_of}
use Rattle.acc_command_alone.specs.Judging.{IsAuditDue, JudgesOn}
use Rattle.acc_command_alone.proofs.JudgeFacts.{audit_told}
use Rattle.acc_command_alone.proofs.RespondFacts.{answered, long_so}
use Rattle.acc_command_alone.proofs.audit.audit.Goals as goal

pub returns-in-Ok : goal.returns-in-Ok
returns-in-Ok g c =
    answered IsAuditDue JudgesOn audit_told (streams_of g.S.Source g.K.Sink c.args.source.now c.args.sink.now)
    (streams_of g.S.Source g.K.Sink c.read_document.new.source c.read_document.new.sink) (streams_of g.S.Source g.K.Sink c.read_document.new.source c.tell.new.sink)
    c.in-Ok.bytes c.reply.result c.tell.result c.in-Ok.ensures.read c.reply.ensures c.tell.ensures.said c.tell.ensures.cause c.tell.ensures.still refl refl refl

pub returns-in-Err : goal.returns-in-Err
returns-in-Err g c = long_so IsAuditDue JudgesOn _ _ c.in-Err.status (λ bytes text long. long) (λ bytes given. tt) c.in-Err.ensures.unread
