-- A document with journals was read and its steps taken, or none was read.
use Rattle.std.proofs.Common.{refl, inl}
use Rattle.acc_command_alone.specs.Streams.{streams_of}
use Rattle.acc_command_alone.specs.Resuming.{IsResumeDue, ResumesOn}
use Rattle.acc_command_alone.proofs.ResumingFacts.{due_and_done, resume_told, IsDueAndDone}
use Rattle.acc_command_alone.proofs.RespondFacts.{answered, answers_so, long_so}
use Rattle.acc_command_alone.proofs.resume.resume.Goals as goal

pub returns-in-Ok : goal.returns-in-Ok
returns-in-Ok g c =
    answers_so IsDueAndDone IsResumeDue ResumesOn ResumesOn (streams_of g.S.Source g.K.Sink c.args.source.now c.args.sink.now)
    (streams_of g.S.Source g.K.Sink c.read_document.new.source c.tell.new.sink) c.tell.result (λ bytes status text due. due.0) (λ bytes does. does)
    (answered IsDueAndDone ResumesOn resume_told (streams_of g.S.Source g.K.Sink c.args.source.now c.args.sink.now)
    (streams_of g.S.Source g.K.Sink c.read_document.new.source c.read_document.new.sink) (streams_of g.S.Source g.K.Sink c.read_document.new.source c.tell.new.sink)
    c.in-Ok.bytes c.reply.result c.tell.result c.in-Ok.ensures.read (due_and_done c.in-Ok.bytes c.reply.result c.reply.ensures.due c.reply.ensures.does)
    c.tell.ensures.said c.tell.ensures.cause c.tell.ensures.still refl refl refl)

pub returns-in-Err : goal.returns-in-Err
returns-in-Err g c = long_so IsResumeDue ResumesOn _ _ c.in-Err.status (λ bytes text long. inl long) (λ bytes has. tt) c.in-Err.ensures.unread
