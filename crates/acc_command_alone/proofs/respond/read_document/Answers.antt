-- Each way to get no document.
use Rattle.std.proofs.Common.{Err, refl, ap}
use Rattle.acc_ports.specs.declared.error.ReadError.{ReadError}
use Rattle.acc_command_alone.specs.Streams.{streams_of}
use Rattle.acc_command_alone.proofs.RespondFacts.{had_no_memory, has_failed, was_long}
use Rattle.acc_command_alone.proofs.respond.read_document.Goals as goal

pub returns-in-Err-TooLong-clause-unread : goal.returns-in-Err-TooLong-clause-unread
returns-in-Err-TooLong-clause-unread g c =
    let is = ap (λ (e : ReadError). Err e) c.in-Err-TooLong.field-0-is in
    let told = c.in-Err-TooLong.ensures in
    let which = c.in-Err-TooLong.field-0-is in
    was_long (streams_of g.S.Source g.K.Sink c.args.source.now c.args.sink.now) (streams_of g.S.Source g.K.Sink c.read_all.new.source c.say.new.sink)
    told.no_end _ c.say.result refl (told.too_long is) (told.one_more is) told.taken (told.still (λ e. cc)) c.say.ensures.said c.say.ensures.cause c.say.ensures.still

pub returns-in-Err-Failed-clause-unread : goal.returns-in-Err-Failed-clause-unread
returns-in-Err-Failed-clause-unread g c =
    let is = ap (λ (e : ReadError). Err e) c.in-Err-Failed.field-0-is in
    let told = c.in-Err-Failed.ensures in
    has_failed (streams_of g.S.Source g.K.Sink c.args.source.now c.args.sink.now) (streams_of g.S.Source g.K.Sink c.read_all.new.source c.args.sink.now)
    told.no_end told.taken refl refl (told.cause is)

pub returns-in-Err-OutOfMemory-clause-unread : goal.returns-in-Err-OutOfMemory-clause-unread
returns-in-Err-OutOfMemory-clause-unread g c =
    let told = c.in-Err-OutOfMemory.ensures in
    let which = c.in-Err-OutOfMemory.field-0-is in
    had_no_memory (streams_of g.S.Source g.K.Sink c.args.source.now c.args.sink.now) (streams_of g.S.Source g.K.Sink c.read_all.new.source c.args.sink.now)
    told.no_end told.taken refl refl (told.still (λ e. cc))
