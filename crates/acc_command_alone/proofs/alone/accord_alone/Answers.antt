-- Each line of words, and every other list of words.
use Rattle.std.proofs.Common.{Some, refl, ◌∙◌, ap, subst}
use Rattle.acc_command_alone.specs.declared.words.Command.TheVariants.{Check}
use Rattle.acc_command_alone.specs.declared.words.Command.{Command}
use Rattle.acc_command_alone.specs.declared.words.Line.{Line}
use Rattle.acc_command_alone.specs.declared.words.Line.TheVariants.{Document}
use Rattle.acc_command_alone.specs.Words.{IsLineOf}
use Rattle.acc_command_alone.specs.Streams.{streams_of}
use Rattle.acc_command_alone.specs.Command.{DoesOn, IsDue, no_run, OverDisks}
use Rattle.acc_command_alone.specs.CarriesOut.{alone_over}
use Rattle.acc_command_alone.proofs.RespondFacts.{answers_so}
use Rattle.acc_command_alone.proofs.CommandFacts.{check_due}
use Rattle.acc_command_alone.proofs.CarryFacts.{checks, forgets, generates, heals, judges, leaves_journals, looks, no_line, refuses, resumes, runs}
use Rattle.acc_command_alone.proofs.LineFacts.{ends_so}
use Rattle.acc_command_alone.proofs.SaidFacts.{ends_usage, usage_faults, usage_reads}
use Rattle.acc_command_alone.proofs.alone.accord_alone.Goals as goal

pub returns-in-Ok-Some-Document-Run-clause-does : goal.returns-in-Ok-Some-Document-Run-clause-does
returns-in-Ok-Some-Document-Run-clause-does g c =
    runs c.args.words.now (alone_over g.M.D.Disk (g.M.DiskMaker.strict c.args.disks.now) (g.M.DiskMaker.given c.args.disks.now) (g.M.DiskMaker.given c.answer.new.disks)) (streams_of g.S.Source g.K.Sink c.args.source.now c.args.sink.now) (streams_of g.S.Source g.K.Sink c.answer.new.source c.answer.new.sink) c.answer.result
    (subst (IsLineOf c.args.words.now)
    (c.in-Ok-Some-Document-Run.field-0-is ∙ ap (λ (line : Line). Some line) (c.in-Ok-Some-Document-Run.field-0-0-is ∙ ap (λ (command : Command). Document command) c.in-Ok-Some-Document-Run.field-0-0-0-is))
    c.in-Ok-Some-Document-Run.ensures)
    c.answer.ensures.responds

pub returns-in-Ok-Some-Document-Check-clause-does : goal.returns-in-Ok-Some-Document-Check-clause-does
returns-in-Ok-Some-Document-Check-clause-does g c =
    let called = c.answer-in-Ok-Some-Document-Check in
    checks c.args.words.now (alone_over g.M.D.Disk (g.M.DiskMaker.strict c.args.disks.now) (g.M.DiskMaker.given c.args.disks.now) (g.M.DiskMaker.given called.new.disks)) (streams_of g.S.Source g.K.Sink c.args.source.now c.args.sink.now) (streams_of g.S.Source g.K.Sink called.new.source called.new.sink) called.result
    (subst (IsLineOf c.args.words.now)
    (c.in-Ok-Some-Document-Check.field-0-is ∙ ap (λ (line : Line). Some line) (c.in-Ok-Some-Document-Check.field-0-0-is ∙ ap (λ (command : Command). Document command) c.in-Ok-Some-Document-Check.field-0-0-0-is))
    c.in-Ok-Some-Document-Check.ensures)
    (answers_so (IsDue (OverDisks g.M.D.Disk (g.M.DiskMaker.strict c.args.disks.now) (g.M.DiskMaker.given c.args.disks.now) (g.M.DiskMaker.given called.new.disks)) Check) (IsDue no_run Check)
    (DoesOn Check) (DoesOn Check) _ _ called.result (check_due (OverDisks g.M.D.Disk (g.M.DiskMaker.strict c.args.disks.now) (g.M.DiskMaker.given c.args.disks.now) (g.M.DiskMaker.given called.new.disks)) no_run) (λ bytes does. does) called.ensures.responds)

pub returns-in-Ok-Some-Heal-clause-does : goal.returns-in-Ok-Some-Heal-clause-does
returns-in-Ok-Some-Heal-clause-does g c =
    heals c.args.words.now (alone_over g.M.D.Disk (g.M.DiskMaker.strict c.args.disks.now) (g.M.DiskMaker.given c.args.disks.now) (g.M.DiskMaker.given c.heal.new.disks)) (streams_of g.S.Source g.K.Sink c.args.source.now c.args.sink.now) (streams_of g.S.Source g.K.Sink c.heal.new.source c.heal.new.sink) c.heal.result
    (subst (IsLineOf c.args.words.now) (c.in-Ok-Some-Heal.field-0-is ∙ ap (λ (line : Line). Some line) c.in-Ok-Some-Heal.field-0-0-is) c.in-Ok-Some-Heal.ensures)
    c.heal.ensures

pub returns-in-Ok-Some-Leave-clause-does : goal.returns-in-Ok-Some-Leave-clause-does
returns-in-Ok-Some-Leave-clause-does g c =
    leaves_journals c.args.words.now (alone_over g.M.D.Disk (g.M.DiskMaker.strict c.args.disks.now) (g.M.DiskMaker.given c.args.disks.now) (g.M.DiskMaker.given c.leave.new.disks)) (streams_of g.S.Source g.K.Sink c.args.source.now c.args.sink.now) (streams_of g.S.Source g.K.Sink c.leave.new.source c.leave.new.sink) c.leave.result
    (subst (IsLineOf c.args.words.now) (c.in-Ok-Some-Leave.field-0-is ∙ ap (λ (line : Line). Some line) c.in-Ok-Some-Leave.field-0-0-is) c.in-Ok-Some-Leave.ensures)
    c.leave.ensures

pub returns-in-Ok-Some-Resume-clause-does : goal.returns-in-Ok-Some-Resume-clause-does
returns-in-Ok-Some-Resume-clause-does g c =
    resumes c.args.words.now (alone_over g.M.D.Disk (g.M.DiskMaker.strict c.args.disks.now) (g.M.DiskMaker.given c.args.disks.now) (g.M.DiskMaker.given c.args.disks.now)) (streams_of g.S.Source g.K.Sink c.args.source.now c.args.sink.now) (streams_of g.S.Source g.K.Sink c.resume.new.source c.resume.new.sink) c.resume.result
    (subst (IsLineOf c.args.words.now) (c.in-Ok-Some-Resume.field-0-is ∙ ap (λ (line : Line). Some line) c.in-Ok-Some-Resume.field-0-0-is) c.in-Ok-Some-Resume.ensures)
    c.resume.ensures

pub returns-in-Ok-Some-Audit-clause-does : goal.returns-in-Ok-Some-Audit-clause-does
returns-in-Ok-Some-Audit-clause-does g c =
    judges c.args.words.now (alone_over g.M.D.Disk (g.M.DiskMaker.strict c.args.disks.now) (g.M.DiskMaker.given c.args.disks.now) (g.M.DiskMaker.given c.args.disks.now)) (streams_of g.S.Source g.K.Sink c.args.source.now c.args.sink.now) (streams_of g.S.Source g.K.Sink c.audit.new.source c.audit.new.sink) c.audit.result
    (subst (IsLineOf c.args.words.now) (c.in-Ok-Some-Audit.field-0-is ∙ ap (λ (line : Line). Some line) c.in-Ok-Some-Audit.field-0-0-is) c.in-Ok-Some-Audit.ensures)
    c.audit.ensures

pub returns-in-Ok-Some-Glance-clause-does : goal.returns-in-Ok-Some-Glance-clause-does
returns-in-Ok-Some-Glance-clause-does g c =
    looks c.args.words.now (alone_over g.M.D.Disk (g.M.DiskMaker.strict c.args.disks.now) (g.M.DiskMaker.given c.args.disks.now) (g.M.DiskMaker.given c.glance.new.disks)) (streams_of g.S.Source g.K.Sink c.args.source.now c.args.sink.now) (streams_of g.S.Source g.K.Sink c.glance.new.source c.glance.new.sink) c.glance.result
    (subst (IsLineOf c.args.words.now) (c.in-Ok-Some-Glance.field-0-is ∙ ap (λ (line : Line). Some line) c.in-Ok-Some-Glance.field-0-0-is) c.in-Ok-Some-Glance.ensures)
    c.glance.ensures

pub returns-in-Ok-Some-Generate-clause-does : goal.returns-in-Ok-Some-Generate-clause-does
returns-in-Ok-Some-Generate-clause-does g c =
    let numbers = c.in-Ok-Some-Generate.numbers in
    let line =
    subst (IsLineOf c.args.words.now) (c.in-Ok-Some-Generate.field-0-is ∙ ap (λ (line : Line). Some line) c.in-Ok-Some-Generate.field-0-0-is)
    c.in-Ok-Some-Generate.ensures in
    generates c.args.words.now (alone_over g.M.D.Disk (g.M.DiskMaker.strict c.args.disks.now) (g.M.DiskMaker.given c.args.disks.now) (g.M.DiskMaker.given c.args.disks.now)) (streams_of g.S.Source g.K.Sink c.args.source.now c.args.sink.now) (streams_of g.S.Source g.K.Sink c.args.source.now c.generate.new.sink) c.generate.result numbers.seed numbers.txns line
    (λ seed txns other. ends_so c.args.words.now seed txns numbers.seed numbers.txns c.generate.result (g.K.Sink.written c.args.sink.now)
    (g.K.Sink.written c.generate.new.sink) other line c.generate.ensures.ends) c.generate.ensures.words c.generate.ensures.reads
    (record {
      read_fault = λ e. absurd (c.generate.ensures.reads e);
      read_first = λ _. refl;
      unwritten = λ e. absurd (c.generate.ensures.reads e);
      write_fault = c.generate.ensures.write_fault;
      no_write_fault = c.generate.ensures.no_write_fault;
    })

pub returns-in-Ok-None-clause-does : goal.returns-in-Ok-None-clause-does
returns-in-Ok-None-clause-does g c =
    refuses c.args.words.now (alone_over g.M.D.Disk (g.M.DiskMaker.strict c.args.disks.now) (g.M.DiskMaker.given c.args.disks.now) (g.M.DiskMaker.given c.args.disks.now)) (streams_of g.S.Source g.K.Sink c.args.source.now c.args.sink.now) (streams_of g.S.Source g.K.Sink c.args.source.now c.say.new.sink) c.say.result
    (no_line c.args.words.now (subst (IsLineOf c.args.words.now) c.in-Ok-None.field-0-is c.in-Ok-None.ensures) c.requires.alone)
    (ends_usage _ _ _ _ refl c.say.ensures.said) (usage_reads _ _ _ _ c.say.ensures.said)
    (usage_faults (streams_of g.S.Source g.K.Sink c.args.source.now c.args.sink.now) (streams_of g.S.Source g.K.Sink c.args.source.now c.say.new.sink) _ c.say.result
    c.say.ensures.said refl c.say.ensures.cause c.say.ensures.still)

pub returns-in-Err-clause-does : goal.returns-in-Err-clause-does
returns-in-Err-clause-does g c = forgets c.args.words.now (alone_over g.M.D.Disk (g.M.DiskMaker.strict c.args.disks.now) (g.M.DiskMaker.given c.args.disks.now) (g.M.DiskMaker.given c.args.disks.now)) (streams_of g.S.Source g.K.Sink c.args.source.now c.args.sink.now)
