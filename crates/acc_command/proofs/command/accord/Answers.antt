-- A line with threads is that of `free`, and every other one is answered alone.
use Rattle.std.proofs.Common.{subst}
use Rattle.acc_command_alone.specs.Words.{IsWorkersOf}
use Rattle.acc_command_alone.specs.Streams.{streams_of}
use Rattle.acc_command_alone.specs.CarriesOut.{alone_over}
use Rattle.acc_command_alone.proofs.CarryFacts.{alone, forgets, shares}
use Rattle.acc_command.specs.Free.{overs, OverThreads}
use Rattle.acc_command.proofs.command.accord.Goals as goal

pub returns-in-Ok-Some-clause-does : goal.returns-in-Ok-Some-clause-does
returns-in-Ok-Some-clause-does g c =
    shares c.args.words.now (overs g.M.D.Disk (g.M.DiskMaker.strict c.args.disks.now) (g.M.DiskMaker.given c.args.disks.now) (g.M.DiskMaker.given c.free.new.disks)) (streams_of g.S.Source g.K.Sink c.args.source.now c.args.sink.now) (streams_of g.S.Source g.K.Sink c.free.new.source c.free.new.sink) c.free.result
    (c.in-Ok-Some.workers, subst (IsWorkersOf c.args.words.now) c.in-Ok-Some.field-0-is c.in-Ok-Some.ensures) c.free.ensures

pub returns-in-Ok-None-clause-does : goal.returns-in-Ok-None-clause-does
returns-in-Ok-None-clause-does g c =
    alone c.args.words.now (alone_over g.M.D.Disk (g.M.DiskMaker.strict c.args.disks.now) (g.M.DiskMaker.given c.args.disks.now) (g.M.DiskMaker.given c.accord_alone.new.disks)) (OverThreads g.M.D.Disk (g.M.DiskMaker.strict c.args.disks.now) (g.M.DiskMaker.given c.args.disks.now) (g.M.DiskMaker.given c.accord_alone.new.disks))
    (streams_of g.S.Source g.K.Sink c.args.source.now c.args.sink.now) (streams_of g.S.Source g.K.Sink c.accord_alone.new.source c.accord_alone.new.sink) c.accord_alone.result
    (subst (IsWorkersOf c.args.words.now) c.in-Ok-None.field-0-is c.in-Ok-None.ensures) c.accord_alone.ensures.does

pub returns-in-Err-clause-does : goal.returns-in-Err-clause-does
returns-in-Err-clause-does g c = forgets c.args.words.now (overs g.M.D.Disk (g.M.DiskMaker.strict c.args.disks.now) (g.M.DiskMaker.given c.args.disks.now) (g.M.DiskMaker.given c.args.disks.now)) (streams_of g.S.Source g.K.Sink c.args.source.now c.args.sink.now)
