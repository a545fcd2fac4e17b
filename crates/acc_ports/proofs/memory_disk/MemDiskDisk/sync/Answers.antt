-- What stood there before joins the past.
use Rattle.std.proofs.Common.{rules, ◌≡◌, [], ◌∷◌, ◌++◌}
use Rattle.acc_ports.proofs.Times.{time_goes_on}
use Rattle.acc_ports.proofs.memory_disk.MemDiskDisk.sync.Goals as goal

pub returns-clause-call : goal.returns-clause-call
returns-clause-call c =
    let past : c.and-self-inside.result.items ≡ c.args.self.now.past ++ c.args.self.now.now ∷ [] = search rules in
    record {
      stands = search rules;
      time = time_goes_on c.args.self.now.past _ c.args.self.now.now _ _ past;
      kind = search rules;
      faults = search rules;
      armed = search rules;
    }
