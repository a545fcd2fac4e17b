-- What stood there before joins the past.
use Rattle.std.proofs.Common.{rules, ◌≡◌, [], ◌∷◌, ◌++◌}
use Rattle.acc_ports.specs.MemoryDisk.{settled_on}
use Rattle.acc_ports.proofs.Times.{time_goes_on, only_settled}
use Rattle.acc_ports.proofs.memory_disk.MemDiskRig.crash.Goals as goal

pub returns-clause-crashes : goal.returns-clause-crashes
returns-clause-crashes c =
    let past : c.and-self-inside.result.items ≡ c.args.self.now.past ++ c.args.self.now.now ∷ [] = search rules in
    let settled : c.crash.new.self ≡ settled_on c.crash.new.self.content = search rules in
    record {
      left = search rules;
      rest = record { only = only_settled _ _ settled; all_synced = search rules; none_written = search rules };
      disarmed = search rules;
      by_choice = search rules;
      images = search rules;
      stands = search rules;
      time = time_goes_on c.args.self.now.past _ c.args.self.now.now _ _ past;
      kind = search rules;
      faults = search rules;
    }
