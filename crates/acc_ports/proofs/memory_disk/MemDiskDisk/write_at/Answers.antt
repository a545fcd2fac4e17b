-- What stood there before joins the past, and each image comes from one of it.
use Rattle.std.proofs.Common.{rules, ◌≡◌, [], ◌∷◌, ◌++◌, length}
use Rattle.acc_ports.proofs.Times.{time_goes_on, images_follow}
use Rattle.acc_ports.proofs.memory_disk.MemDiskDisk.write_at.Goals as goal

pub returns-then-next_fails-clause-call : goal.returns-then-next_fails-clause-call
returns-then-next_fails-clause-call c =
    let past : c.and-before.result.items ≡ c.args.self.now.past ++ c.args.self.now.now ∷ [] = search rules in
    record {
      stands = search rules;
      time = time_goes_on c.args.self.now.past _ c.args.self.now.now _ _ past;
      kind = search rules;
      faults = search rules;
      armed = search rules;
    }

pub returns-clause-call : goal.returns-clause-call
returns-clause-call c =
    let past : c.and-before.result.items ≡ c.args.self.now.past ++ c.args.self.now.now ∷ [] = search rules in
    record {
      stands = search rules;
      time = time_goes_on c.args.self.now.past _ c.args.self.now.now _ _ past;
      kind = search rules;
      faults = search rules;
      armed = search rules;
    }

pub returns-then-next_fails-clause-images : goal.returns-then-next_fails-clause-images
returns-then-next_fails-clause-images c =
    let synced : c.fail_at.new.self.synced ≡ c.args.self.now.now.synced = search rules in
    let written : c.fail_at.new.self.written ≡ c.args.self.now.now.written ++ (c.args.at, length c.args.bytes.now) ∷ [] = search rules in
    images_follow c.args.at (length c.args.bytes.now) _ _ _ _ synced written

pub returns-clause-images : goal.returns-clause-images
returns-clause-images c =
    let synced : c.write_at.new.self.synced ≡ c.args.self.now.now.synced = search rules in
    let written : c.write_at.new.self.written ≡ c.args.self.now.now.written ++ (c.args.at, length c.args.bytes.now) ∷ [] = search rules in
    images_follow c.args.at (length c.args.bytes.now) _ _ _ _ synced written
