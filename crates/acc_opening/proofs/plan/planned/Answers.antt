use Rattle.acc_opening.specs.Lookup.{lookup}
use Rattle.acc_opening.specs.Touched.{watches_now}
use Rattle.acc_opening.proofs.Finish.{is_plan, are_watches}
use Rattle.acc_opening.proofs.plan.planned.Goals as goal

pub returns : goal.returns
returns c =
    let known = c.args.known.now in
    let at = lookup known.records.now known.own.now in
    let watching = watches_now c.run.new.self.touched known.waits.now in
    record {
      turns = is_plan known.shard at watching c.run.new.self.done c.in_ok-run.ensures;
      waiting = are_watches known.shard at watching c.run.new.self.done c.in_ok-run.ensures;
    }
