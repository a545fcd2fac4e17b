-- No actor stands there, and no disk comes.
use Rattle.std.proofs.Common.{◌++◌, sym, ◌∙◌, ap}
use Rattle.std.proofs.lemmas.List.{append-nil}
use Rattle.acc_actors.specs.declared.slot.Slot.{Slot}
use Rattle.acc_cluster.specs.Ends.{entry_of}
use Rattle.acc_cluster.proofs.ending.put_disk.Goals as goal

pub returns-in-Empty : goal.returns-in-Empty
returns-in-Empty g c =
    record {
      disks =
          sym (append-nil c.args.disks.now.items)
          ∙ ap (λ (slot : Slot g.row.D.Denot). c.args.disks.now.items ++ entry_of c.args.number slot) (sym c.in-Empty.is);
    }
