-- Where the actors of the cluster stand for a situation, their disks keep them in it.
use Rattle.std.proofs.Common.{reverse, List, sym, ◌∙◌, ap, subst}
use Rattle.std.specs.List.{AllByRecursion}
use Rattle.acc_stamp.specs.declared.actors.Actor.{Actor}
use Rattle.acc_cluster.specs.Ends.{KeepsIn, AreDisksOf}
use Rattle.acc_cluster.proofs.LeftDisks.{disks_are, disks_keep}
use Rattle.acc_cluster.proofs.cluster.Cluster.finish.Goals as goal

pub returns : goal.returns
returns g c = record {
  ok = λ plan s h.
      let slots = c.args.self.slots.items in
      let from = sym c.in_ok-disks_of.ensures.disks in record {
        items_are = c.into_items.ensures s h.past.stands;
        disks_are = subst (λ (disks : List (Actor × g.row.D.Denot)). AreDisksOf plan disks) from (disks_are plan s h.sound g.D.Disk slots h.actors);
        kept = subst (λ (disks : List (Actor × g.row.D.Denot)). AllByRecursion (KeepsIn g.D.Disk plan s) disks) from (disks_keep plan s h.sound g.D.Disk slots h.actors);
      };
  limited = λ plan items s h.
      let slots = c.args.self.slots.items in
      let from = sym c.in_ok-disks_of.ensures.disks in record {
        items_are = c.into_items.ensures h.entered h.past.stands ∙ ap reverse h.items_are;
        disks_are = subst (λ (disks : List (Actor × g.row.D.Denot)). AreDisksOf plan disks) from (disks_are plan s h.sound g.D.Disk slots h.actors);
        kept = subst (λ (disks : List (Actor × g.row.D.Denot)). AllByRecursion (KeepsIn g.D.Disk plan s) disks) from (disks_keep plan s h.sound g.D.Disk slots h.actors);
      };
}
