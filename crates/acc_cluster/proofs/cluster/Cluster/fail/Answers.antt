use Rattle.std.proofs.Common.{refl, arith}
use Rattle.acc_cluster.proofs.Armed.{armed_stands, armed_strictly}
use Rattle.acc_cluster.proofs.KeepsTested.{slot_tested}
use Rattle.acc_cluster.proofs.cluster.Cluster.fail.Goals as goal

pub returns-clause-ok : goal.returns-clause-ok
returns-clause-ok g c = λ s h. record {
  sound = h.sound;
  room = h.room;
  past = h.past;
  actors =
      armed_stands c.args.plan.now c.args.self.now _ c.args.actor c.index_mut.result.now c.arm.new.slot c.index_mut.ensures.value (omega (arith, c.if-place-len.false, c.len.ensures)) c.requires refl s
      g.D.Disk (c.arm.ensures.stands s) h;
}

pub returns-clause-strict : goal.returns-clause-strict
returns-clause-strict g c = λ s disks h are.
    armed_strictly c.args.plan.now c.args.self.now _ c.args.actor c.index_mut.result.now c.arm.new.slot c.index_mut.ensures.value (omega (arith, c.if-place-len.false, c.len.ensures)) c.requires refl s
    g.D.Disk disks c.args.calls (c.arm.ensures.strict s disks) are

pub returns-clause-tested : goal.returns-clause-tested
returns-clause-tested g c = λ t.
    slot_tested g.D.Disk c.args.plan.now c.args.self.now c.args.actor c.index_mut.result.now c.index_mut.ensures.value (omega (arith, c.if-place-len.false, c.len.ensures)) c.arm.new.slot _ refl refl c.arm.ensures.safe t
