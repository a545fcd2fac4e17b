use Rattle.std.proofs.Common.{refl}
use Rattle.acc_accept.proofs.Commits.{prepared}
use Rattle.acc_accept.proofs.step.prepare_commit.Goals as goal

pub returns : goal.returns
returns c =
    prepared c.args.topology.now c.args.shelf.now c.args.m.now c.in-Commit.from c.in-Commit.to c.in-Commit.id c.in-Commit.ballot c.in-Commit.body c.in-Commit.t c.in-Commit.deps
    _ c.top.result c.in-Commit.is refl c.top.ensures c.in_ok-copy-in-Commit.field-0 c.commit.result
    c.in_ok-copy-in-Commit.ensures c.commit.ensures.plans c.commit.ensures.changes c.commit.ensures.sends
