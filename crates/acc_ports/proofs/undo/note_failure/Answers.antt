-- A write that failed saved nothing.
use Rattle.std.proofs.Common.{refl}
use Rattle.acc_ports.proofs.Crashes.{CanCrash-failure}
use Rattle.acc_ports.proofs.undo.note_failure.Goals as goal

pub returns-clause-synced : goal.returns-clause-synced
returns-clause-synced c = (CanCrash-failure c.args.writes.now.items _ c.args.at c.args.count _ c.args.content.now _ c.requires.inside refl c.nothing-saved.ensures c.requires.can c.in_ok-push.ensures.items).0

pub returns-clause-can : goal.returns-clause-can
returns-clause-can c = (CanCrash-failure c.args.writes.now.items _ c.args.at c.args.count _ c.args.content.now _ c.requires.inside refl c.nothing-saved.ensures c.requires.can c.in_ok-push.ensures.items).1
