use Rattle.std.proofs.Common.{refl}
use Rattle.acc_free_laws.proofs.Alone.{alone_whole, alone_event, alone_entered, alone_reopened}
use Rattle.acc_free_laws.proofs.laws.alone_are_entered.Goals as goal

pub returns-clause-whole : goal.returns-clause-whole
returns-clause-whole c = alone_whole

pub returns-clause-event : goal.returns-clause-event
returns-clause-event c = alone_event

pub returns-clause-entered : goal.returns-clause-entered
returns-clause-entered c = alone_entered

pub returns-clause-stopped : goal.returns-clause-stopped
returns-clause-stopped c = λ items stopped a events. refl

pub returns-clause-reopened : goal.returns-clause-reopened
returns-clause-reopened c = alone_reopened
