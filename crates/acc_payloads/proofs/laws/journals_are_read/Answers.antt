use Rattle.acc_payloads.proofs.NodeJournals as nodes
use Rattle.acc_payloads.proofs.StoreJournals as stores
use Rattle.acc_payloads.proofs.laws.journals_are_read.Goals as goal

pub returns : goal.returns
returns c = record { node = nodes.never_bad; store = stores.never_bad }
