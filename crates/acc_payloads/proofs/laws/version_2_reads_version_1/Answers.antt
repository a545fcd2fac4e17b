use Rattle.acc_payloads.proofs.NodeJournals as nodes
use Rattle.acc_payloads.proofs.StoreJournals as stores
use Rattle.acc_payloads.proofs.laws.version_2_reads_version_1.Goals as goal

pub returns : goal.returns
returns c = record { node = nodes.read_higher; store = stores.read_higher }
