use Rattle.acc_payloads.proofs.NodeJournals as nodes
use Rattle.acc_payloads.proofs.StoreJournals as stores
use Rattle.acc_payloads.proofs.laws.journals_grow.Goals as goal

pub returns : goal.returns
returns c = record {
  node = λ version start payloads items d journal fits may. nodes.grows version start payloads items d journal fits may;
  store = λ layout version own payloads items m journal next. stores.grows layout version own payloads items m journal next;
}
