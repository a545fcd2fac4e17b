use Rattle.acc_pasts.proofs.Payloads.{begin_payload, recover_payload, store_payload}
use Rattle.acc_pasts.proofs.entering.entries_are_journalled.Goals as goal

pub returns-clause-begin : goal.returns-clause-begin
returns-clause-begin c = begin_payload

pub returns-clause-recover : goal.returns-clause-recover
returns-clause-recover c = recover_payload

pub returns-clause-message : goal.returns-clause-message
returns-clause-message c = store_payload
