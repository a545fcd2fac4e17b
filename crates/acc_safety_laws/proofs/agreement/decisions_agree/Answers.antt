use Rattle.acc_safety_laws.proofs.Agreed.{one_timestamp, one_set_of_deps, timestamps_differ}
use Rattle.acc_safety_laws.proofs.Agreements.{agreement}
use Rattle.acc_safety_laws.proofs.agreement.decisions_agree.Goals as goal

pub returns : goal.returns
returns c = record { timestamp = one_timestamp; deps = one_set_of_deps; differ = timestamps_differ; agreement = agreement }
