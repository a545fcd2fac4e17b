use Rattle.acc_free_laws.proofs.Turns.{entry_serves, stop_serves}
use Rattle.acc_free_laws.proofs.laws.turns_serve.Goals as goal

pub returns-clause-entry : goal.returns-clause-entry
returns-clause-entry c = λ plan seen others a stopped event act there apart stops may plain none up untaken free h.
    entry_serves plan seen others a stopped apart there stops free h event act may untaken plain none up

pub returns-clause-stop : goal.returns-clause-stop
returns-clause-stop c = λ plan seen others a stopped events there apart stops may different few free h.
    stop_serves plan seen others a stopped apart there stops free h events may different few
