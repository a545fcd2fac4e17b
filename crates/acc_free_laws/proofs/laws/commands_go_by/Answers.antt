use Rattle.acc_free_laws.proofs.Turns.{command_entered, command_stopped}
use Rattle.acc_free_laws.proofs.laws.commands_go_by.Goals as goal

pub returns-clause-entry : goal.returns-clause-entry
returns-clause-entry c = λ plan seen others a stopped event act command left apart may is other gone.
    command_entered plan seen others a stopped apart event act may command left is other gone

pub returns-clause-stop : goal.returns-clause-stop
returns-clause-stop c = λ plan seen others a stopped event command left apart is other up gone.
    command_stopped plan seen others a stopped apart event command left is other up gone
