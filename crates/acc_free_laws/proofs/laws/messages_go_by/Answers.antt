use Rattle.acc_free_laws.proofs.Turns.{message_entered, message_stopped}
use Rattle.acc_free_laws.proofs.laws.messages_go_by.Goals as goal

pub returns-clause-message : goal.returns-clause-message
returns-clause-message c = λ plan seen others a stopped event act left apart may is gone.
    message_entered plan seen others a stopped apart event act may left is gone

pub returns-clause-message_stop : goal.returns-clause-message_stop
returns-clause-message_stop c = λ plan seen others a stopped events left apart are up gone.
    message_stopped plan seen others a stopped apart events left are up gone
