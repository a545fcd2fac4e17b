use Rattle.acc_free_laws.proofs.Going.{command_went, message_went, others_went}
use Rattle.acc_free_laws.proofs.Serving.{serving_tried}
use Rattle.acc_free_laws.proofs.laws.steps_serve.Goals as goal

pub returns-clause-serving : goal.returns-clause-serving
returns-clause-serving c = λ plan s a event act fails there may plain none up untaken journalled h.
    serving_tried plan s h a there event act fails may plain none up untaken journalled

pub returns-clause-command : goal.returns-clause-command
returns-clause-command c = command_went

pub returns-clause-message : goal.returns-clause-message
returns-clause-message c = message_went

pub returns-clause-others : goal.returns-clause-others
returns-clause-others c = λ plan s a b event fails left apart gone. others_went plan s a b event fails left apart gone
