use Rattle.acc_free_laws.proofs.Going.{stayed_down, others_stayed, reopened_went, others_reopened}
use Rattle.acc_free_laws.proofs.Serving.{serving_down, serving_restarted}
use Rattle.acc_free_laws.proofs.laws.restarts_serve.Goals as goal

pub returns-clause-serving : goal.returns-clause-serving
returns-clause-serving c = λ plan s a keeps there h. serving_restarted plan s h a there keeps

pub returns-clause-command : goal.returns-clause-command
returns-clause-command c = reopened_went

pub returns-clause-others : goal.returns-clause-others
returns-clause-others c = others_reopened

pub returns-clause-serving_down : goal.returns-clause-serving_down
returns-clause-serving_down c = λ plan s a there h. serving_down plan s h a there

pub returns-clause-command_down : goal.returns-clause-command_down
returns-clause-command_down c = stayed_down

pub returns-clause-others_down : goal.returns-clause-others_down
returns-clause-others_down c = others_stayed
