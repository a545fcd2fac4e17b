use Rattle.acc_command_alone.proofs.FewReplies.{replies_few}
use Rattle.acc_command_alone.proofs.generated.replies_are_few.Goals as goal

pub returns : goal.returns
returns c = λ cluster items run. replies_few cluster items run.stands
