use Rattle.acc_free_laws.proofs.Begun.{all_begun}
use Rattle.acc_free_laws.proofs.laws.served_commands_are_taken.Goals as goal

pub returns : goal.returns
returns c = λ plan items valid h up none.
    all_begun plan items valid (c.plans_are_valid.ensures plan valid) c.nodes_are_actors.ensures.home h up none
