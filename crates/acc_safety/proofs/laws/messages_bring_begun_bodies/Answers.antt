use Rattle.acc_safety.proofs.Frame.{bodies_are_begun}
use Rattle.acc_safety.proofs.laws.messages_bring_begun_bodies.Goals as goal

pub returns : goal.returns
returns c = bodies_are_begun
