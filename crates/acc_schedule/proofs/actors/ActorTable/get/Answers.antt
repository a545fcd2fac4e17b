use Rattle.std.proofs.Common.{ap, ◌∙◌}
use Rattle.acc_schedule.specs.Actors.{at_name}
use Rattle.acc_schedule.proofs.ActorFacts.{at_name-shown}
use Rattle.acc_schedule.proofs.actors.ActorTable.get.Goals as goal

pub returns : goal.returns
returns c =
    c.copied.ensures ∙ c.get.ensures.value ∙ at_name-shown c.self.inside.actors.entries c.args.name.now
    ∙ ap (λ table. at_name table c.args.name.now) c.self.view_is
