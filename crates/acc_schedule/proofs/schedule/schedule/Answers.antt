use Rattle.std.proofs.Common.{◌≡◌}
use Rattle.acc_schedule.specs.Seen.{seen}
use Rattle.acc_schedule.specs.Steps.{cast_in}
use Rattle.acc_schedule.specs.Document.{schedule}
use Rattle.serde_json.specs.View.{view}
use Rattle.acc_schedule.proofs.DocumentFacts.{given_steps, same_cast}
use Rattle.acc_schedule.proofs.schedule.schedule.Goals as goal

pub returns : goal.returns
returns c =
    let same : seen c.new-cast.result ≡ cast_in c.args.names.now c.args.topology.now =
    same_cast c.new-cast.result c.args.names.now c.nodes.result c.in_ok-actors.actors c.args.topology.now c.new-cast.ensures.names c.new-cast.ensures.nodes c.new-cast.ensures.actors c.nodes.ensures.set c.in_ok-actors.ensures in
    given_steps (seen c.new-cast.result) (cast_in c.args.names.now c.args.topology.now) (schedule (view c.args.root.now)) c.steps.result same c.steps.ensures
