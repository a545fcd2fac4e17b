use Rattle.std.proofs.Common.{◌≡◌, true, sym, subst}
use Rattle.acc_message.specs.Shares.{shards_used}
use Rattle.acc_message.specs.Attempts.{plainly, majority_everywhere}
use Rattle.acc_tally.specs.declared.tally.Tally.{Tally}
use Rattle.acc_tally.specs.Stands.{StandsFor as Tallies}
use Rattle.acc_coord.specs.declared.step.Stage.{Stage}
use Rattle.acc_coord.specs.Stands.{StageKeeps}
use Rattle.acc_coord.proofs.coord.Coord.slow_step.Goals as goal

pub returns-clause-ok : goal.returns-clause-ok
returns-clause-ok c = λ answers keeps.
    let self = c.args.self.now in
    let layout = c.args.topology.now in
    let shards = shards_used layout self.body in
    let before : Tallies c.in-Votes.tally shards (plainly self.id answers) = subst (λ (stage : Stage). StageKeeps layout self.id self.body stage answers) c.in-Votes.is keeps.stage in
    let there : Tallies c.get-tally.result.now shards (plainly self.id answers) = subst (λ (t : Tally). Tallies t shards (plainly self.id answers)) (sym c.get-tally.ensures) before in
    let asked = c.majority_everywhere.ensures shards (plainly self.id answers) keeps.placed.exist there in
    let is : majority_everywhere layout self.id self.body answers ≡ true = cc in
    record { majority = is; follows = c.in_ok-step-in-Votes.ensures layout answers answers keeps.placed there }
