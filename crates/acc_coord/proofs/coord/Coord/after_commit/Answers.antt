use Rattle.std.proofs.Common.{◌≡◌, true, false, ap, sym, subst, ◌∙◌}
use Rattle.std.proofs.lemmas.Result.{IfOk-weaker}
use Rattle.acc_deps.specs.declared.records.Settled.{Settled}
use Rattle.acc_message.specs.declared.note.Path.{Path}
use Rattle.acc_message.specs.Shares.{shards_used}
use Rattle.acc_message.specs.Attempts.{Committing, plainly, majority_everywhere}
use Rattle.acc_message.specs.Coordinator.{decide}
use Rattle.acc_tally.specs.declared.tally.Tally.{Tally}
use Rattle.acc_tally.specs.Stands.{StandsFor as Tallies}
use Rattle.acc_coord.specs.declared.step.Stage.TheVariants.{Commits}
use Rattle.acc_coord.specs.declared.step.Next.TheVariants.{Stage as Stands}
use Rattle.acc_coord.specs.Stands.{own_of, attempt_in, attempt_at, Follows}
use Rattle.acc_coord.proofs.Moves.{when_goes, when_waits}
use Rattle.acc_coord.proofs.coord.Coord.after_commit.Goals as goal

pub returns-then-majority_everywhere : goal.returns-then-majority_everywhere
returns-then-majority_everywhere c =
    let self = c.args.self.now in
    let layout = c.args.topology.now in
    let s = c.args.settled.now in
    IfOk-weaker c.decide.result _ _
    (λ step h. λ answers more placed stands.
    let shards = shards_used layout self.body in
    let there : Tallies c.get.result.now shards (plainly self.id more) = subst (λ (t : Tally). Tallies t shards (plainly self.id more)) (sym c.get.ensures) stands in
    let asked = c.majority_everywhere.ensures shards (plainly self.id more) placed.exist there in
    let is : majority_everywhere layout self.id self.body more ≡ true = cc in
    when_goes layout self answers step _ _ (attempt_at self (Committing s) more) is
    (subst (λ (path : Path). Follows layout self answers step (decide layout (own_of self) self.id (attempt_in self answers) path s)) c.path.ensures
    (subst (λ (a : Settled). Follows layout self answers step (decide layout (own_of self) self.id (attempt_in self answers) c.path.result a)) c.in_ok-settled.ensures (h layout answers placed))))
    c.decide.ensures

pub returns : goal.returns
returns c = λ answers more placed stands.
    let self = c.args.self.now in
    let layout = c.args.topology.now in
    let shards = shards_used layout self.body in
    let there : Tallies c.get.result.now shards (plainly self.id more) = subst (λ (t : Tally). Tallies t shards (plainly self.id more)) (sym c.get.ensures) stands in
    let asked = c.majority_everywhere.ensures shards (plainly self.id more) placed.exist there in
    let no : majority_everywhere layout self.id self.body more ≡ false = cc in
    when_waits layout self answers c.silent.result (Commits c.args.settled.now c.args.tally) more _ _ no c.silent.ensures.emitted
    (c.silent.ensures.next ∙ ap (λ (s : Settled). Stands (Commits s c.args.tally)) c.in_ok-settled.ensures) stands
