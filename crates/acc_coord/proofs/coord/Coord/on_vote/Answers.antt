use Rattle.std.proofs.Common.{◌≡◌, false, ◌∷◌, refl, sym, subst}
use Rattle.std.proofs.lemmas.Result.{IfOk-weaker}
use Rattle.std.specs.Prelude.{Option, None}
use Rattle.acc_message.specs.declared.message.Message.{Message}
use Rattle.acc_message.specs.declared.message.Message.TheVariants.{PreAcceptOk}
use Rattle.acc_message.specs.Shares.{shards_used}
use Rattle.acc_message.specs.Attempts.{Voting, plainly, counts}
use Rattle.acc_message.specs.Coordinator.{on_message}
use Rattle.acc_tally.specs.declared.tally.Tally.{Tally}
use Rattle.acc_tally.specs.Stands.{StandsFor as Tallies}
use Rattle.acc_coord.specs.declared.step.Stage.{Stage}
use Rattle.acc_coord.specs.Stands.{own_of, attempt_at, attempt_in, phase_in, StageKeeps, Follows, CountedIs, is_first_answer}
use Rattle.acc_coord.proofs.Moves.{when_goes, when_stays}
use Rattle.acc_coord.proofs.coord.Coord.on_vote.Goals as goal

pub returns-in-Some : goal.returns-in-Some
returns-in-Some c =
    let self = c.args.self.now in
    let layout = c.args.topology.now in
    IfOk-weaker c.after_vote.result _ _
    (λ step h. λ to id ballot answers keeps.
    let m : Message = PreAcceptOk c.args.store to id ballot c.args.vote c.args.deps.now in
    let shards = shards_used layout self.body in
    let before : Tallies c.in-Votes.tally shards (plainly self.id answers) = subst (λ (stage : Stage). StageKeeps layout self.id self.body stage answers) c.in-Votes.is keeps.stage in
    let counted = subst (λ (o : Option Tally). CountedIs layout self m answers o) c.in-Some.is (c.in_ok-tally-in-Votes.ensures m answers refl refl refl keeps.placed before) in
    subst (λ (stage : Stage). Follows layout self answers step (on_message layout (own_of self) self.id (attempt_at self (phase_in stage) answers) m)) (sym c.in-Votes.is)
    (when_goes layout self answers step _ _ (attempt_at self Voting answers) counted.0 (h answers (m ∷ answers) keeps.placed counted.1)))
    c.after_vote.ensures

pub returns-in-None : goal.returns-in-None
returns-in-None c = λ to id ballot answers keeps.
    let self = c.args.self.now in
    let layout = c.args.topology.now in
    let m : Message = PreAcceptOk c.args.store to id ballot c.args.vote c.args.deps.now in
    let shards = shards_used layout self.body in
    let before : Tallies c.in-Votes.tally shards (plainly self.id answers) = subst (λ (stage : Stage). StageKeeps layout self.id self.body stage answers) c.in-Votes.is keeps.stage in
    let is_none : c.in_ok-tally-in-Votes.field-0 ≡ None = cc in
    let counted : is_first_answer layout self m answers ≡ false = subst (λ (o : Option Tally). CountedIs layout self m answers o) is_none (c.in_ok-tally-in-Votes.ensures m answers refl refl refl keeps.placed before) in
    let no : counts layout (attempt_in self answers) m ≡ false = subst (λ (stage : Stage). counts layout (attempt_at self (phase_in stage) answers) m ≡ false) (sym c.in-Votes.is) counted in
    when_stays layout self answers c.silent.result _ _ no c.silent.ensures.emitted c.silent.ensures.next
