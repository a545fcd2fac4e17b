use Rattle.std.proofs.Common.{◌≡◌, true, false, ◌&&◌, refl, sym, subst, ◌∙◌}
use Rattle.std.proofs.lemmas.Result.{IfOk-weaker}
use Rattle.std.proofs.lemmas.Bool.{and_from, and_left, and_right}
use Rattle.acc_deps.specs.declared.records.Settled.{Settled}
use Rattle.acc_message.specs.declared.note.Path.TheVariants.{Fast}
use Rattle.acc_message.specs.Shares.{shards_used}
use Rattle.acc_message.specs.Attempts.{Voting, plainly, majority_everywhere, fast_everywhere, fast_lost_somewhere}
use Rattle.acc_message.specs.Coordinator.{decide}
use Rattle.acc_tally.specs.declared.tally.Tally.{Tally}
use Rattle.acc_tally.specs.Stands.{StandsFor as Tallies}
use Rattle.acc_coord.specs.declared.step.Stage.TheVariants.{Votes}
use Rattle.acc_coord.specs.Stands.{own_of, attempt_in, attempt_at, Follows}
use Rattle.acc_coord.proofs.Moves.{when_goes, when_waits, either_one, either_other, same_settled}
use Rattle.acc_coord.proofs.coord.Coord.after_vote.Goals as goal
use Rattle.acc_coord.proofs.coord.Coord.after_vote.Goals.{else-majority_everywhere-via-then-majority_everywhere+else-fast_lost, else-majority_everywhere-via-else-majority_everywhere}

pub returns-then-fast_everywhere : goal.returns-then-fast_everywhere
returns-then-fast_everywhere c =
    let self = c.args.self.now in
    let layout = c.args.topology.now in
    IfOk-weaker c.decide.result _ _
    (λ step h. λ answers more placed stands.
    let shards = shards_used layout self.body in
    let there : Tallies c.get-votes.result.now shards (plainly self.id more) = subst (λ (t : Tally). Tallies t shards (plainly self.id more)) (sym c.get-votes.ensures) stands in
    let asked = c.fast_everywhere.ensures shards (plainly self.id more) placed.exist there in
    let is : fast_everywhere layout self.id self.body more ≡ true = cc in
    let deps_are = c.in_ok-deps.ensures ∙ c.deps.ensures shards (plainly self.id more) there in
    either_one layout self answers step _ _ _ (attempt_at self Voting more) is
    (subst (λ (s : Settled). Follows layout self answers step (decide layout (own_of self) self.id (attempt_in self answers) Fast s)) (same_settled {t = self.id.0} {u = self.id.0} refl deps_are) (h layout answers placed)))
    c.decide.ensures

pub returns-then-fast_lost : goal.returns-then-fast_lost
returns-then-fast_lost c =
    let self = c.args.self.now in
    let layout = c.args.topology.now in
    IfOk-weaker c.slow_down.result _ _
    (λ step h. λ answers more placed stands.
    let shards = shards_used layout self.body in
    let there : Tallies c.get-votes.result.now shards (plainly self.id more) = subst (λ (t : Tally). Tallies t shards (plainly self.id more)) (sym c.get-votes.ensures) stands in
    let asked = c.fast_everywhere.ensures shards (plainly self.id more) placed.exist there in
    let no : fast_everywhere layout self.id self.body more ≡ false = cc in
    let asked_too = c.majority_everywhere.ensures shards (plainly self.id more) placed.exist there in
    let majority : majority_everywhere layout self.id self.body more ≡ true = cc in
    let asked_last = c.fast_lost.ensures shards (plainly self.id more) placed.exist there in
    let lost : fast_lost_somewhere layout self.id self.body more ≡ true = cc in
    either_other layout self answers step _ _ _ (attempt_at self Voting more) no
    (when_goes layout self answers step _ _ (attempt_at self Voting more) (and_from _ _ majority lost) (h layout answers more placed there)))
    c.slow_down.ensures

pub returns : goal.returns
returns c = λ answers more placed stands.
    let self = c.args.self.now in
    let layout = c.args.topology.now in
    let shards = shards_used layout self.body in
    let there : Tallies c.get-votes.result.now shards (plainly self.id more) = subst (λ (t : Tally). Tallies t shards (plainly self.id more)) (sym c.get-votes.ensures) stands in
    let asked = c.fast_everywhere.ensures shards (plainly self.id more) placed.exist there in
    let no : fast_everywhere layout self.id self.body more ≡ false = cc in
    let asked_too = c.majority_everywhere.ensures shards (plainly self.id more) placed.exist there in
    let neither : (majority_everywhere layout self.id self.body more && fast_lost_somewhere layout self.id self.body more) ≡ false =
    elim c.else-majority_everywhere.branch [
      | else-majority_everywhere-via-then-majority_everywhere+else-fast_lost w ↦
          let lost = w.fast_lost.ensures shards (plainly self.id more) placed.exist there in
          let not_lost : fast_lost_somewhere layout self.id self.body more ≡ false = cc in
          and_right _ _ not_lost
      | else-majority_everywhere-via-else-majority_everywhere w ↦
          let not_majority : majority_everywhere layout self.id self.body more ≡ false = cc in
          and_left _ _ not_majority
    ] in
    either_other layout self answers c.silent.result _ _ _ (attempt_at self Voting more) no
    (when_waits layout self answers c.silent.result (Votes c.args.tally) more _ _ neither c.silent.ensures.emitted c.silent.ensures.next stands)
