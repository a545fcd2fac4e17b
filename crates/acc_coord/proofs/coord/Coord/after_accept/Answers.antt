use Rattle.std.proofs.Common.{◌≡◌, true, false, ap, sym, subst, ◌∙◌}
use Rattle.std.proofs.lemmas.Result.{IfOk-weaker}
use Rattle.acc_deps.specs.declared.records.Settled.{Settled}
use Rattle.acc_deps.specs.Deps.{deps_union}
use Rattle.acc_message.specs.Shares.{shards_used}
use Rattle.acc_message.specs.Attempts.{Accepting, plainly, majority_everywhere}
use Rattle.acc_message.specs.Coordinator.{commit}
use Rattle.acc_tally.specs.declared.tally.Tally.{Tally}
use Rattle.acc_tally.specs.Stands.{StandsFor as Tallies}
use Rattle.acc_coord.specs.declared.step.Stage.TheVariants.{Accepts}
use Rattle.acc_coord.specs.declared.step.Next.TheVariants.{Stage as Stands}
use Rattle.acc_coord.specs.Stands.{own_of, attempt_in, attempt_at, Follows}
use Rattle.acc_coord.proofs.Moves.{when_goes, when_waits, same_settled}
use Rattle.acc_coord.proofs.coord.Coord.after_accept.Goals as goal

pub returns-then-majority_everywhere : goal.returns-then-majority_everywhere
returns-then-majority_everywhere c =
    let self = c.args.self.now in
    let layout = c.args.topology.now in
    let s = c.args.settled.now in
    IfOk-weaker c.commit.result _ _
    (λ step h. λ answers more placed stands.
    let shards = shards_used layout self.body in
    let there : Tallies c.get-acks.result.now shards (plainly self.id more) = subst (λ (t : Tally). Tallies t shards (plainly self.id more)) (sym c.get-acks.ensures) stands in
    let asked = c.majority_everywhere.ensures shards (plainly self.id more) placed.exist there in
    let is : majority_everywhere layout self.id self.body more ≡ true = cc in
    let t_is = ap (λ (a : Settled). a.t) c.in_ok-agreed.ensures in
    let deps_are = c.in_ok-union.ensures.ok ∙ ap (λ (a : Settled). deps_union a.deps c.deps.result.now) c.in_ok-agreed.ensures ∙ ap (deps_union s.deps) (c.deps.ensures shards (plainly self.id more) there) in
    when_goes layout self answers step _ _ (attempt_at self (Accepting s) more) is
    (subst (λ (a : Settled). Follows layout self answers step (commit layout (own_of self) self.id (attempt_in self answers) a)) (same_settled t_is deps_are) (h layout answers placed)))
    c.commit.ensures

pub returns : goal.returns
returns c = λ answers more placed stands.
    let self = c.args.self.now in
    let layout = c.args.topology.now in
    let shards = shards_used layout self.body in
    let there : Tallies c.get-acks.result.now shards (plainly self.id more) = subst (λ (t : Tally). Tallies t shards (plainly self.id more)) (sym c.get-acks.ensures) stands in
    let asked = c.majority_everywhere.ensures shards (plainly self.id more) placed.exist there in
    let no : majority_everywhere layout self.id self.body more ≡ false = cc in
    when_waits layout self answers c.silent.result (Accepts c.args.settled.now c.args.tally) more _ _ no c.silent.ensures.emitted
    (c.silent.ensures.next ∙ ap (λ (s : Settled). Stands (Accepts s c.args.tally)) c.in_ok-agreed.ensures) stands
