use Rattle.std.proofs.Common.{◌≡◌, true, false, sym, ap, subst, ◌∙◌, arith}
use Rattle.std.specs.Prelude.{Option}
use Rattle.std.proofs.lemmas.Result.{IfOk-weaker}
use Rattle.acc_deps.specs.declared.records.Settled.{Settled}
use Rattle.acc_txn.specs.declared.outcome.Outcome.{Outcome}
use Rattle.acc_message.specs.Attempts.{Executing, read_everywhere}
use Rattle.acc_message.specs.Coordinator.{finish, finish_with}
use Rattle.acc_coord.specs.declared.step.Stage.TheVariants.{Reads}
use Rattle.acc_coord.specs.declared.step.Next.TheVariants.{Stage as Stands}
use Rattle.acc_coord.specs.Stands.{own_of, attempt_in, attempt_at, Follows}
use Rattle.acc_coord.proofs.Moves.{waits_on}
use Rattle.acc_coord.proofs.Reading.{read_by_all, no_outcome, the_outcome}
use Rattle.acc_coord.proofs.coord.Coord.after_read.Goals as goal

pub returns-then-not-has_all : goal.returns-then-not-has_all
returns-then-not-has_all c = λ layout answers more placed are.
    let self = c.args.self.now in
    let s = c.args.settled.now in
    let asked = read_by_all layout self c.args.reads more placed are (omega arith) in
    let not_all : read_everywhere layout self.body more ≡ false = cc in
    subst (λ (o : Option Outcome). Follows layout self answers c.silent.result (finish_with layout (own_of self) self.id (attempt_at self (Executing s) more) s o)) (sym (no_outcome layout self c.args.reads more placed are not_all))
    (waits_on layout self answers c.silent.result (Reads s c.args.reads) more c.silent.ensures.emitted
    (c.silent.ensures.next ∙ ap (λ (a : Settled). Stands (Reads a c.args.reads)) c.in_ok-settled.ensures) are)

pub returns : goal.returns
returns c =
    let self = c.args.self.now in
    let s = c.args.settled.now in
    IfOk-weaker c.finish.result _ _
    (λ step h. λ layout answers more placed are.
    let asked = read_by_all layout self c.args.reads more placed are (omega arith) in
    let all : read_everywhere layout self.body more ≡ true = cc in
    subst (λ (o : Option Outcome). Follows layout self answers step (finish_with layout (own_of self) self.id (attempt_at self (Executing s) more) s o)) (sym (the_outcome layout self c.args.reads more placed are all))
    (subst (λ (o : Outcome). Follows layout self answers step (finish layout (own_of self) self.id (attempt_in self answers) s o)) (c.in_ok-outcome.ensures ∙ c.in_ok-evaluate.ensures) (h layout answers placed)))
    c.finish.ensures
