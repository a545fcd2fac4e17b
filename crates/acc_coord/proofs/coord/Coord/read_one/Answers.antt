use Rattle.std.proofs.Common.{◌∷◌, sym, subst, ◌∙◌, arith}
use Rattle.std.proofs.lemmas.Result.{IfOk-weaker}
use Rattle.acc_txn.specs.declared.outcome.Outcome.{Outcome}
use Rattle.acc_message.specs.declared.answer.ReadAnswer.{ReadAnswer}
use Rattle.acc_message.specs.declared.answer.ReadAnswer.TheVariants.{Values}
use Rattle.acc_message.specs.declared.message.Message.TheVariants.{ReadOk}
use Rattle.acc_message.specs.Attempts.{Executing}
use Rattle.acc_message.specs.Coordinator.{after_read, finish}
use Rattle.acc_coord.specs.Stands.{own_of, attempt_in, attempt_at, Follows}
use Rattle.acc_coord.proofs.Hearing.{reads_one_more}
use Rattle.acc_coord.proofs.coord.Coord.read_one.Goals as goal

pub returns-in_ok-known-in-Known : goal.returns-in_ok-known-in-Known
returns-in_ok-known-in-Known c =
    let self = c.args.self.now in
    let layout = c.args.topology.now in
    let s = c.args.settled.now in
    IfOk-weaker c.finish.result _ _
    (λ step h. λ from to id ballot answers placed are of unheard.
    subst (λ (answer : ReadAnswer). Follows layout self answers step (after_read layout (own_of self) self.id (attempt_at self (Executing s) (ReadOk from to id ballot answer ∷ answers)) s)) (sym c.in-Known.is)
    (subst (λ (o : Outcome). Follows layout self answers step (finish layout (own_of self) self.id (attempt_in self answers) s o)) (c.in_ok-known-in-Known.ensures ∙ c.in_ok-copy-in-Known.ensures) (h layout answers placed)))
    c.finish.ensures

pub returns-in_ok-more-in-Values : goal.returns-in_ok-more-in-Values
returns-in_ok-more-in-Values c =
    let self = c.args.self.now in
    let layout = c.args.topology.now in
    let s = c.args.settled.now in
    IfOk-weaker c.after_read.result _ _
    (λ step h. λ from to id ballot answers placed are of unheard.
    subst (λ (answer : ReadAnswer). Follows layout self answers step (after_read layout (own_of self) self.id (attempt_at self (Executing s) (ReadOk from to id ballot answer ∷ answers)) s)) (sym c.in-Values.is)
    (h layout answers (ReadOk from to id ballot (Values c.in-Values.cells) ∷ answers) placed
    (reads_one_more layout c.args.reads.now c.in_ok-more-in-Values.more c.args.shard answers (omega arith) are unheard from to id ballot c.in-Values.cells of c.in_ok-more-in-Values.ensures.heard c.in_ok-more-in-Values.ensures.cells)))
    c.after_read.ensures
