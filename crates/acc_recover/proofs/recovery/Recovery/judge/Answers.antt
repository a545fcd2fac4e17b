use Rattle.std.proofs.Common.{◌≡◌, sym, subst, ◌∙◌, IfOk}
use Rattle.std.proofs.lemmas.Result.{IfOk-weaker}
use Rattle.acc_stamp.specs.declared.stamps.TxnId.{TxnId}
use Rattle.acc_message.specs.Attempts.{Attempt}
use Rattle.acc_message.specs.Fields.{ballot_of}
use Rattle.acc_recover.specs.declared.judged.Judged.TheVariants.{Wait}
use Rattle.acc_recover.specs.Stands.{StandsFor, WouldJudge}
use Rattle.acc_recover.proofs.Judging.{other_store}
use Rattle.acc_recover.proofs.Ruled.{WouldJudgeAll, would, same_ballot, would_for_message}
use Rattle.acc_recover.proofs.recovery.Recovery.judge.Goals as goal

pub returns-then-is_store : goal.returns-then-is_store
returns-then-is_store c =
    let layout = c.args.topology.now in
    let r = c.args.self.now in
    let w = c.in-RecoverOk in
    let same : ballot_of c.args.m.now ≡ r.ballot = sym c.ballot.ensures ∙ same_ballot c.ballot.result r.ballot c.ne.result c.ne.ensures c.if-ne.false in
    IfOk-weaker c.judge_view.result
    (WouldJudgeAll layout r w.from w.view)
    (λ judged. (x : TxnId) (a : Attempt) → StandsFor layout x r a → WouldJudge layout x a c.args.m.now judged)
    (λ judged h x a s.
    would_for_message layout x w.id r a c.args.m.now w.from w.to w.ballot w.view judged w.is same
    (h x w.id a w.to s (sym (c.is_store.ensures.value r.body s.shards_are) ∙ c.if-is_store.true)))
    (subst (λ seen. IfOk c.judge_view.result (WouldJudgeAll layout r w.from seen)) c.view.ensures c.judge_view.ensures)

pub returns-else-is_store : goal.returns-else-is_store
returns-else-is_store c = λ x a s.
    let layout = c.args.topology.now in
    let r = c.args.self.now in
    let w = c.in-RecoverOk in
    let same : ballot_of c.args.m.now ≡ r.ballot = sym c.ballot.ensures ∙ same_ballot c.ballot.result r.ballot c.ne.result c.ne.ensures c.if-ne.false in
    would_for_message layout x w.id r a c.args.m.now w.from w.to w.ballot w.view Wait w.is same
    (would layout x r a _ Wait (other_store layout x w.id r w.from w.to w.view a s (sym (c.is_store.ensures.value r.body s.shards_are) ∙ c.if-is_store.false)))
