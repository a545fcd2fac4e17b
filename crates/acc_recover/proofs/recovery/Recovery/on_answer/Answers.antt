use Rattle.std.proofs.Common.{◌≡◌, sym, subst, ◌∙◌, IfOk}
use Rattle.std.proofs.lemmas.Result.{IfOk-weaker}
use Rattle.acc_stamp.specs.declared.stamps.TxnId.{TxnId}
use Rattle.acc_message.specs.Attempts.{Attempt}
use Rattle.acc_message.specs.Fields.{ballot_of}
use Rattle.acc_recover.specs.declared.judged.Judged.TheVariants.{Wait}
use Rattle.acc_recover.specs.Stands.{StandsFor, Judges}
use Rattle.acc_recover.proofs.Judging.{other_store}
use Rattle.acc_recover.proofs.Ruled.{JudgesAll, same_ballot, for_message}
use Rattle.acc_recover.proofs.recovery.Recovery.on_answer.Goals as goal

pub returns-then-is_store-clause-ok : goal.returns-then-is_store-clause-ok
returns-then-is_store-clause-ok c =
    let layout = c.args.topology.now in
    let r = c.args.self.now in
    let w = c.in-RecoverOk in
    let same : ballot_of c.args.m.now ≡ r.ballot = sym c.ballot.ensures ∙ same_ballot c.ballot.result r.ballot c.ne.result c.ne.ensures c.if-ne.false in
    IfOk-weaker c.on_view.result
    (JudgesAll layout r c.on_view.new.self w.from w.view)
    (λ judged. (x : TxnId) (a : Attempt) → StandsFor layout x r a → Judges layout x c.on_view.new.self a c.args.m.now judged)
    (λ judged h x a s.
    for_message layout x w.id r c.on_view.new.self a c.args.m.now w.from w.to w.ballot w.view judged w.is same
    (h x w.id a w.to s (sym (c.is_store.ensures.value r.body s.shards_are) ∙ c.if-is_store.true)))
    (subst (λ seen. IfOk c.on_view.result (JudgesAll layout r c.on_view.new.self w.from seen)) c.view.ensures c.on_view.ensures.ok)

pub returns-else-is_store-clause-ok : goal.returns-else-is_store-clause-ok
returns-else-is_store-clause-ok c = λ x a s.
    let layout = c.args.topology.now in
    let r = c.args.self.now in
    let w = c.in-RecoverOk in
    let same : ballot_of c.args.m.now ≡ r.ballot = sym c.ballot.ensures ∙ same_ballot c.ballot.result r.ballot c.ne.result c.ne.ensures c.if-ne.false in
    for_message layout x w.id r r a c.args.m.now w.from w.to w.ballot w.view Wait w.is same
    (other_store layout x w.id r w.from w.to w.view a s (sym (c.is_store.ensures.value r.body s.shards_are) ∙ c.if-is_store.false))
