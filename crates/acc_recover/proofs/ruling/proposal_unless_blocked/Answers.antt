-- With nothing to wait for, the transaction's own timestamp is proposed.
use Rattle.std.proofs.Common.{◌≡◌, ◌==◌, ◌∷◌, [], ℕ, List, true, length, refl, sym, ◌∙◌, arith, eqb-true}
use Rattle.std.proofs.lemmas.Result.{IfOk-weaker}
use Rattle.acc_stamp.specs.declared.stamps.TxnId.{TxnId}
use Rattle.acc_quorum.specs.Answers.{Answer, union_of}
use Rattle.acc_tally.specs.Stands.{StandsFor}
use Rattle.acc_message.specs.declared.message.Message.{Message}
use Rattle.acc_message.specs.Attempts.{plainly}
use Rattle.acc_message.specs.RecoveryDecision.{unless_blocked}
use Rattle.acc_recover.specs.declared.judged.Judged.{Judged}
use Rattle.acc_recover.specs.Rulings.{judged_of, proposes}
use Rattle.acc_recover.proofs.ruling.proposal_unless_blocked.Goals as goal

proposed :
    (x : TxnId) (answers : List Message) (waits : List TxnId) → (length waits == 0) ≡ true
    → judged_of (proposes x.0 (union_of (plainly x answers))) ≡ judged_of (unless_blocked x answers waits)
proposed x answers [] h = refl
proposed x answers (y ∷ waits) h = absurd (omega (arith, eqb-true (length (y ∷ waits)) 0 h))

pub returns-then-is_empty : goal.returns-then-is_empty
returns-then-is_empty c =
    let x : TxnId = c.args.id in
    let tally = c.args.tally.now in
    IfOk-weaker c.proposal.result
    (λ (judged : Judged). (shards : List ℕ) (answers : List Answer) → StandsFor tally shards answers → judged ≡ judged_of (proposes x.0 (union_of answers)))
    (λ (judged : Judged). (shards : List ℕ) (answers : List Message) → StandsFor tally shards (plainly x answers) → judged ≡ judged_of (unless_blocked x answers c.args.waits))
    (λ judged given shards answers stands.
    given shards (plainly x answers) stands ∙ proposed x answers c.args.waits (sym c.is_empty.ensures ∙ c.if-is_empty.true))
    c.proposal.ensures
