use Rattle.std.proofs.Common.{◌≡◌, ◌∷◌, None, sym, ◌∙◌, ap}
use Rattle.std.proofs.lemmas.Result.{IfOk-weaker}
use Rattle.acc_message.specs.RecoveryDecision.{without_records, recovery_decision}
use Rattle.acc_recover.specs.Rulings.{judged_of}
use Rattle.acc_recover.specs.Rank.{adopted}
use Rattle.acc_recover.proofs.Decision.{decision_without}
use Rattle.acc_recover.proofs.Ruled.{ToldBy}
use Rattle.acc_recover.proofs.ruling.ruling.Goals as goal

pub returns-in-None : goal.returns-in-None
returns-in-None c =
    let none : None ≡ adopted (c.args.view.now ∷ c.args.earlier.now) = sym c.in-None.is ∙ c.in_ok-choice.ensures in
    IfOk-weaker c.ruling_without_records.result
    (ToldBy c.args.topology.now c.args.id c.args.tally.now (c.args.view.now ∷ c.args.earlier.now) without_records)
    (ToldBy c.args.topology.now c.args.id c.args.tally.now (c.args.view.now ∷ c.args.earlier.now) recovery_decision)
    (λ judged h body answers counted shards views.
    h body answers counted shards views
    ∙ ap judged_of (decision_without c.args.topology.now c.args.id body answers (c.args.view.now ∷ c.args.earlier.now) views none))
    c.ruling_without_records.ensures
