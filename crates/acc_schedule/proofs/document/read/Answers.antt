-- What each document gives.
use Rattle.serde_json.specs.View.{view}
use Rattle.acc_schedule.proofs.AnswerFacts.{given_read, given_refuses, plan_cause, plan_means}
use Rattle.acc_schedule.proofs.document.read.Goals as goal

pub returns-clause-read : goal.returns-clause-read
returns-clause-read c =
    given_read c.args.bytes.now c.read_whole.result
    (plan_means c.args.bytes.now (view c.in_ok-root.root) c.read_whole.result c.in_ok-root.ensures.accepted c.read_whole.ensures.plan)
    (plan_cause c.args.bytes.now (view c.in_ok-root.root) c.read_whole.result c.in_ok-root.ensures.accepted c.read_whole.ensures.plan)

pub returns-clause-refuses : goal.returns-clause-refuses
returns-clause-refuses c =
    given_refuses c.args.bytes.now c.read_whole.result
    (plan_means c.args.bytes.now (view c.in_ok-root.root) c.read_whole.result c.in_ok-root.ensures.accepted c.read_whole.ensures.plan)
    (plan_cause c.args.bytes.now (view c.in_ok-root.root) c.read_whole.result c.in_ok-root.ensures.accepted c.read_whole.ensures.plan)
