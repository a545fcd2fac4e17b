use Rattle.serde_json.specs.View.{view}
use Rattle.acc_glance.proofs.LookFacts.{given_looks, given_refusal, looks_cause, looks_in_time, looks_mean}
use Rattle.acc_glance.proofs.looks.read_looks.Goals as goal

pub returns-clause-accepted : goal.returns-clause-accepted
returns-clause-accepted c = looks_mean c.args.bytes.now (view c.in_ok-root.root) c.said_in.result c.in_ok-root.ensures.accepted c.said_in.ensures.says

pub returns-clause-in_time : goal.returns-clause-in_time
returns-clause-in_time c =
    looks_in_time c.args.bytes.now c.said_in.result
    (looks_mean c.args.bytes.now (view c.in_ok-root.root) c.said_in.result c.in_ok-root.ensures.accepted c.said_in.ensures.says)

pub returns-clause-refused : goal.returns-clause-refused
returns-clause-refused c = looks_cause c.args.bytes.now (view c.in_ok-root.root) c.said_in.result c.in_ok-root.ensures.accepted c.said_in.ensures.says

pub returns-clause-read : goal.returns-clause-read
returns-clause-read c =
    given_looks c.args.bytes.now c.said_in.result (looks_mean c.args.bytes.now (view c.in_ok-root.root) c.said_in.result c.in_ok-root.ensures.accepted c.said_in.ensures.says)
    (looks_cause c.args.bytes.now (view c.in_ok-root.root) c.said_in.result c.in_ok-root.ensures.accepted c.said_in.ensures.says)

pub returns-clause-refuses : goal.returns-clause-refuses
returns-clause-refuses c =
    given_refusal c.args.bytes.now c.said_in.result (looks_mean c.args.bytes.now (view c.in_ok-root.root) c.said_in.result c.in_ok-root.ensures.accepted c.said_in.ensures.says)
    (looks_cause c.args.bytes.now (view c.in_ok-root.root) c.said_in.result c.in_ok-root.ensures.accepted c.said_in.ensures.says)
