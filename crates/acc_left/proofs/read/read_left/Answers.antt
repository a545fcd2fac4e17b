-- What each document gives.
use Rattle.serde_json.specs.View.{view}
use Rattle.acc_left.proofs.ReadFacts.{given_left, given_refuses, left_cause, means_left}
use Rattle.acc_left.proofs.read.read_left.Goals as goal

pub returns-clause-accepted : goal.returns-clause-accepted
returns-clause-accepted c = means_left c.args.bytes.now (view c.in_ok-root.root) c.left_in.result c.in_ok-root.ensures.accepted c.left_in.ensures.gives

pub returns-clause-refused : goal.returns-clause-refused
returns-clause-refused c = left_cause c.args.bytes.now (view c.in_ok-root.root) c.left_in.result c.in_ok-root.ensures.accepted c.left_in.ensures.gives

pub returns-clause-read : goal.returns-clause-read
returns-clause-read c =
    given_left c.args.bytes.now c.left_in.result
    (means_left c.args.bytes.now (view c.in_ok-root.root) c.left_in.result c.in_ok-root.ensures.accepted c.left_in.ensures.gives)
    (left_cause c.args.bytes.now (view c.in_ok-root.root) c.left_in.result c.in_ok-root.ensures.accepted c.left_in.ensures.gives)

pub returns-clause-refuses : goal.returns-clause-refuses
returns-clause-refuses c =
    given_refuses c.args.bytes.now c.left_in.result
    (means_left c.args.bytes.now (view c.in_ok-root.root) c.left_in.result c.in_ok-root.ensures.accepted c.left_in.ensures.gives)
    (left_cause c.args.bytes.now (view c.in_ok-root.root) c.left_in.result c.in_ok-root.ensures.accepted c.left_in.ensures.gives)
