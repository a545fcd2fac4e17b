use Rattle.acc_node.proofs.Hearing.{coordinated}
use Rattle.acc_node.proofs.heard.coordinate.Goals as goal

pub returns-clause-ok : goal.returns-clause-ok
returns-clause-ok c = λ x a s.
    let e = c.in_ok-emitted in
    let t = c.in_ok-has_replied in
    coordinated c.args.topology.now x c.on_answer.new.self a c.args.m.now e.emitted c.answer_client.new.notes e.has_ended c.args.is_open t.has_replied
    (e.ensures.step x a s) t.ensures.ok
