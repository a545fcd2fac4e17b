use Rattle.std.proofs.Common.{◌≡◌, true, sym, ◌∙◌, rules}
use Rattle.acc_node.proofs.running.slow_down.Goals as goal

pub returns-in-Ok-clause-ok : goal.returns-in-Ok-clause-ok
returns-in-Ok-clause-ok c = λ x a s.
    let slowed = c.in-Ok.ensures.ok x a s in
    let waits : c.in_preaccept.result ≡ true = search rules in
    record {
      voting = sym (c.in_preaccept.ensures.stands c.args.topology.now x a s) ∙ waits;
      majority = slowed.majority;
      sends = slowed.sends;
      goes_on = slowed.goes_on;
    }
