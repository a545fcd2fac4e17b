use Rattle.std.proofs.Common.{refl, sym, ap, ◌∙◌}
use Rattle.std.specs.Prelude.{is_some}
use Rattle.std.specs.Map.{lookup}
use Rattle.std.specs.BTreeMap.{is_at}
use Rattle.acc_stamp.specs.Stamp.{id_cmp}
use Rattle.acc_node.proofs.Keys.{keys_same, keys_undone}
use Rattle.acc_node.proofs.node.Node.open_first.Goals as goal

pub returns-in-Err-clause-err : goal.returns-in-Err-clause-err
returns-in-Err-clause-err c =
    let was = ap is_some (sym c.in_ok-insert.ensures.old) ∙ sym c.is_some-was_open.ensures ∙ c.if-was_open.true in
    record {
      clock = refl;
      begun = λ txn. refl;
      clients = keys_same c.args.self.now.clients c.insert.new.self c.args.id tt was c.in_ok-insert.ensures.updates.0;
      attempts = λ x. ap (lookup (is_at (id_cmp x))) c.in-Err.ensures.err;
    }

pub returns-clause-err : goal.returns-clause-err
returns-clause-err c =
    let was = ap is_some (sym c.in_ok-insert.ensures.old) ∙ sym c.is_some-was_open.ensures ∙ c.if-was_open.false in
    record {
      clock = refl;
      begun = λ txn. refl;
      clients = λ x. ap is_some
          (keys_undone c.args.self.now.clients c.insert.new.self c.remove.new.self c.args.id tt was c.in_ok-insert.ensures.updates.0 c.remove.ensures.updates.0 x);
      attempts = λ x. ap (lookup (is_at (id_cmp x))) c.in-Err-2.ensures.err;
    }
