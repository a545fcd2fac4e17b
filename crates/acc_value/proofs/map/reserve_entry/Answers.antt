-- A new entry holds null, as the key without an entry did.
use Rattle.std.proofs.Common.{sym, ap, ◌∙◌, cond, Some, None}
use Rattle.std.specs.BTreeMap as tree
use Rattle.acc_value.specs.Key.{key_cmp, key_eq}
use Rattle.acc_value.proofs.EntryFacts.{made_same}
use Rattle.acc_value.proofs.map.reserve_entry.Goals as goal

pub returns-in_ok-insert-clause-same : goal.returns-in_ok-insert-clause-same
returns-in_ok-insert-clause-same c =
    made_same c.args.entries.now c.insert.new.self c.args.key.now (sym c.if-not-contains_key.ensures)
    (λ q. c.in_ok-insert.ensures.updates.0 q
    ∙ ap (λ key. cond (key_eq key q) (Some None) (tree.get key_cmp c.args.entries.now q)) c.in_ok-copy.ensures)
