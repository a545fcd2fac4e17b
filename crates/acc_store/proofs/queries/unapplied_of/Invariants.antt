-- Those so far, and those of the entries that are left, are all.
use Rattle.std.proofs.Common.{◌≡◌, ◌++◌}
use Rattle.acc_store.specs.Queries.{unapplied_among}
use Rattle.acc_store.proofs.queries.unapplied_of.Given as goal

abbrev pub invariant-loop-id : goal.invariant-loop-id
invariant-loop-id l = l.found.items ++ unapplied_among l.id-iterator ≡ unapplied_among l.records.entries
