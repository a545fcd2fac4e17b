-- Those so far are applied.
use Rattle.std.proofs.Common.{◌≡◌, true, take}
use Rattle.std.specs.List.{list_all}
use Rattle.acc_record.specs.Shelf.{record_at}
use Rattle.acc_store.specs.Queries.{applied_in}
use Rattle.acc_store.proofs.queries.are_applied.Given as goal

abbrev pub invariant-loop-id : goal.invariant-loop-id
invariant-loop-id l = list_all (λ y. applied_in (record_at l.shelf.records y)) (take l.id-index l.ids) ≡ true
