-- Those so far hold nothing back.
use Rattle.std.proofs.Common.{◌≡◌, true, take}
use Rattle.std.specs.List.{list_all}
use Rattle.acc_record.specs.Shelf.{record_at}
use Rattle.acc_record.specs.Waits.{is_past_record}
use Rattle.acc_execute.proofs.readiness.are_past.Given as goal

abbrev pub invariant-loop-id : goal.invariant-loop-id
invariant-loop-id l = list_all (λ y. is_past_record l.t (record_at l.shelf.records y)) (take l.id-index l.ids) ≡ true
