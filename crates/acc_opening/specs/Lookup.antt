-- The records of a store with the record that the step gives its own transaction.
use Rattle.std.specs.Prelude.{Bool, false, cond, Option, None, Some}
use Rattle.acc_stamp.specs.Stamp.{id_eq}
use Rattle.acc_record.specs.declared.record.Record.{Record}
use Rattle.acc_record.specs.Shelf.{Records, record_at}
use Rattle.acc_record.specs.Over.{is_over}
use Rattle.acc_opening.specs.Plan.{Lookup}

-- the own record takes the place of the one that is kept
abbrev pub lookup : Records → Record → Lookup
lookup records own = λ x. cond (id_eq x own.id) (Some own) (record_at records x)

-- there is a record, which is stable and applied
abbrev pub is_over_in : Option Record → Bool
is_over_in None = false
is_over_in (Some r) = is_over r
