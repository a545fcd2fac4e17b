-- What a store can tell of a transaction at once.
use Rattle.std.specs.Prelude.{ℕ, Bool, false, cond, List, [], ◌∷◌, Option, None, Some}
use Rattle.std.specs.List.{list_all}
use Rattle.acc_stamp.specs.declared.stamps.TxnId.{TxnId}
use Rattle.acc_stamp.specs.declared.stamps.Ballot.{Ballot}
use Rattle.acc_stamp.specs.Actor.{shard_of}
use Rattle.acc_topology.specs.Layout.{Layout}
use Rattle.acc_deps.specs.Deps.{of_shard}
use Rattle.acc_deps.specs.declared.records.Settled.{Settled}
use Rattle.acc_message.specs.declared.answer.ReadAnswer.{ReadAnswer}
use Rattle.acc_message.specs.declared.answer.ReadAnswer.TheVariants.{Values}
use Rattle.acc_message.specs.declared.message.Message.{Message}
use Rattle.acc_message.specs.Taken.{Taken}
use Rattle.acc_message.specs.BallotRules.{stable_of}
use Rattle.acc_message.specs.Opening.{is_ready, applied_of}
use Rattle.acc_message.specs.StoreRules.{read_ok, read_here, kept_or}
use Rattle.acc_record.specs.declared.record.Record.{Record}
use Rattle.acc_record.specs.declared.shelf.Shelf.{Shelf}
use Rattle.acc_record.specs.Shelf.{record_at, cell_at}
use Rattle.acc_record.specs.Waits.{is_past_record}
use Rattle.acc_opening.specs.Plan.{Lookup, settled_in}

-- ---- the answer to a Stable of an opened transaction: the outcome, or else the present cells

abbrev pub answer_now : Layout → Shelf → Record → ReadAnswer
answer_now layout shelf r = kept_or r.outcome (Values (read_here layout (shard_of shelf.actor) r.body (cell_at shelf.cells)))

abbrev pub at_once_by : Layout → Shelf → TxnId → Ballot → Option Record → List Message
at_once_by layout shelf x b None = []
at_once_by layout shelf x b (Some r) = cond r.opened (read_ok shelf.actor x b (answer_now layout shelf r) ∷ []) []

abbrev pub at_once_of : Layout → Shelf → TxnId → Ballot → List Message
at_once_of layout shelf x b = at_once_by layout shelf x b (record_at shelf.records x)

-- ---- readiness: it is stable, and none of its dependencies in the shard holds it back

abbrev pub is_ready_with : ℕ → Lookup → Option Settled → Bool
is_ready_with shard at None = false
is_ready_with shard at (Some s) = list_all (λ y. is_past_record s.t (at y)) (of_shard s.deps shard)

abbrev pub is_ready_at : Shelf → TxnId → Bool
is_ready_at shelf x = is_ready_with (shard_of shelf.actor) (record_at shelf.records) (settled_in (record_at shelf.records x))

-- the same by the rules

abbrev pub may_execute_with : ℕ → List Taken → Option Settled → Bool
may_execute_with shard history None = false
may_execute_with shard history (Some s) = is_ready shard history (applied_of shard history) s

abbrev pub may_execute : ℕ → List Taken → TxnId → Bool
may_execute shard history x = may_execute_with shard history (stable_of history x)
