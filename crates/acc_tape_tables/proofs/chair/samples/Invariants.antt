-- The items so far are of the actor, and with what is left they weigh no more.
use Rattle.std.proofs.Common.{◌≡◌, ◌+◌, ◌≤◌, All}
use Rattle.std.specs.Prelude.{sum_by}
use Rattle.acc_tape_tables.specs.Samples.{bytes_of}
use Rattle.acc_tape_tables.proofs.chair.samples.Given as goal

abbrev pub invariant-loop-draft : goal.invariant-loop-draft
invariant-loop-draft l = record {
  can_next : goal.iterator-loop-draft.can_next l.draft-iterator;
  is_finite : goal.iterator-loop-draft.is_finite l.draft-iterator;
  own : All (λ sample. sample.actor ≡ l.actor) l.all.items;
  weigh : sum_by bytes_of l.all.items + l.left ≤ l.weight;
}
