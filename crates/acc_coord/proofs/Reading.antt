-- The outcome of what the shards have read.
use Rattle.std.proofs.Common.{◌≡◌, ℕ, ◌<◌, ◌^◌, Bool, true, false, ◌&&◌, eqb, List, [], ◌∷◌, Some, None, refl, sym, ap, ◌∙◌}
use Rattle.std.specs.Prelude.{Option}
use Rattle.std.specs.List.{list_all}
use Rattle.std.proofs.lemmas.Bool.{or_left, or_right, eq-eqb}
use Rattle.acc_base.specs.Faults.{or_else}
use Rattle.acc_topology.specs.Layout.{Layout}
use Rattle.acc_topology.specs.Sets.{in_set, is_among, members}
use Rattle.acc_value.specs.declared.key.Key.{Key}
use Rattle.acc_value.specs.declared.value.Value.{Value}
use Rattle.acc_value.specs.Cells.{cell_of}
use Rattle.acc_txn.specs.declared.outcome.Outcome.{Outcome}
use Rattle.acc_txn.specs.Meaning.{outcome_of}
use Rattle.acc_message.specs.declared.message.Message.{Message}
use Rattle.acc_message.specs.Attempts.{has_read, read_everywhere, outcome_if, outcome_from}
use Rattle.acc_tally.proofs.Everywhere.{member_below}
use Rattle.acc_coord.specs.declared.coord.Coord.{Coord}
use Rattle.acc_coord.specs.declared.reads.Reads.{Reads as ReadSoFar}
use Rattle.acc_coord.specs.Stands.{IsPlaced, ReadsAre}

all_same : (p q : ℕ → Bool) (ns : List ℕ) → ((n : ℕ) → is_among ns n ≡ true → p n ≡ q n) → list_all p ns ≡ list_all q ns
all_same p q [] h = refl
all_same p q (m ∷ ns) h =
    ap (λ (b : Bool). b && list_all p ns) (h m (or_left (eqb m m) (is_among ns m) (eq-eqb m m refl)))
    ∙ ap (λ (b : Bool). q m && b) (all_same p q ns (λ n e. h n (or_right (eqb m n) (is_among ns n) e)))

module _ (layout : Layout) (c : Coord) (reads : ReadSoFar) (more : List Message) (placed : IsPlaced layout c) (are : ReadsAre layout reads more) where
  pub read_by_all : c.shards < 2 ^ 16 → list_all (in_set reads.heard) (members c.shards) ≡ read_everywhere layout c.body more
  read_by_all fits = all_same (in_set reads.heard) (has_read more) (members c.shards) (λ n e. are.heard n (member_below c.shards n fits e)) ∙ ap (list_all (has_read more)) placed.shards

  pub no_outcome : read_everywhere layout c.body more ≡ false → outcome_from layout c.body more ≡ None
  no_outcome e =
      ap (λ (k : Option Outcome). or_else k (outcome_if (read_everywhere layout c.body more) layout c.body more)) are.unknown
      ∙ ap (λ (b : Bool). outcome_if b layout c.body more) e

  pub the_outcome : read_everywhere layout c.body more ≡ true → outcome_from layout c.body more ≡ Some (outcome_of c.body (cell_of reads.cells))
  the_outcome e =
      ap (λ (k : Option Outcome). or_else k (outcome_if (read_everywhere layout c.body more) layout c.body more)) are.unknown
      ∙ ap (λ (b : Bool). outcome_if b layout c.body more) e
      ∙ sym (ap (λ (cells : Key → Option Value). Some (outcome_of c.body cells)) (λ i key. are.cells key i))
