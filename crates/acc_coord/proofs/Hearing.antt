-- One more shard has read: its cells are the ones of its keys.
use Rattle.std.proofs.Common.{◌≡◌, ℕ, ◌<◌, Bool, true, false, eqb, cond, ◌||◌, List, [], ◌∷◌, Option, None, refl, sym, ap, ◌∙◌, unwrap_or}
use Rattle.std.specs.Prelude.{◌==◌, if◌then◌else◌}
use Rattle.std.proofs.lemmas.Bool.{or_parts, eqb-true, eq-eqb}
use Rattle.acc_stamp.specs.declared.stamps.TxnId.{TxnId}
use Rattle.acc_stamp.specs.declared.stamps.Ballot.{Ballot}
use Rattle.acc_stamp.specs.declared.actors.Actor.{Actor}
use Rattle.acc_stamp.specs.Actor.{shard_of}
use Rattle.acc_value.specs.declared.key.Key.{Key}
use Rattle.acc_value.specs.declared.value.Value.{Value}
use Rattle.acc_value.specs.Pairs.{find}
use Rattle.acc_value.specs.Cells.{cell_of}
use Rattle.acc_topology.specs.Layout.{Layout}
use Rattle.acc_topology.specs.Keys.{shard_of_key}
use Rattle.acc_topology.specs.Sets.{in_set}
use Rattle.acc_message.specs.declared.answer.ReadAnswer.TheVariants.{Values}
use Rattle.acc_message.specs.declared.message.Message.{Message}
use Rattle.acc_message.specs.declared.message.Message.TheVariants.{ReadOk}
use Rattle.acc_message.specs.Fields.{from_of}
use Rattle.acc_message.specs.Attempts.{has_read, cell_read, cell_in}
use Rattle.acc_coord.specs.declared.reads.Reads.{Reads as ReadSoFar}
use Rattle.acc_coord.specs.Cells.{HasCells}
use Rattle.acc_coord.specs.Stands.{ReadsAre}

-- no answer of a shard, no cell of its keys
unread : (layout : Layout) (answers : List Message) (key : Key) → has_read answers (shard_of_key layout key) ≡ false → cell_read layout answers key ≡ None
unread layout [] key none = refl
unread layout (m ∷ answers) key none =
    let parts = or_parts (eqb (shard_of (from_of m)) (shard_of_key layout key)) (has_read answers (shard_of_key layout key)) none in
    ap (λ (b : Bool). cond b (cell_in key m) (cell_read layout answers key)) parts.0 ∙ unread layout answers key parts.1

swapped : (a b : Bool) → (a || b) ≡ (b || a)
swapped true true = refl
swapped true false = refl
swapped false true = refl
swapped false false = refl

turned : (m n : ℕ) → eqb m n ≡ eqb n m
turned m n =
    elim (eqb m n) as (λ b. eqb m n ≡ b → b ≡ eqb n m) [
      | true ↦ λ e. sym (eq-eqb n m (sym (eqb-true m n e)))
      | false ↦ λ e. elim (eqb n m) as (λ b. eqb n m ≡ b → false ≡ b) [
        | true ↦ λ f. sym e ∙ eq-eqb m n (sym (eqb-true n m f))
        | false ↦ λ f. refl
      ] refl
    ] refl

-- a key of the shard has the cell of the answer, every other key the one that it had
chosen : (there : Bool) (found : Option (Option Value)) (before other : Option Value) → before ≡ other → (there ≡ true → other ≡ None)
    → (if there then unwrap_or found before else before) ≡ cond there (unwrap_or found None) other
chosen true found before other e none = ap (unwrap_or found) (e ∙ none refl)
chosen false found before other e none = e

module _ (layout : Layout) (reads more : ReadSoFar) (shard : ℕ) (answers : List Message) (small : shard < 16) (are : ReadsAre layout reads answers) (unheard : in_set reads.heard shard ≡ false) where
  no_cell : (key : Key) → eqb (shard_of_key layout key) shard ≡ true → cell_read layout answers key ≡ None
  no_cell key there =
      unread layout answers key (ap (has_read answers) (eqb-true (shard_of_key layout key) shard there) ∙ sym (are.heard shard small) ∙ unheard)

  pub reads_one_more : (from to : Actor) (id : TxnId) (ballot : Ballot) (cells : List (Key × Option Value)) → shard_of from ≡ shard → ((n : ℕ) → in_set more.heard n ≡ (in_set reads.heard n || shard == n)) → HasCells layout shard reads.cells cells more.cells
      → ReadsAre layout more (ReadOk from to id ballot (Values cells) ∷ answers)
  reads_one_more from to id ballot cells of hears has =
      record {
        heard = λ n lt.
            hears n ∙ ap (λ (b : Bool). b || eqb shard n) (are.heard n lt) ∙ swapped (has_read answers n) (eqb shard n)
            ∙ ap (λ (s : ℕ). eqb s n || has_read answers n) (sym of);
        unknown = are.unknown;
        cells = λ key.
            has key ∙ chosen (eqb (shard_of_key layout key) shard) (find cells key) (cell_of reads.cells key) (cell_read layout answers key) (are.cells key) (no_cell key)
            ∙ ap (λ (b : Bool). cond b (cell_of cells key) (cell_read layout answers key)) (turned (shard_of_key layout key) shard ∙ ap (λ (s : ℕ). eqb s (shard_of_key layout key)) (sym of));
      }
