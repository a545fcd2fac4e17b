-- Turns, one after another.
use Rattle.std.proofs.Common.{◌≡◌, ℕ, ◌+◌, ◌<◌, Bool, true, false, cond, List, [], ◌∷◌, ◌++◌, length, get_or, drop, Option, None, Some, is_some, sym, refl, ap, ◌∙◌, subst, append_assoc}
use Rattle.std.specs.List.{AllByRecursion}
use Rattle.std.proofs.lemmas.List.{drop_more, append-nil}
use Rattle.std.proofs.lemmas.Bool.{true≢false}
use Rattle.acc_stamp.specs.declared.actors.Actor.{Actor}
use Rattle.acc_stamp.specs.Actor.{shard_of}
use Rattle.acc_topology.specs.Layout.{Layout}
use Rattle.acc_value.specs.declared.key.Key.{Key}
use Rattle.acc_value.specs.declared.value.Value.{Value}
use Rattle.acc_value.specs.Cells.{applied}
use Rattle.acc_message.specs.declared.message.Message.{Message}
use Rattle.acc_record.specs.declared.record.Record.{Record}
use Rattle.acc_opening.specs.Plan.{Lookup}
use Rattle.acc_opening.specs.declared.turns.Turn.{Turn}
use Rattle.acc_opening.specs.Turns.{change_of, changes_in}
use Rattle.acc_opening.specs.Layer.{WritesOver}
use Rattle.acc_opening.specs.Release.{sent_by, written_in, opening_by, written_at, release_by, written_at_all, IsKept, IsReleased}
use Rattle.acc_opening.proofs.LayerFacts.{Writes}

abbrev pub Left : Layout → Actor → Lookup → List Turn → (Key → Option Value) → List Message → Writes → List Turn → Type 0
Left layout own at all cells sent writes left =
    AllByRecursion (IsKept at) left
    × (sent ++ release_by layout own at (changes_in left) (applied cells writes) ≡ release_by layout own at (changes_in all) cells)
    × (written_at_all layout (shard_of own) at (changes_in left) (applied cells writes) ≡ written_at_all layout (shard_of own) at (changes_in all) cells)

module _ (layout : Layout) (own : Actor) (at : Lookup) (all : List Turn) (cells : Key → Option Value) where
  pub turn_step : (sent after : List Message) (writes now : Writes) (i : ℕ) (turn : Turn) (r : Record) → i < length all → turn ≡ get_or all i turn → at turn.id ≡ Some r
      → after ≡ sent ++ sent_by layout own r (change_of turn) (applied cells writes)
      → WritesOver writes (written_in layout (shard_of own) r (change_of turn)) now
      → Left layout own at all cells sent writes (drop i all) → Left layout own at all cells after now (drop (i + 1) all)
  turn_step sent after writes now i turn r within is there sends writes_over left =
      let rest : List Turn = drop (i + 1) all in
      let split : drop i all ≡ turn ∷ rest = drop_more all i turn within ∙ ap (λ x. x ∷ rest) (sym is) in
      let here : Left layout own at all cells sent writes (turn ∷ rest) = subst (Left layout own at all cells sent writes) split left in
      let then_cells : applied cells now ≡ written_at layout (shard_of own) (at turn.id) (change_of turn) (applied cells writes) =
      (λ j key. writes_over cells key j) ∙ sym (ap (λ o. written_at layout (shard_of own) o (change_of turn) (applied cells writes)) there) in (
        here.0.1,
        ap (λ list. list ++ release_by layout own at (changes_in rest) (applied cells now)) sends
            ∙ append_assoc sent (sent_by layout own r (change_of turn) (applied cells writes)) _
            ∙ ap (λ f. sent ++ (sent_by layout own r (change_of turn) (applied cells writes) ++ release_by layout own at (changes_in rest) f)) then_cells
            ∙ ap (λ o. sent ++ (opening_by layout own o (change_of turn) (applied cells writes) ++ release_by layout own at (changes_in rest) (written_at layout (shard_of own) (at turn.id) (change_of turn) (applied cells writes)))) (sym there)
            ∙ here.1,
        ap (written_at_all layout (shard_of own) at (changes_in rest)) then_cells ∙ here.2,
      )

  -- each has a record
  pub none_missing : (sent : List Message) (writes : Writes) (i : ℕ) (turn : Turn) → i < length all → turn ≡ get_or all i turn → None ≡ at turn.id
      → Left layout own at all cells sent writes (drop i all) → ⊥
  none_missing sent writes i turn within is none left =
      let rest : List Turn = drop (i + 1) all in
      let split : drop i all ≡ turn ∷ rest = drop_more all i turn within ∙ ap (λ x. x ∷ rest) (sym is) in
      let here : Left layout own at all cells sent writes (turn ∷ rest) = subst (Left layout own at all cells sent writes) split left in
      true≢false (sym here.0.0 ∙ ap is_some (sym none))
