-- What of a message are cells and outcomes that have a spelling: each number has 64 bits, and what is written to are
-- keys.
use Rattle.std.proofs.Common.{true, false, cond, List, [], ◌∷◌, Option, Some, unwrap_or}
use Rattle.std.specs.declared.cmp.Ordering.TheVariants.{Less, Equal, Greater}
use Rattle.std.specs.FinMap.Entries.{by_order}
use Rattle.std.specs.List.{fold, AllByRecursion}
use Rattle.acc_value.specs.declared.key.Key.{Key}
use Rattle.acc_value.specs.declared.value.Value.{Value}
use Rattle.acc_value.specs.Key.{key_cmp, key_eq}
use Rattle.acc_value.specs.Pairs.{find, put}
use Rattle.acc_txn.specs.Short.{IsNumberedBody}
use Rattle.acc_code.specs.Short.{IsCell}
use Rattle.acc_message.specs.declared.answer.ReadAnswer.{ReadAnswer}
use Rattle.acc_message.specs.declared.answer.ReadAnswer.TheVariants.{Values, Known}
use Rattle.acc_message.specs.declared.message.Message.{Message}
use Rattle.acc_message.specs.declared.message.Message.TheVariants.{PreAccept, PreAcceptOk, Accept, AcceptOk, Commit, CommitOk, Stable, ReadOk, Apply, Recover, RecoverOk, Nack, Decided, Inform}
use Rattle.acc_message.specs.NodeRules.{Act, Begins, Recovers, Slows, Takes, Restarts}
use Rattle.acc_left_laws.proofs.WrittenKeys.{IsSpelled}

abbrev pub AreCellsOf : List (Key × Option Value) → Type 0
AreCellsOf pairs = AllByRecursion (λ p. IsCell p.1) pairs

abbrev pub AnswersCells : ReadAnswer → Type 0
AnswersCells (Values cells) = AreCellsOf cells
AnswersCells (Known outcome) = IsSpelled outcome

abbrev pub HasFittingCells : Message → Type 0
HasFittingCells (PreAccept from to id ballot body) = IsNumberedBody body
HasFittingCells (PreAcceptOk from to id ballot vote deps) = Unit {0}
HasFittingCells (Accept from to id ballot body t deps) = IsNumberedBody body
HasFittingCells (AcceptOk from to id ballot deps) = Unit {0}
HasFittingCells (Commit from to id ballot body t deps) = IsNumberedBody body
HasFittingCells (CommitOk from to id ballot) = Unit {0}
HasFittingCells (Stable from to id ballot body t deps) = IsNumberedBody body
HasFittingCells (ReadOk from to id ballot answer) = AnswersCells answer
HasFittingCells (Apply from to id ballot body t deps outcome) = IsNumberedBody body × IsSpelled outcome
HasFittingCells (Recover from to id ballot body) = IsNumberedBody body
HasFittingCells (RecoverOk from to id ballot view) = Unit {0}
HasFittingCells (Nack from to id ballot promised) = Unit {0}
HasFittingCells (Decided from to id ballot t deps) = Unit {0}
HasFittingCells (Inform from to id ballot outcome) = IsSpelled outcome

abbrev pub TakesFitting : Act → Type 0
TakesFitting (Begins txn body) = IsNumberedBody body
TakesFitting (Recovers x body) = IsNumberedBody body
TakesFitting (Slows x) = Unit {0}
TakesFitting (Takes m) = HasFittingCells m
TakesFitting Restarts = Unit {0}

-- ---- pairs

put_fits : (pairs : List (Key × Option Value)) (key : Key) (cell : Option Value) → AreCellsOf pairs → IsCell cell → AreCellsOf (put pairs key cell)
put_fits [] key cell h c = (c, tt)
put_fits (p ∷ pairs) key cell h c =
    elim (key_cmp key p.0) as (λ o. AreCellsOf (by_order o ((key, cell) ∷ p ∷ pairs) ((p.0, cell) ∷ pairs) (p ∷ put pairs key cell))) [
      | Less ↦ (c, h)
      | Equal ↦ (c, h.1)
      | Greater ↦ (h.0, put_fits pairs key cell h.1 c)
    ]

pub put_each : {X : Type 0} (pair : X → Key × Option Value) (xs : List X) (so_far : List (Key × Option Value))
    → AllByRecursion (λ x. IsCell (pair x).1) xs → AreCellsOf so_far → AreCellsOf (fold (λ so_far x. put so_far (pair x).0 (pair x).1) so_far xs)
put_each pair [] so_far h all = all
put_each pair (x ∷ xs) so_far h all = put_each pair xs (put so_far (pair x).0 (pair x).1) h.1 (put_fits so_far (pair x).0 (pair x).1 all h.0)

-- what is found in a list of cells, or else another cell
pub found_fits : (pairs : List (Key × Option Value)) (key : Key) (other : Option Value) → AreCellsOf pairs → IsCell other → IsCell (unwrap_or (find pairs key) other)
found_fits [] key other h k = k
found_fits (p ∷ pairs) key other h k =
    elim (key_eq key p.0) as (λ same. IsCell (unwrap_or (cond same (Some p.1) (find pairs key)) other)) [
      | true ↦ h.0
      | false ↦ found_fits pairs key other h.1 k
    ]
