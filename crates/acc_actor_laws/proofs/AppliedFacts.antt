-- Applied is opened with an outcome.
use Rattle.std.proofs.Common.{◌≡◌, ℕ, Bool, true, false, ◌&&◌, List, refl, ◌∙◌}
use Rattle.std.specs.Prelude.{is_some}
use Rattle.acc_stamp.specs.declared.stamps.TxnId.{TxnId}
use Rattle.acc_stamp.specs.Rising.{id_among}
use Rattle.acc_stamp.proofs.Order.{id_order}
use Rattle.acc_stamp.proofs.Rising.{is_among-filter}
use Rattle.acc_message.specs.Taken.{Taken}
use Rattle.acc_message.specs.BallotRules.{kept_outcome}
use Rattle.acc_message.specs.Opening.{opened_of, is_applied, applied_of}

swapped : (a b : Bool) → (a && b) ≡ (b && a)
swapped true true = refl
swapped true false = refl
swapped false true = refl
swapped false false = refl

pub applied_is : (shard : ℕ) (history : List Taken) (x : TxnId) → id_among x (applied_of shard history) ≡ is_applied shard history x
applied_is shard history x =
    is_among-filter id_order x (λ y. is_some (kept_outcome history y)) (opened_of shard history)
    ∙ swapped (is_some (kept_outcome history x)) (id_among x (opened_of shard history))
