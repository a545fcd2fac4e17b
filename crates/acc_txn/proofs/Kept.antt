-- What stood in the bytes before a call that appends stands there still.
use Rattle.std.proofs.Common.{ℕ, List, ◌++◌, length, take, sym, ap, ◌∙◌, arith, length-append}
use Rattle.std.proofs.Math.Seq.{take-length, take-append_seam}
use Rattle.std.proofs.lemmas.List.{take-take}
use Rattle.acc_txn.specs.Writing.{Keeps}

pub keeps_all : (bytes : List ℕ) → Keeps bytes bytes
keeps_all bytes = take-length bytes

pub keeps_front : (front behind : List ℕ) → Keeps front (front ++ behind)
keeps_front front behind = take-append_seam front behind

-- what keeps more keeps its front
pub keeps_more : (front behind after : List ℕ) → Keeps (front ++ behind) after → Keeps front after
keeps_more front behind after k =
    sym (take-take (length front) (length (front ++ behind)) after (omega (arith, length-append front behind)))
    ∙ ap (λ (bytes : List ℕ). take (length front) bytes) k
    ∙ take-append_seam front behind
