-- Proposals with the same parts are the same.
use Rattle.std.proofs.Common.{◌≡◌, true}
use Rattle.acc_stamp.specs.Stamp.{stamp_eq, ballot_eq}
use Rattle.acc_stamp.proofs.Order.{stamp_order, ballot_order}
use Rattle.acc_deps.specs.declared.records.Accepted.{Accepted}

pub same_accepted : (a b : Accepted) → ballot_eq a.ballot b.ballot ≡ true → stamp_eq a.t b.t ≡ true → a.deps ≡ b.deps → a ≡ b
same_accepted a b ballots stamps deps =
    λ i. record { ballot = (ballot_order.decides a.ballot b.ballot).0 ballots i; t = (stamp_order.decides a.t b.t).0 stamps i; deps = deps i }
