-- The order of stamps, and of the names that are made of one.
use Rattle.std.specs.Prelude.{◌==◌, Bool, ◌&&◌}
use Rattle.std.specs.declared.cmp.Ordering.{Ordering}
use Rattle.std.specs.Ordering.{nat_cmp, ordering_then, is_lt, is_le}
use Rattle.acc_stamp.specs.declared.stamps.Stamp.{Stamp}
use Rattle.acc_stamp.specs.declared.stamps.TxnId.{TxnId}
use Rattle.acc_stamp.specs.declared.stamps.Ballot.{Ballot}

-- by h, and of equal h by origin
abbrev pub stamp_cmp : Stamp → Stamp → Ordering
stamp_cmp a b = ordering_then (nat_cmp a.h b.h) (nat_cmp a.origin b.origin)

abbrev pub stamp_lt : Stamp → Stamp → Bool
stamp_lt a b = is_lt (stamp_cmp a b)

abbrev pub stamp_le : Stamp → Stamp → Bool
stamp_le a b = is_le (stamp_cmp a b)

abbrev pub stamp_eq : Stamp → Stamp → Bool
stamp_eq a b = (a.h == b.h) && (a.origin == b.origin)

abbrev pub zero_stamp : Stamp
zero_stamp = record { h = 0; origin = 0 }

-- the names of transactions, ordered as their stamps
abbrev pub id_cmp : TxnId → TxnId → Ordering
id_cmp a b = stamp_cmp a.0 b.0

abbrev pub id_lt : TxnId → TxnId → Bool
id_lt a b = stamp_lt a.0 b.0

abbrev pub id_eq : TxnId → TxnId → Bool
id_eq a b = stamp_eq a.0 b.0

-- ballots, ordered as their stamps
abbrev pub ballot_cmp : Ballot → Ballot → Ordering
ballot_cmp a b = stamp_cmp a.0 b.0

abbrev pub ballot_lt : Ballot → Ballot → Bool
ballot_lt a b = stamp_lt a.0 b.0

abbrev pub ballot_eq : Ballot → Ballot → Bool
ballot_eq a b = stamp_eq a.0 b.0

abbrev pub zero_ballot : Ballot
zero_ballot = record { 0 = zero_stamp }
