-- The numbers of transactions by their ids, and entries of a table of them.
use Rattle.std.specs.Prelude.{◌≡◌, ℕ, List, Option, Some, IfSome}
use Rattle.std.specs.List.{All}
use Rattle.std.specs.Map.{lookup}
use Rattle.std.specs.BTreeMap.{is_at}
use Rattle.acc_stamp.specs.declared.stamps.TxnId.{TxnId}
use Rattle.acc_stamp.specs.Stamp.{id_cmp}

-- ids with their numbers
abbrev pub Numbers : Type 0
Numbers = List (TxnId × ℕ)

abbrev pub number_at : Numbers → TxnId → Option ℕ
number_at numbers x = lookup (is_at (id_cmp x)) numbers

-- these entries, where there are any, are among the numbers
abbrev pub AreKnown : Numbers → List (Option (TxnId × ℕ)) → Type 0
AreKnown numbers entries = All (λ entry. IfSome entry (λ e. number_at numbers e.0 ≡ Some e.1)) entries
