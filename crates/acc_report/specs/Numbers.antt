-- The numbers of a directory, and the names that follow from them.
use Rattle.std.specs.Prelude.{◌≡◌, ℕ, List}
use Rattle.acc_stamp.specs.declared.stamps.TxnId.{TxnId}
use Rattle.acc_message.specs.declared.item.Item.{Item}
use Rattle.acc_report.specs.declared.names.Directory.{Directory}
use Rattle.acc_report.specs.Known.{number_at}
use Rattle.acc_report.specs.Report.{number_of, name_numbered}

-- the name of an id
unfoldable pub name_in : Directory → TxnId → List ℕ
name_in directory x = name_numbered directory.names.now (number_at directory.numbers x)

-- the directory has the names and what the roll and the items give, which stand with the newest first
abbrev pub IsOf : Directory → List (List ℕ) → List (TxnId × ℕ) → List Item → Type 0
IsOf directory names roll items = (directory.names.now ≡ names) × ((x : TxnId) → number_at directory.numbers x ≡ number_of roll items x)
