-- How many transactions a schedule begins, and how many have their reply.
use Rattle.std.specs.Prelude.{◌≡◌, ℕ, false, List, [], ◌∷◌, ◌++◌, flat_map, count_by, codes, decimal}
use Rattle.acc_topology.specs.Sets.{is_among}
use Rattle.acc_message.specs.declared.item.Item.{Item}
use Rattle.acc_message.specs.Items.{notes_of}
use Rattle.acc_schedule.specs.declared.plan.Step.{Step}
use Rattle.acc_schedule.specs.declared.plan.Step.TheVariants.{Begin, Deliver, Drop, Recover, Slow, Restart, Fail, Drain}
use Rattle.acc_report_line.specs.declared.line.Line.TheVariants.{End}
use Rattle.acc_report.specs.Report.{is_begin, is_reply, last_line}

-- ---- a schedule

abbrev pub begun_in : Step → List ℕ
begun_in (Begin txn) = txn ∷ []
begun_in (Deliver message) = []
begun_in (Drop message) = []
begun_in (Recover txn node) = []
begun_in (Slow txn) = []
begun_in (Restart actor choice) = []
begun_in (Fail actor calls) = []
begun_in Drain = []

-- the transactions that the steps begin
abbrev pub begun_by : List Step → List ℕ
begun_by steps = flat_map begun_in steps

-- no number stands twice
abbrev pub AreApart : List ℕ → Type 0
AreApart [] = Unit {0}
AreApart (n ∷ ns) = (is_among ns n ≡ false) × AreApart ns

-- ---- items

abbrev pub begins_in : List Item → ℕ
begins_in items = count_by is_begin (notes_of items)

abbrev pub replies_in : List Item → ℕ
replies_in items = count_by is_reply (notes_of items)

-- so many transactions are begun, as many replies are given, and the last line of the report says so
pub record AreAnswered (count : ℕ) (items : List Item) : Type 0 where
  pub begun : begins_in items ≡ count
  pub replied : replies_in items ≡ count
  pub last : last_line (notes_of items) ≡ End count count 0

-- the last line of a report of so many transactions, of which none is open, with its line feed
abbrev pub answered_text : ℕ → List ℕ
answered_text count = codes "end txns=" ++ decimal count ++ codes " replied=" ++ decimal count ++ codes " open=0\n"
