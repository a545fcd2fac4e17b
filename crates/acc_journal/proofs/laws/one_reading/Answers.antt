-- Readings are unique.
use Rattle.acc_journal.proofs.Layouts.{payloads_are}
use Rattle.acc_journal.proofs.Unique.{one_list, one_place, not_foreign, not_cut, foreign_or_cut, one_version}
use Rattle.acc_journal.proofs.laws.one_reading.Goals as goal

pub returns : goal.returns
returns c = record {
  payloads = one_list;
  list = payloads_are;
  place = one_place;
  version = one_version;
  not_foreign = not_foreign;
  not_cut = not_cut;
  foreign_or_cut = foreign_or_cut;
}
