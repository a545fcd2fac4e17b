use Rattle.std.proofs.Common.{◌≡◌, false, is_some}
use Rattle.acc_report.specs.Known.{number_at}
use Rattle.acc_report.proofs.KnownFacts.{number_stays}
use Rattle.acc_report.proofs.numbers.enter_id.Goals as goal

pub returns-in_ok-insert-clause-stays : goal.returns-in_ok-insert-clause-stays
returns-in_ok-insert-clause-stays c = λ x n is.
    let none : is_some (number_at c.args.known.now.entries c.args.id) ≡ false = cc in
    number_stays c.args.known.now.entries c.insert.new.self.entries c.args.id x c.args.txn n none c.in_ok-insert.ensures.updates.0 is
