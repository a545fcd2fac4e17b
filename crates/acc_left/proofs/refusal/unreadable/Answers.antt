use Rattle.std.proofs.Common.{refl, subst, inr}
use Rattle.acc_journal.specs.Journal.{IsRefused}
use Rattle.acc_left.specs.declared.refusal.JournalFault.TheVariants.{Cut}
use Rattle.acc_left.specs.Rules.{IsUnreadable}
use Rattle.acc_left.proofs.RuleFacts.{refuses_for}
use Rattle.acc_left.proofs.refusal.unreadable.Goals as goal

pub returns-in-BadRecord : goal.returns-in-BadRecord
returns-in-BadRecord c = λ bytes refused.
    refuses_for (IsUnreadable bytes) (record { actor = c.args.actor; bytes = bytes }) (Cut c.in-BadRecord.place) c.refusal-in-BadRecord.result
    (inr (refl, subst (IsRefused bytes) c.in-BadRecord.is refused)) c.refusal-in-BadRecord.ensures
