use Rattle.std.proofs.Common.{◌≡◌, ℕ, ◌<◌, ◌≤◌, Some}
use Rattle.std.specs.List.{slice_get}
use Rattle.acc_message.specs.declared.message.Message.{Message}
use Rattle.acc_message.specs.Fields.{to_of}
use Rattle.acc_history.specs.Entering.{IsNamed}
use Rattle.acc_history.proofs.entering.greatest_of.Given as goal

abbrev pub invariant-loop-index : goal.invariant-loop-index
invariant-loop-index l = record {
  actor : l.actor ≤ l.greatest;
  named : IsNamed l.actor l.messages l.greatest;
  receivers : (k : ℕ) (m : Message) → k < l.index → slice_get l.messages k ≡ Some m → (to_of m).0 ≤ l.greatest;
}
