use Rattle.acc_safety_laws.proofs.Shown.{accepted_is_seen, committed_is_seen}
use Rattle.acc_safety_laws.proofs.store_facts.records_are_seen.Goals as goal

pub returns : goal.returns
returns c =
    record {
      accepted = λ layout own history each step late past before f g h k x b above deps view.
          accepted_is_seen layout own step late past before history f g h k x b above deps view each;
      committed = λ layout own history each step late past before f g h k x b above view.
          committed_is_seen layout own step late past before history f g h k x b above view each;
    }
