-- Safety of every run: what the crates below prove, joined. The premises of agreement and of coverage are laws of every run.
use Rattle.std.specs.Prelude.{List}
use Rattle.acc_message.specs.declared.item.Item.{Item}
use Rattle.acc_message.specs.Run.{Cluster, IsRun}
use Rattle.acc_safety.specs.Agreement.{Agreement}
use Rattle.acc_safety.specs.Coverage.{Coverage}
use Rattle.acc_safety.specs.SerialOutcomes.{SerialOutcomes}
use Rattle.acc_safety.specs.Valid.{IsValidCluster, IsStanding}
use Rattle.acc_safety.specs.StoreFactStatements.{OfEachStore, AcceptedIsSeen, CommittedIsSeen}
use Rattle.acc_safety_laws.proofs.Shown.{accepted_is_seen, committed_is_seen}
use Rattle.acc_safety_laws.proofs.Stages.{one_proposal, one_commit, never_both}
use Rattle.acc_safety_laws.proofs.Last.{accepted_last, committed_last}
use Rattle.acc_safety_laws.proofs.Proposals.{proposals_have_roots}
use Rattle.acc_safety_laws.proofs.Commits.{commits_have_roots}
use Rattle.acc_safety_laws.proofs.Decisions.{decisions_have_roots, records_have_roots}
use Rattle.acc_safety_laws.specs.AgreementPremises.{Premises as AgreementPremises}
use Rattle.acc_safety_laws.proofs.Agreed.{one_timestamp, one_set_of_deps}
use Rattle.acc_safety_laws.proofs.Agreements.{agreement}
use Rattle.acc_safety_laws.specs.CoveragePremises.{Premises as CoveragePremises}
use Rattle.acc_safety_laws.proofs.Covers.{coverage}
use Rattle.acc_safety_laws.proofs.Whole.{serial_outcomes}

accepted_seen : OfEachStore AcceptedIsSeen
accepted_seen layout own history each step late past before f g h k x b above deps view =
    accepted_is_seen layout own step late past before history f g h k x b above deps view each

committed_seen : OfEachStore CommittedIsSeen
committed_seen layout own history each step late past before f g h k x b above view =
    committed_is_seen layout own step late past before history f g h k x b above view each

module _ (cluster : Cluster) (items : List Item) (standing : IsStanding cluster items) where
  for_agreement : AgreementPremises cluster items
  for_agreement = record {
    one_proposal = one_proposal cluster items standing.stands;
    one_commit = one_commit cluster items standing.stands;
    never_both = never_both cluster items standing.stands;
    proposals = proposals_have_roots cluster items standing;
    commits = commits_have_roots cluster items standing;
    decisions = decisions_have_roots cluster items standing;
    records = records_have_roots cluster items standing;
    committed_last = committed_last committed_seen cluster items standing;
  }

  for_coverage : CoveragePremises cluster items
  for_coverage = record {
    one_proposal = one_proposal cluster items standing.stands;
    proposals = proposals_have_roots cluster items standing;
    commits = commits_have_roots cluster items standing;
    decisions = decisions_have_roots cluster items standing;
    records = records_have_roots cluster items standing;
    accepted_last = accepted_last accepted_seen cluster items standing;
    one_timestamp = one_timestamp cluster items standing for_agreement;
    one_set = one_set_of_deps cluster items standing for_agreement;
  }

  agreed : Agreement items
  agreed = agreement cluster items standing for_agreement

  covered : Coverage cluster items
  covered = coverage cluster items standing for_coverage

module _ (cluster : Cluster) (items : List Item) (valid : IsValidCluster cluster) (run : IsRun cluster items) where
  standing_of : IsStanding cluster items
  standing_of = record { valid = valid; stands = run.stands }

  pub agreement_holds : Agreement items
  agreement_holds = agreed cluster items standing_of

  pub coverage_holds : Coverage cluster items
  coverage_holds = covered cluster items standing_of

  pub serial_holds : SerialOutcomes cluster items
  serial_holds = serial_outcomes cluster items valid.layout run.stands agreement_holds coverage_holds
