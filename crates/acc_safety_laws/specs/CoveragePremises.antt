-- The statements on which coverage stands, about one list of items.
use Rattle.std.specs.Prelude.{List}
use Rattle.acc_message.specs.declared.item.Item.{Item}
use Rattle.acc_message.specs.Run.{Cluster}
use Rattle.acc_safety.specs.Statements.{OneProposal, ProposalsHaveRoots, CommitsHaveRoots, DecisionsHaveRoots, RecordsHaveRoots, AcceptedLast, OneTimestamp, OneSetOfDeps}

pub record Premises (cluster : Cluster) (items : List Item) : Type 0 where
  pub one_proposal : OneProposal items
  pub proposals : ProposalsHaveRoots cluster items
  pub commits : CommitsHaveRoots cluster items
  pub decisions : DecisionsHaveRoots cluster items
  pub records : RecordsHaveRoots cluster items
  pub accepted_last : AcceptedLast cluster items
  pub one_timestamp : OneTimestamp cluster items
  pub one_set : OneSetOfDeps cluster items
