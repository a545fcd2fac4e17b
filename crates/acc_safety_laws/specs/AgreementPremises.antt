-- The statements on which agreement stands, about one list of items.
use Rattle.std.specs.Prelude.{List}
use Rattle.acc_message.specs.declared.item.Item.{Item}
use Rattle.acc_message.specs.Run.{Cluster}
use Rattle.acc_safety.specs.Statements.{OneProposal, OneCommit, NeverBoth, ProposalsHaveRoots, CommitsHaveRoots, DecisionsHaveRoots, RecordsHaveRoots, CommittedLast}

pub record Premises (cluster : Cluster) (items : List Item) : Type 0 where
  pub one_proposal : OneProposal items
  pub one_commit : OneCommit items
  pub never_both : NeverBoth items
  pub proposals : ProposalsHaveRoots cluster items
  pub commits : CommitsHaveRoots cluster items
  pub decisions : DecisionsHaveRoots cluster items
  pub records : RecordsHaveRoots cluster items
  pub committed_last : CommittedLast cluster items
