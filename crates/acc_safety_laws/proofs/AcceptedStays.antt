-- What a majority accepted stays: each commit of the transaction has its timestamp.
use Rattle.std.proofs.Common.{List, sym, subst, ⊎_elim}
use Rattle.acc_stamp.proofs.Order.{ballot_order, trichotomy}
use Rattle.acc_message.specs.declared.item.Item.{Item}
use Rattle.acc_message.specs.Run.{Cluster}
use Rattle.acc_safety.specs.Roots.{Proposed, CommitRoot}
use Rattle.acc_safety.specs.Statements.{OneProposal, CommitsHaveRoots, AcceptedLast, AcceptedStays}

pub accepted_stays : (cluster : Cluster) (items : List Item) → OneProposal items → CommitsHaveRoots cluster items → AcceptedLast cluster items → AcceptedStays cluster items
accepted_stays cluster items one commits last x body b from_b t s deps more answers accepted committed from_there =
    let root : CommitRoot cluster items x body s more = commits x body from_b s more committed in
    ⊎_elim (λ above. (last x body b root.ballot t s deps root.proposed answers accepted root.accepted.proposal above).0)
    (⊎_elim
    (λ same.
    sym (one x b body body t s deps root.proposed accepted.proposal (subst (λ z. Proposed items x body z s root.proposed) (sym same) root.accepted.proposal)).0)
    (λ below. sym (last x body root.ballot b s t root.proposed deps root.answers root.accepted accepted.proposal below).0))
    (trichotomy ballot_order b root.ballot)
