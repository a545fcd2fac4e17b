use Rattle.std.proofs.Common.{ℕ, ◌≢◌, List, Result, refl, subst}
use Rattle.std.specs.Prelude.{IfErr}
use Rattle.acc_message.specs.declared.entry.Emitted.{Emitted}
use Rattle.acc_message.specs.NodeRules.{Act}
use Rattle.acc_node.specs.declared.error.NodeError.{NodeError}
use Rattle.acc_node.specs.declared.error.NodeError.TheVariants.{Begun}
use Rattle.acc_node.specs.Stands.{StandsFor}
use Rattle.acc_durable_node.proofs.Keeping.{slow_ok}
use Rattle.acc_durable_node.proofs.node.DurableNode.slow.Goals as goal

pub returns-clause-ok : goal.returns-clause-ok
returns-clause-ok g c = slow_ok c.args.topology.now c.args.self.now c.slow.new.self c.args.txn c.slow.result c.slow.ensures.ok

pub returns-clause-refused : goal.returns-clause-refused
returns-clause-refused g c = λ acts stands. record {
  unknown = c.slow.ensures.unknown c.args.self.now.name.number c.args.self.now.name.start acts stands.stands;
  no_quorum = c.slow.ensures.no_quorum c.args.self.now.name.number c.args.self.now.name.start acts stands.stands;
  not_begun = λ is. subst (λ (r : Result Emitted NodeError). IfErr r (λ error. (number start : ℕ) (acts : List Act) → StandsFor c.args.topology.now number start c.args.self.now.node acts → error ≢ Begun))
      is c.slow.ensures.not_begun c.args.self.now.name.number c.args.self.now.name.start acts stands.stands refl;
}
