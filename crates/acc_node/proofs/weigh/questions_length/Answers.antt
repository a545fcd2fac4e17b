use Rattle.std.proofs.Common.{arith}
use Rattle.acc_node.proofs.Weighing.{questions_short, questions_fit}
use Rattle.acc_node.proofs.weigh.questions_length.Goals as goal

pub messages_length-requires-clause-short : goal.messages_length-requires-clause-short
messages_length-requires-clause-short c =
    questions_short c.args.topology.now c.shards.ensures.valid c.args.body.now c.args.questions.now c.requires

pub messages_length-requires-clause-fits : goal.messages_length-requires-clause-fits
messages_length-requires-clause-fits c =
    questions_fit c.args.topology.now c.shards.ensures.valid c.args.body.now (omega (arith, c.body_length.ensures.exact, c.body_length.ensures.most)) c.args.questions.now c.requires
