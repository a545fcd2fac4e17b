use Rattle.std.proofs.Common.{◌∙◌, sym}
use Rattle.acc_message_code.proofs.Rising.{shards_below}
use Rattle.acc_message_code.proofs.deps.take_next_shard.Goals as goal

pub returns-clause-below : goal.returns-clause-below
returns-clause-below c = shards_below _ _ (sym c.is_behind.ensures ∙ c.if-not-is_behind.false)
