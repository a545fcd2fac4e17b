use Rattle.acc_txn.proofs.BodyShortness.{short_body}
use Rattle.acc_txn.proofs.writing.code_of.Goals as goal

pub parts_length-room-requires : goal.parts_length-room-requires
parts_length-room-requires c = short_body c.args.parts.now c.requires

pub put_parts-requires : goal.put_parts-requires
put_parts-requires c = short_body c.args.parts.now c.requires
