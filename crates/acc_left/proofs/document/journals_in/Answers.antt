use Rattle.std.proofs.Common.{ap, ◌∙◌}
use Rattle.hex.specs.Hex.{encode_lower}
use Rattle.acc_left.proofs.DocumentFacts.{insert_image}
use Rattle.acc_left.proofs.document.journals_in.Goals as goal

pub loop-after-preserved : goal.loop-after-preserved
loop-after-preserved c =
    insert_image c.args.images.now c.loop-after.after c.index-images-images.result c.loop-after.members.entries c.insert.new.self.entries c.in_ok-name.name c.in_ok-digits.digits c.loop-after-test.true c.index-images-images.is
    c.loop-after.invariant c.in_ok-name.ensures (c.in_ok-digits.ensures ∙ ap encode_lower c.as_slice.ensures) c.in_ok-insert.ensures.entries
