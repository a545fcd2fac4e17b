use Rattle.std.proofs.Common.{arith, map}
use Rattle.std.proofs.lemmas.Grind.{common_steps}
use Rattle.acc_document_fields.specs.Parts.{part_text}
use Rattle.acc_schedule.specs.Paths.{escaped}
use Rattle.acc_document_fields.proofs.PathFacts.{path_text-inside}
use Rattle.acc_document_fields.proofs.path.unknown_text.Goals as goal

pub returns : goal.returns
returns c = rw (path_text-inside (map part_text c.args.path.now) (escaped c.args.name.now)) (grind (arith, common_steps))
