use Rattle.std.proofs.Common.{map, sym, ap}
use Rattle.std.specs.Result.{result_unwrap_or}
use Rattle.acc_lang.specs.Reading.{placed, reading_fault}
use Rattle.acc_document_fields.specs.Parts.{part_text}
use Rattle.acc_schedule.specs.Texts.{at_path, no_parts}
use Rattle.acc_document_fields.proofs.texts.body_in.Goals as goal

pub returns-in-Ok : goal.returns-in-Ok
unfolding reading_fault
returns-in-Ok c = (
  ap (λ read. at_path (map part_text c.args.path.now) (placed c.args.text.now read)) c.in-Ok.ensures.read,
  (sym (ap (λ read. result_unwrap_or read no_parts) c.in-Ok.ensures.read), c.in-Ok.ensures.sound),
)
