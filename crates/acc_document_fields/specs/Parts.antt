-- The parts of paths, as the readers have them.
use Rattle.std.specs.Prelude.{ℕ, List, decimal}
use Rattle.acc_document_fields.specs.declared.path.Part.{Part}
use Rattle.acc_document_fields.specs.declared.path.Part.TheVariants.{Field, Place}

abbrev pub part_text : Part → List ℕ
part_text (Field name) = name.now
part_text (Place place) = decimal place
