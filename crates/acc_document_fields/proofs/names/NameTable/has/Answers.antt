use Rattle.std.proofs.Common.{is_some, sym, ap, ◌∙◌}
use Rattle.acc_document_fields.proofs.PlaceFacts.{known_is}
use Rattle.acc_document_fields.proofs.names.NameTable.has.Goals as goal

pub returns : goal.returns
returns c = c.is_some.ensures ∙ ap is_some c.place.ensures ∙ sym (known_is c.args.self.now c.args.name.now)
