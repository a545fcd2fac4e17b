use Rattle.std.proofs.Common.{Some}
use Rattle.acc_document_fields.proofs.PlaceFacts.{place_after}
use Rattle.acc_document_fields.proofs.names.put_back.Goals as goal

pub returns-in-Some : goal.returns-in-Some
returns-in-Some c =
    let w = c.args.place in
    place_after c.args.name.now c.args.places.now (c.get_mut.follows.lender w) (Some w) ((c.get_mut.follows.holds w).3 c.requires)
