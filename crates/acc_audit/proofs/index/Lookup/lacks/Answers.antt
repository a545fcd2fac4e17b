use Rattle.std.proofs.Common.{length, map, subst, sym, ap, ◌∙◌}
use Rattle.std.specs.List.{list_all}
use Rattle.std.proofs.lemmas.Bool.{ltb-true}
use Rattle.acc_audit.specs.Users.{rises_at, shown, shown_all, AllStoodRise}
use Rattle.acc_audit.proofs.LookupFacts.{Lists, rise_there}
use Rattle.acc_audit.proofs.index.Lookup.lacks.Goals as goal

pub lack_some-requires : goal.lack_some-requires
lack_some-requires c =
    let lists : Lists = c.deref.result.now in
    ap (λ xs. list_all rises_at (map shown xs)) c.as_slice.ensures.value
    ∙ rise_there lists c.args.number c.in-Some.stood.now (subst AllStoodRise (sym c.self.view_is ∙ ap shown_all (sym c.deref.ensures.value)) c.requires) (ltb-true c.args.number (length lists) (sym c.in-Some.ensures.lookup.0)) c.in-Some.ensures.lookup.1
