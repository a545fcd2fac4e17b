use Rattle.std.proofs.Common.{ap, map, ◌∙◌}
use Rattle.acc_index.specs.Noted.{Noted}
use Rattle.acc_index.proofs.KeptFacts.{origins_noted}
use Rattle.acc_index.proofs.index.Index.origins.Goals as goal

pub returns : goal.returns
returns c =
    c.deref.ensures.value ∙ origins_noted c.self.inside.columns c.self.inside.shares.items c.self.invariant.even c.self.invariant.shares
    ∙ ap (map (λ (t : Noted). t.stamp.origin)) c.self.view_is
