use Rattle.std.proofs.Common.{ap, map, ◌∙◌}
use Rattle.acc_index.specs.Noted.{Noted}
use Rattle.acc_index.proofs.KeptFacts.{heights_noted}
use Rattle.acc_index.proofs.index.Index.heights.Goals as goal

pub returns : goal.returns
returns c =
    c.deref.ensures.value ∙ heights_noted c.self.inside.columns c.self.inside.shares.items c.self.invariant.shares
    ∙ ap (map (λ (t : Noted). t.stamp.h)) c.self.view_is
