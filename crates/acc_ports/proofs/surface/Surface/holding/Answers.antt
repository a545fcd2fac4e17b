-- Nothing was written, so nothing but the content is left.
use Rattle.std.proofs.Common.{List, ℕ, [], subst}
use Rattle.acc_ports.specs.declared.surface.Write.{Write}
use Rattle.acc_ports.specs.Strict.{IsImage}
use Rattle.acc_ports.specs.Undo.{synced_of, ranges_of}
use Rattle.acc_ports.proofs.Images.{only_synced}
use Rattle.acc_ports.proofs.surface.Surface.holding.Goals as goal

pub returns-clause-only : goal.returns-clause-only
returns-clause-only c = λ image is.
    only_synced c.args.content image
    (subst (λ (l : List ℕ). IsImage l [] image) c.into_vec.ensures (subst (λ (w : List Write). IsImage (synced_of w c.into_vec.result.items) (ranges_of w) image) c.new.ensures.items is))
