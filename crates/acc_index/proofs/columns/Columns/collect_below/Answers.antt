use Rattle.std.proofs.Common.{◌++◌, take, sym, ap, subst, ◌∙◌}
use Rattle.acc_index.specs.Places.{InRange}
use Rattle.acc_index.proofs.Steps.{rest_is, InRange-drop, done_more, below_more}
use Rattle.acc_index.proofs.columns.Columns.collect_below.Goals as goal

pub loop-rest-preserved : goal.loop-rest-preserved
loop-rest-preserved c =
    let rest = c.loop-rest.rest.now in
    let n = c.in_ok-taken.taken in
    let met = c.loop-rest.invariant.so_far in
    let is = rest_is rest n in
    let own = c.args.self.now in
    record {
      in_range = subst (InRange own) (sym is) (InRange-drop own rest n c.loop-rest.invariant.in_range);
      so_far = (
        met.0 ++ take n rest,
        ap (λ zs. (met.0 ++ take n rest) ++ zs) is ∙ done_more met.0 rest c.args.places.now n met.1,
        below_more own c.args.id c.args.bound c.args.found.now.items c.loop-rest.found.items c.collect_next.new.found.items met.0 (take n rest) met.2 c.in_ok-taken.ensures.found,
      );
    }
