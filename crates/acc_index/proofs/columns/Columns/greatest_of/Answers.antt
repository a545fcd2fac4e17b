use Rattle.std.proofs.Common.{◌≡◌, ◌++◌, [], take, refl, sym, ap, subst, ◌∙◌, append-nil}
use Rattle.acc_index.specs.Noted.{IsGreatestStamp}
use Rattle.acc_index.specs.Places.{InRange, others, stamps_of}
use Rattle.acc_index.proofs.Steps.{rest_is, InRange-drop, done_more, greatest_more, nothing_left}
use Rattle.acc_index.proofs.columns.Columns.greatest_of.Goals as goal

pub loop-rest-init : goal.loop-rest-init
loop-rest-init c = record {
  in_range = c.requires.in_range;
  met = ([], refl, λ earlier g. subst (λ zs. IsGreatestStamp zs c.args.so_far) (sym (append-nil earlier)) g);
}

pub loop-rest-preserved : goal.loop-rest-preserved
loop-rest-preserved c =
    let rest = c.loop-rest.rest.now in
    let n = c.greatest_next-taken.result.0 in
    let met = c.loop-rest.invariant.met in
    let is = rest_is rest n in
    record {
      in_range = subst (InRange c.args.self.now) (sym is) (InRange-drop c.args.self.now rest n c.loop-rest.invariant.in_range);
      met = (
        met.0 ++ take n rest,
        ap (λ zs. (met.0 ++ take n rest) ++ zs) is ∙ done_more met.0 rest c.args.places.now n met.1,
        λ earlier g.
            subst (IsGreatestStamp (earlier ++ stamps_of c.args.self.now (others c.args.self.now c.args.id (met.0 ++ take n rest)))) (sym c.later-greatest.ensures)
            (greatest_more c.args.self.now c.args.id earlier met.0 (take n rest) c.loop-rest.greatest c.greatest_next-taken.result.1 (met.2 earlier g) c.greatest_next-taken.ensures.greatest),
      );
    }

pub returns : goal.returns
returns c earlier g =
    let met = c.loop-rest.invariant.met in
    let none : c.loop-rest.rest.now ≡ [] = nothing_left c.loop-rest.rest.now (sym (c.is_empty.ensures) ∙ c.loop-rest-test.false) in
    let all : met.0 ≡ c.args.places.now = sym (append-nil met.0) ∙ ap (λ zs. met.0 ++ zs) (sym none) ∙ met.1 in
    subst (λ places. IsGreatestStamp (earlier ++ stamps_of c.args.self.now (others c.args.self.now c.args.id places)) c.loop-rest.greatest) all (met.2 earlier g)
