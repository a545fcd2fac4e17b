-- One more place, with its share behind the others, and in the map at the keys that it uses.
use Rattle.std.proofs.Common.{◌≡◌, arith, ap, ◌∙◌, ◌++◌, ◌∷◌, [], length}
use Rattle.acc_index.specs.Kept.{noted_of}
use Rattle.acc_index.specs.Users.{places_at, placed}
use Rattle.acc_index.proofs.KeptFacts.{kept_more, noted_more}
use Rattle.acc_index.proofs.index.Index.note.Goals as goal

pub invariant_of-self-2 : goal.invariant_of-self-2
invariant_of-self-2 c =
    let x = c.self.inside in
    kept_more x.columns c.push.new.self c.args.id c.args.stamp c.self.invariant.even c.in_ok-push.ensures.ok x.shares.items c.and-self-inside.result.items c.args.share.now x.users c.reserve_all.new.users c.add_all.new.users
    c.self.invariant c.and-self-inside.ensures c.pairs.ensures.rising c.reserve_all.ensures.same
    (λ k w.
    c.add_all.ensures k w
    ∙ ap (λ uses. placed (places_at c.reserve_all.new.users k w) uses k w c.len-place.result) c.pairs-2.ensures.pairs
    ∙ ap (placed (places_at c.reserve_all.new.users k w) c.args.share.now k w) (let e : c.len-place.result ≡ length x.shares.items = omega (arith, c.self.invariant.shares) in e))

pub returns-clause-ok : goal.returns-clause-ok
returns-clause-ok c =
    let x = c.self.inside in
    ap (noted_of c.push.new.self) c.and-self-inside.ensures
    ∙ noted_more x.columns c.push.new.self c.args.id c.args.stamp c.self.invariant.even c.in_ok-push.ensures.ok x.shares.items c.args.share.now c.self.invariant.shares
    ∙ ap (λ xs. xs ++ record { id = c.args.id; share = c.args.share.now; stamp = c.args.stamp } ∷ []) c.self.view_is
