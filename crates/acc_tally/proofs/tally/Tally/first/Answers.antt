use Rattle.std.proofs.Common.{◌≡◌, true, false, refl, ap, ◌∙◌, arith}
use Rattle.acc_stamp.specs.Actor.{node_of, shard_of}
use Rattle.acc_deps.specs.Deps.{deps_union}
use Rattle.acc_tally.specs.Stands.{answer_of}
use Rattle.acc_tally.proofs.Counted.{one_answered, one_kept, none_kept, one_changed, none_changed}
use Rattle.acc_tally.proofs.tally.Tally.first.Goals as goal

pub returns-then-unchanged-clause-ok : goal.returns-then-unchanged-clause-ok
returns-then-unchanged-clause-ok c = λ shards answers stands.
    let old = c.args.self.now in
    let store = c.args.store in
    let deps = c.args.deps.now in
    let u : true ≡ c.args.unchanged = cc in
    let before = stands.answered (shard_of store) (node_of store) (omega arith) in (
      cc,
      record {
        shards_are = stands.shards_are;
        answered = one_answered old.answered c.mark.new.marks answers store c.args.t deps c.args.unchanged stands.answered c.mark.ensures;
        kept = one_kept old.kept c.mark-then-unchanged.new.marks answers store c.args.t deps c.args.unchanged u stands.kept c.mark-then-unchanged.ensures;
        changed = none_changed old.changed old.changed answers store c.args.t deps c.args.unchanged u stands.changed;
        greatest_is = c.later-self.ensures answers (answer_of store c.args.unchanged c.args.t deps) stands.greatest_is refl;
        deps_are = c.in_ok-union.ensures.ok ∙ ap (λ d. deps_union d deps) stands.deps_are;
      },
    )

pub returns-else-unchanged-clause-ok : goal.returns-else-unchanged-clause-ok
returns-else-unchanged-clause-ok c = λ shards answers stands.
    let old = c.args.self.now in
    let store = c.args.store in
    let deps = c.args.deps.now in
    let u : false ≡ c.args.unchanged = cc in
    let before = stands.answered (shard_of store) (node_of store) (omega arith) in (
      cc,
      record {
        shards_are = stands.shards_are;
        answered = one_answered old.answered c.mark.new.marks answers store c.args.t deps c.args.unchanged stands.answered c.mark.ensures;
        kept = none_kept old.kept old.kept answers store c.args.t deps c.args.unchanged u stands.kept;
        changed = one_changed old.changed c.mark-else-unchanged.new.marks answers store c.args.t deps c.args.unchanged u stands.changed c.mark-else-unchanged.ensures;
        greatest_is = c.later-self.ensures answers (answer_of store c.args.unchanged c.args.t deps) stands.greatest_is refl;
        deps_are = c.in_ok-union.ensures.ok ∙ ap (λ d. deps_union d deps) stands.deps_are;
      },
    )
