-- One more read makes the front longer.
use Rattle.std.proofs.Common.{arith, rules, ap, length, subst, sym, ◌∙◌}
use Rattle.std.specs.Prelude.{List, Option, ℕ}
use Rattle.std.proofs.lemmas.List.{length-take-le}
use Rattle.acc_ports.specs.Source.{without_first, ReadsToEnd}
use Rattle.acc_ports.proofs.SourceLemmas.{without_first-add, HoldsFront-more, ReadsOn-more, ReadsSoMany-more, ReadsSoMany-none, ReadsToEnd-last}
use Rattle.acc_ports.proofs.whole.read_all.Goals as goal

pub loop-filled-init : goal.loop-filled-init
loop-filled-init g c = record {
  inside = omega arith;
  within = search rules;
  left = search rules;
  read = search rules;
  reads = search rules;
  so_many = ReadsSoMany-none _;
  counted = omega arith;
  still = search rules;
}

pub loop-filled-preserved : goal.loop-filled-preserved
loop-filled-preserved g c = record {
  inside = omega (arith, c.in_ok-count.ensures.room);
  within = omega (arith, c.in_ok-count.ensures.same_room);
  left = c.in_ok-count.ensures.taken ∙ ap (λ (left : Option (List ℕ)). without_first c.in_ok-count.count left) c.loop-filled.invariant.left ∙ without_first-add c.in_ok-count.count c.loop-filled.filled _;
  read = HoldsFront-more _ _ _ _ _ _ _ c.loop-filled.invariant.left c.loop-filled.invariant.read c.in_ok-make_room.ensures.kept c.in_ok-count.ensures.given;
  reads = ReadsOn-more c.in_ok-count.count _ _ _ c.loop-filled.invariant.reads c.in_ok-count.ensures.told (omega arith);
  so_many = ReadsSoMany-more c.in_ok-count.count c.loop-filled.filled _ _ _ c.loop-filled.invariant.so_many c.in_ok-count.ensures.told (omega arith);
  counted = omega (arith, c.in_ok-count.ensures.counted);
  still = search rules;
}

pub returns-then-count-eq0-clause-stops : goal.returns-then-count-eq0-clause-stops
returns-then-count-eq0-clause-stops g c =
    subst (λ (n : ℕ). ReadsToEnd n (g.S.Source.reads c.args.source.now) (g.S.Source.reads c.read_behind.new.source))
    (sym (ap (λ (bytes : List ℕ). length bytes) (c.from_vec.ensures ∙ c.truncate.ensures.items)
    ∙ length-take-le c.loop-filled.filled c.read_behind.new.bytes.items (omega (arith, c.in_ok-count.ensures.room))))
    (ReadsToEnd-last c.in_ok-count.count c.loop-filled.filled _ _ _ c.loop-filled.invariant.so_many c.in_ok-count.ensures.told (omega arith))
