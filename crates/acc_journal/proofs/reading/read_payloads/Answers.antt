-- One record more was read.
use Rattle.std.proofs.Common.{arith, ◌≡◌, sym, subst, [], ◌∷◌, ◌++◌, drop, get_or}
use Rattle.std.proofs.lemmas.Grind.{common_steps}
use Rattle.acc_journal.specs.Layout.{sized, AreShort}
use Rattle.acc_journal.proofs.Layouts.{AreShort-append}
use Rattle.acc_journal.proofs.Readings.{one_more_read, one_more_long}
use Rattle.acc_journal.proofs.reading.read_payloads.Goals as goal

pub loop-rest-preserved : goal.loop-rest-preserved
loop-rest-preserved c =
    let payload = c.in-Some.payload.now in
    let rest = c.loop-rest.rest.now in
    let later : c.push.new.self ≡ c.loop-rest.payloads ++ payload ∷ [] = grind (arith, common_steps) in
    let behind : drop 1 rest ≡ sized payload ++ c.in-Some.next.now = grind (arith, common_steps) in
    let gate : get_or rest 0 0 ≡ 1 = grind (arith, common_steps) in
    record {
      some = c.in-Some.ensures.gate;
      short = subst AreShort (sym later) (AreShort-append c.loop-rest.payloads (payload ∷ []) c.loop-rest.invariant.short (c.in-Some.ensures.short, tt));
      spelled = one_more_read c.loop-rest.payloads c.push.new.self c.args.bytes.now rest payload c.in-Some.next.now c.loop-rest.invariant.spelled c.loop-rest.invariant.some gate behind later;
      gate = omega (arith, one_more_long c.loop-rest.payloads c.push.new.self payload later, c.loop-rest.invariant.gate);
    }
