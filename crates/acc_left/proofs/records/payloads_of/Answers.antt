-- One record more was read.
use Rattle.std.proofs.Common.{arith, ◌≡◌, List, ℕ, sym, ap, subst, ◌∙◌, [], ◌∷◌, ◌++◌, drop, get_or}
use Rattle.std.specs.Borrow.{Bor}
use Rattle.std.proofs.lemmas.Grind.{common_steps}
use Rattle.std.proofs.lemmas.List.{map-append}
use Rattle.acc_journal.specs.Layout.{sized, AreShort}
use Rattle.acc_journal.proofs.Layouts.{AreShort-append}
use Rattle.acc_journal.proofs.Readings.{one_more_read, one_more_long}
use Rattle.acc_left.specs.Told.{bytes_in}
use Rattle.acc_left.proofs.records.payloads_of.Goals as goal

pub loop-rest-preserved : goal.loop-rest-preserved
loop-rest-preserved c =
    let payload = c.in-Some.payload.now in
    let rest = c.loop-rest.rest.now in
    let so_far : List (List ℕ) = bytes_in c.loop-rest.payloads.items in
    let later : bytes_in c.push.new.self.items ≡ so_far ++ payload ∷ [] = ap bytes_in c.in-Ok.ensures.items ∙ map-append (λ (p : Bor (List ℕ)). p.now) c.loop-rest.payloads.items (c.in-Some.payload ∷ []) in
    let behind : drop 1 rest ≡ sized payload ++ c.in-Some.next.now = grind (arith, common_steps) in
    let gate : get_or rest 0 0 ≡ 1 = grind (arith, common_steps) in
    record {
      some = c.in-Some.ensures.gate;
      short = subst AreShort (sym later) (AreShort-append so_far (payload ∷ []) c.loop-rest.invariant.short (c.in-Some.ensures.short, tt));
      spelled = one_more_read so_far (bytes_in c.push.new.self.items) c.args.bytes.now rest payload c.in-Some.next.now c.loop-rest.invariant.spelled c.loop-rest.invariant.some gate behind later;
      gate = omega (arith, one_more_long so_far (bytes_in c.push.new.self.items) payload later, c.loop-rest.invariant.gate);
    }
