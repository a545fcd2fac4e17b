-- One thing more is dealt.
use Rattle.std.proofs.Common.{◌++◌, ◌∙◌, subst}
use Rattle.std.specs.List.Sorted.{IsPermutation}
use Rattle.acc_free.specs.Dealing.{all_in}
use Rattle.acc_free.proofs.Hands.{one_dealt}
use Rattle.acc_free.proofs.dealing.deal.Goals as goal

pub loop-thing-preserved : goal.loop-thing-preserved
loop-thing-preserved g c =
    let before = c.loop-thing.invariant in record {
      all = one_dealt c.args.things.items c.pop.new.self.items (all_in c.loop-thing.hands.items) (all_in c.put.new.hands.items) c.in-Some.thing
          (subst (λ rest. IsPermutation c.args.things.items (rest ++ all_in c.loop-thing.hands.items)) (c.in-Some.ensures.items) before.all) c.in_ok-put.ensures.all;
      count = c.in_ok-put.ensures.count ∙ before.count;
    }
