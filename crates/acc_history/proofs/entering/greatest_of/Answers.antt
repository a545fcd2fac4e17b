-- The greater of two numbers is one of them.
use Rattle.std.proofs.Common.{◌≡◌, ℕ, ◌+◌, ◌<◌, ◌≤◌, List, Some, inr, length, max, refl, sym, ap, ◌∙◌, subst, arith}
use Rattle.std.specs.List.{slice_get}
use Rattle.std.proofs.lemmas.Option.{slice_get_read}
use Rattle.std.proofs.Math.Nat.{max-eq_left, max-eq_right}
use mathlib.Core.Logic.{dite}
use native.Mathlib.Decide.{dec_lt}
use Rattle.acc_stamp.specs.declared.actors.Actor.{Actor}
use Rattle.acc_message.specs.declared.message.Message.{Message}
use Rattle.acc_message.specs.Fields.{to_of}
use Rattle.acc_history.specs.Entering.{IsNamed}
use Rattle.acc_history.proofs.entering.greatest_of.Goals as goal

module _ (actor : ℕ) (messages : List Message) (index : ℕ) (m : Message) (old to new : ℕ) (is : new ≡ max old to) (there : slice_get messages index ≡ Some m) (goes : to ≡ (to_of m).0) where
  named_more : IsNamed actor messages old → IsNamed actor messages new
  named_more named = dite (dec_lt old to)
      (λ low. inr (index, m, there, is ∙ max-eq_right (omega (arith, low)) ∙ goes))
      (λ high. let same : old ≡ new = sym (is ∙ max-eq_left (omega (arith, high))) in subst (IsNamed actor messages) same named)

  same : (other : Message) → Some m ≡ Some other → m ≡ other
  same other e = cc

  below : ((k : ℕ) (other : Message) → k < index → slice_get messages k ≡ Some other → (to_of other).0 ≤ old)
      → (k : ℕ) (other : Message) → k < index + 1 → slice_get messages k ≡ Some other → (to_of other).0 ≤ new
  below each k other low at = dite (dec_lt k index)
      (λ before. omega (arith, each k other before at, is))
      (λ here.
      let k_is : k ≡ index = omega (arith, low, here) in
      let it = same other (sym there ∙ ap (slice_get messages) (sym k_is) ∙ at) in
      subst (λ (x : Message). (to_of x).0 ≤ new) it (omega (arith, goes, is)))

pub loop-index-preserved : goal.loop-index-preserved
loop-index-preserved c =
    let i = c.loop-index.invariant in
    let messages = c.args.messages.now in
    let m = c.index-messages-index.result in
    let there = slice_get_read messages (length messages) c.loop-index.index m refl c.loop-index-test.true c.index-messages-index.is in
    let goes = ap (λ (a : Actor). a.0) c.to.ensures in record {
      actor = omega (arith, i.actor, c.max-greatest.ensures);
      named = named_more c.args.actor messages c.loop-index.index m c.loop-index.greatest c.to.result.0 c.max-greatest.result c.max-greatest.ensures there goes i.named;
      receivers = below c.args.actor messages c.loop-index.index m c.loop-index.greatest c.to.result.0 c.max-greatest.result c.max-greatest.ensures there goes i.receivers;
    }
