use Rattle.std.proofs.Common.{length, ap, arith}
use Rattle.acc_message_index.specs.Mail.{Mail}
use Rattle.acc_message_index.specs.Standing.{Standing}
use Rattle.acc_message_index.proofs.OpenOnes.{added_kept, waits_added}
use Rattle.acc_message_index.proofs.waiting.Waiting.add.Goals as goal

pub invariant_of-self : goal.invariant_of-self
invariant_of-self c =
    let after = c.add.ensures in
    let count = ap (λ (s : Standing). length s.downs) c.self.view_is in
    added_kept c.self.invariant _ _ _ _ (ap (λ (m : Mail). m.sent) after, ap (λ (m : Mail). m.early) after, ap (λ (m : Mail). m.takings) after) (omega (arith, count)) c.as_slice.ensures.value c.first_behind-self-inside.ensures.next

pub first_behind-self-inside-requires-clause-waits : goal.first_behind-self-inside-requires-clause-waits
first_behind-self-inside-requires-clause-waits c = waits_added c.self.invariant _ _ _ (ap (λ (m : Mail). m.sent) c.add.ensures) c.as_slice.ensures.value
