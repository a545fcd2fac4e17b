use Rattle.std.proofs.Common.{ap}
use Rattle.acc_message_index.specs.declared.posting.Posting.{Posting}
use Rattle.acc_message_index.specs.Mail.{Mail}
use Rattle.acc_message_index.proofs.OpenOnes.{closed_kept}
use Rattle.acc_message_index.proofs.waiting.Waiting.close.Goals as goal

pub invariant_of-self : goal.invariant_of-self
invariant_of-self c =
    let n = c.note_closed.ensures in
    let mid = c.close.ensures in
    closed_kept c.self.invariant c.args.number c.posting-to.result.to c.close.new.self _ _ _ _ _ n.same (ap (λ (m : Mail). m.sent) mid, ap (λ (m : Mail). m.early) mid, ap (λ (m : Mail). m.takings) mid) c.as_slice.ensures.value c.as_slice-2.ensures.value (ap (λ (p : Posting). p.to) c.posting-to.ensures) n.tree n.head n.others c.next_waiting-self-inside.ensures.next
