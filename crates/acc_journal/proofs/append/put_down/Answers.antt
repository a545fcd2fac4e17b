-- The bytes have the old payloads and the group, and their gate is known.
use Rattle.std.proofs.Common.{sym, subst, List, ℕ}
use Rattle.acc_journal.specs.Journal.{HasGateAt}
use Rattle.acc_journal.proofs.Layouts.{payloads_are}
use Rattle.acc_journal.proofs.Appends.{appends_told}
use Rattle.acc_journal.proofs.append.put_down.Goals as goal

pub returns-in-Ok-clause-settled : goal.returns-in-Ok-clause-settled
returns-in-Ok-clause-settled g c = λ group is sound.
    let has = c.in-Ok.ensures.gate group is in
    record {
      fits = c.append_records.ensures.fits;
      has_gate = subst (λ (ps : List (List ℕ)). HasGateAt (g.D.Disk.state c.append_records.new.disk).content ps c.in-Ok.place) (sym (payloads_are _ _ has.reads)) has;
      rest = c.in-Ok.ensures.rest;
    }

pub returns-in-Ok-clause-ok : goal.returns-in-Ok-clause-ok
returns-in-Ok-clause-ok g c = λ group is. (c.requires.sound, payloads_are _ _ (c.in-Ok.ensures.gate group is).reads)

pub returns-in-Err-clause-appends : goal.returns-in-Err-clause-appends
returns-in-Err-clause-appends g c = λ group is. appends_told g.D.Disk (Unit {0}) _ _ _ group c.in-Err.error _ c.from.ensures (c.in-Err.ensures.appends group is)
