-- What was read is what the journal stands for.
use Rattle.std.proofs.Common.{rules, ◌≡◌, ◌∙◌, ap, sym, subst, List, ℕ, ◌-◌}
use Rattle.std.specs.Prelude.{vec_capacity, false}
use Rattle.acc_journal.specs.Layout.{payloads_of}
use Rattle.acc_journal.specs.Journal.{JournalState, HasGateAt}
use Rattle.acc_journal.proofs.Layouts.{payloads_are}
use Rattle.acc_journal.proofs.Unique.{never_refused}
use Rattle.acc_journal.proofs.journal.Journal.reopen.Goals as goal

pub invariant_of-result : goal.invariant_of-result
invariant_of-result g c = λ sound.
    let told = c.in-Ok.ensures.told in
    record {
      fits = c.read_disk.ensures.fits;
      has_gate = subst (λ (bytes : List ℕ). HasGateAt bytes (payloads_of bytes) c.in-Ok.told.gate) (sym c.read_disk.ensures.reads.content) (subst (λ (ps : List (List ℕ)). HasGateAt (g.D.Disk.state c.args.disk).content ps c.in-Ok.told.gate) (sym (payloads_are _ _ told.reads)) told);
      rest = c.in-Ok.ensures.rest;
    }

pub returns-in-Ok-clause-ok : goal.returns-in-Ok-clause-ok
returns-in-Ok-clause-ok g c =
    let payloads : payloads_of (g.D.Disk.state c.read_disk.new.disk).content ≡ c.in-Ok.told.payloads = ap payloads_of c.read_disk.ensures.reads.content ∙ payloads_are _ _ c.in-Ok.ensures.told.reads in
    let spare : vec_capacity c.new.result - 6 ≡ 0 = search rules in
    let state = λ (ps : List (List ℕ)) (n : ℕ). let s : JournalState g.row.D.Denot = record { disk = c.read_disk.new.disk; payloads = ps; spare = n; broken = false } in s in
    ap (λ (ps : List (List ℕ)). state ps (vec_capacity c.new.result - 6)) payloads ∙ ap (state c.in-Ok.told.payloads) spare

pub returns-in-Err-clause-never : goal.returns-in-Err-clause-never
returns-in-Err-clause-never g c = λ payloads reads. never_refused (g.D.Disk.state c.args.disk).content payloads c.in-Err.error reads c.in-Err.ensures.refused
