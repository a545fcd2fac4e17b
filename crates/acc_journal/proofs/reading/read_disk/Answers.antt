-- No call leaves another image than the content.
use Rattle.std.proofs.Common.{◌≢◌, Ok, Err, Result, sym, subst}
use Rattle.std.specs.Prelude.{IfErr}
use Rattle.std.proofs.lemmas.Result.{err_from_is_err_and}
use Rattle.acc_ports.specs.Disk.{IsAtRest}
use Rattle.acc_journal.specs.declared.error.JournalError.{JournalError}
use Rattle.acc_journal.specs.declared.error.JournalError.TheVariants as journal
use Rattle.acc_journal.specs.declared.reading.Told.{Told}
use Rattle.acc_journal.specs.Calls.{ReadsDisk, journal_answer}
use Rattle.acc_journal.proofs.DiskReads.{first_read, second_read, first_fails, no_room, second_fails, both_read, whatever_refused, rests_after, rests_then}
use Rattle.acc_journal.proofs.reading.read_disk.Goals as goal

pub returns-in_err-count-clause-reads : goal.returns-in_err-count-clause-reads
returns-in_err-count-clause-reads g c =
    let p = err_from_is_err_and c.from_residual.result c.from_residual.ensures.1 in
    let read = first_read g.D.Disk c.args.disk.now c.requires (g.met.D.Disk.only_now c.args.disk.now) c.len.new.self (Err c.in_err-count.field-0.0) c.in_err-count.ensures.images c.in_err-count.ensures.reads c.in_err-count.ensures.call in
    subst (λ (r : Result Told JournalError). ReadsDisk g.D.Disk c.args.disk.now c.len.new.self (journal_answer r)) (sym p.1)
    (first_fails g.D.Disk c.args.disk.now c.requires Told c.len.new.self c.in_err-count.field-0.0 p.0 p.2 read)

pub returns-in_err-resize-clause-reads : goal.returns-in_err-resize-clause-reads
returns-in_err-resize-clause-reads g c =
    let p = err_from_is_err_and c.from_residual-in_err-resize.result c.from_residual-in_err-resize.ensures.1 in
    let read = first_read g.D.Disk c.args.disk.now c.requires (g.met.D.Disk.only_now c.args.disk.now) c.len.new.self (Ok c.in_ok-count.count) c.in_ok-count.ensures.images c.in_ok-count.ensures.reads c.in_ok-count.ensures.call in
    subst (λ (r : Result Told JournalError). ReadsDisk g.D.Disk c.args.disk.now c.len.new.self (journal_answer r)) (sym p.1)
    (no_room g.D.Disk c.args.disk.now c.requires Told c.len.new.self p.0 p.2 read)

pub returns-in_err-read-clause-reads : goal.returns-in_err-read-clause-reads
returns-in_err-read-clause-reads g c =
    let p = err_from_is_err_and c.from_residual-in_err-read.result c.from_residual-in_err-read.ensures.1 in
    let first = first_read g.D.Disk c.args.disk.now c.requires (g.met.D.Disk.only_now c.args.disk.now) c.len.new.self (Ok c.in_ok-count.count) c.in_ok-count.ensures.images c.in_ok-count.ensures.reads c.in_ok-count.ensures.call in
    let read = second_read g.D.Disk c.args.disk.now c.requires c.len.new.self c.read.new.self (Err c.in_err-read.field-0.0) first c.in_err-read.ensures.images c.in_err-read.ensures.reads c.in_err-read.ensures.call in
    subst (λ (r : Result Told JournalError). ReadsDisk g.D.Disk c.args.disk.now c.read.new.self (journal_answer r)) (sym p.1)
    (second_fails g.D.Disk c.args.disk.now c.requires Told c.read.new.self c.in_err-read.field-0.0 p.0 p.2 read)

pub returns-clause-reads : goal.returns-clause-reads
returns-clause-reads g c =
    let first = first_read g.D.Disk c.args.disk.now c.requires (g.met.D.Disk.only_now c.args.disk.now) c.len.new.self (Ok c.in_ok-count.count) c.in_ok-count.ensures.images c.in_ok-count.ensures.reads c.in_ok-count.ensures.call in
    let read = second_read g.D.Disk c.args.disk.now c.requires c.len.new.self c.read.new.self (Ok c.in_ok-read.field-0) first c.in_ok-read.ensures.images c.in_ok-read.ensures.reads c.in_ok-read.ensures.call in
    both_read g.D.Disk c.args.disk.now c.requires c.read.new.self c.read_payloads.result c.read_payloads.ensures.no_fault read

pub returns-in_err-count-clause-err_rest : goal.returns-in_err-count-clause-err_rest
returns-in_err-count-clause-err_rest g c =
    let p = err_from_is_err_and c.from_residual.result c.from_residual.ensures.1 in
    let read = first_read g.D.Disk c.args.disk.now c.requires (g.met.D.Disk.only_now c.args.disk.now) c.len.new.self (Err c.in_err-count.field-0.0) c.in_err-count.ensures.images c.in_err-count.ensures.reads c.in_err-count.ensures.call in
    subst (λ (r : Result Told JournalError). IfErr r (λ e. e ≢ journal.OutOfMemory → IsAtRest (g.D.Disk.state c.len.new.self) (g.D.Disk.is_image c.len.new.self))) (sym p.1)
    (rests_after g.D.Disk c.args.disk.now c.requires 1 c.len.new.self c.in_err-count.field-0.0 p.0 p.2 read)

pub returns-in_err-resize-clause-err_rest : goal.returns-in_err-resize-clause-err_rest
returns-in_err-resize-clause-err_rest g c =
    let p = err_from_is_err_and c.from_residual-in_err-resize.result c.from_residual-in_err-resize.ensures.1 in
    subst (λ (r : Result Told JournalError). IfErr r (λ e. e ≢ journal.OutOfMemory → IsAtRest (g.D.Disk.state c.len.new.self) (g.D.Disk.is_image c.len.new.self))) (sym p.1)
    (λ not. absurd (not p.2))

pub returns-in_err-read-clause-err_rest : goal.returns-in_err-read-clause-err_rest
returns-in_err-read-clause-err_rest g c =
    let p = err_from_is_err_and c.from_residual-in_err-read.result c.from_residual-in_err-read.ensures.1 in
    let first = first_read g.D.Disk c.args.disk.now c.requires (g.met.D.Disk.only_now c.args.disk.now) c.len.new.self (Ok c.in_ok-count.count) c.in_ok-count.ensures.images c.in_ok-count.ensures.reads c.in_ok-count.ensures.call in
    let read = second_read g.D.Disk c.args.disk.now c.requires c.len.new.self c.read.new.self (Err c.in_err-read.field-0.0) first c.in_err-read.ensures.images c.in_err-read.ensures.reads c.in_err-read.ensures.call in
    subst (λ (r : Result Told JournalError). IfErr r (λ e. e ≢ journal.OutOfMemory → IsAtRest (g.D.Disk.state c.read.new.self) (g.D.Disk.is_image c.read.new.self))) (sym p.1)
    (rests_after g.D.Disk c.args.disk.now c.requires 2 c.read.new.self c.in_err-read.field-0.0 p.0 p.2 read)

pub returns-clause-err_rest : goal.returns-clause-err_rest
returns-clause-err_rest g c =
    let first = first_read g.D.Disk c.args.disk.now c.requires (g.met.D.Disk.only_now c.args.disk.now) c.len.new.self (Ok c.in_ok-count.count) c.in_ok-count.ensures.images c.in_ok-count.ensures.reads c.in_ok-count.ensures.call in
    let read = second_read g.D.Disk c.args.disk.now c.requires c.len.new.self c.read.new.self (Ok c.in_ok-read.field-0) first c.in_ok-read.ensures.images c.in_ok-read.ensures.reads c.in_ok-read.ensures.call in
    whatever_refused c.read_payloads.result _ (rests_then g.D.Disk c.args.disk.now c.requires c.read.new.self read)
